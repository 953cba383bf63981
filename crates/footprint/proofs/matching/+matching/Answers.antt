use Rattle.std.proofs.Common.{◌≡◌, suc, ◌+◌, ◌-◌, [], ◌∷◌, ◌++◌, length, map, take, Option, Some, None, sym, ap, subst, ◌∙◌, arith, length-take-le}
use Rattle.std.specs.Option.{option_map}
use Rattle.std.specs.Vec.Iter.{into_iter_items}
use Rattle.std.proofs.lemmas.List.{take_all, take_more, length-map, map-append}
use Rattle.gil_syntax.specs.Pure.{pure, uses}
use Rattle.gil_syntax.specs.Programs.{find_pred}
use Rattle.gil_syntax.specs.View.{assertion_view, item_view, expr_view, pred_use_view, pred_def_view}
use Rattle.mem_model.specs.declared.cores.Core.{Core}
use Rattle.mem_model.specs.CoreNames.{core_of}
use Rattle.assert_logic.specs.Matching.{try_pred, scope_of}
use Rattle.pure_terms.specs.View.{atoms_view}
use Rattle.sym_evaluation.specs.Meaning.{IsStoreOver}
use Rattle.sym_evaluation.specs.View.{good_view, store_view}
use Rattle.sym_matching.specs.View.{split_by, stores_view}
use Rattle.sym_model.specs.Lists.{Each}
use Rattle.sym_model.proofs.ListLaws.{each_to}
use Rattle.sym_states.specs.Meaning.{Serves, IsOverTable}
use Rattle.sym_states.specs.Producing.{MayAdd, FitsCore}
use Rattle.sym_states.specs.View.{state_view, states_view}
use Rattle.sym_states.proofs.ArgumentLaws.{spelled_parts}
use Rattle.sym_states.proofs.Produced.{item_more, each_item}
use Rattle.sym_states.proofs.Values.{ok_to}
use Rattle.footprint.specs.declared.leaves.Leaves.{Leaves}
use Rattle.footprint.specs.Assertions.{cases_at, ItemsGive, ItemsStop, IsMatchable, MatchesItem, NextMatched, AreAskedOver, UseGives, UseStops, IsOpen, CasesMatched}
use Rattle.footprint.specs.Cases.{StopsIn, CasesGive, CasesStop, CaseTried, NextCase, PredTried, PredMatched}
use Rattle.footprint.specs.Coming.{ItemComesFrom, ItemsComeFrom, NextComesFrom, UseComesFrom, PredComesFrom, TryComesFrom, RetryComesFrom, NextTryComesFrom, TriesComeFrom, CasesComeFrom}
use Rattle.footprint.specs.Consuming.{MayMatch}
use Rattle.footprint.specs.Items.{ItemGives, ItemStops}
use Rattle.footprint.specs.Leaves.{AreLeaves}
use Rattle.footprint.specs.Plainly.{IsPlainMemory, CoreStaysPlain, ItemStaysPlain, ItemsStayPlain}
use Rattle.footprint.specs.Pure.{PureStop, PureLeaves}
use Rattle.footprint.specs.Spreading.{joined, stops_at, Gathers}
use Rattle.footprint.specs.Uses.{AsksUse, HasAllIns}
use Rattle.sym_states.specs.Pure.{PureState}
use Rattle.footprint.specs.View.{choice_view, match_view, matches_view, stop_view, stops_view, asked_view, leaves_view}
use Rattle.footprint.proofs.AssertionLaws.{unasked_leaves, asked_leaves, q_over, q_asked_over, core_use, user_leaves, are_without_fit, is_open, IsWithoutFit}
use Rattle.footprint.proofs.CaseLaws.{end_leaves, next_case_leaves, no_case_leaves, renewed_over, renewed_store_over, misfit_leaves, pred_leaves, case_over, case_store_over, finish_leaves, cases_found, cases_unfound}
use Rattle.footprint.proofs.ItemOrigins.{guard_item_from, core_use_from, pred_use_from, items_begin_from, items_more_from, next_from}
use Rattle.footprint.proofs.ItemsLaw.{next_leaves, start_leaves, matchable_each, stops_in_each, items_over, guard_item}
use Rattle.footprint.proofs.Loops.{taken_more, taken_all, taken_has, each_read}
use Rattle.footprint.proofs.Parts.{gathers_more}
use Rattle.footprint.proofs.PlainUses.{unasked_plain, asked_plain, no_core_plain}
use Rattle.footprint.proofs.Plainness.{items_begin, items_more}
use Rattle.footprint.proofs.TryOrigins.{ended_from, try_from, tries_begin, tries_more}
use Rattle.footprint.proofs.UseOrigins.{user_from, pred_from, use_stops, unasked_from, use_from, misfits_from, cases_from}
use Rattle.footprint.proofs.matching.+matching.Goals as goal

pub match_items-loop-number-init : goal.match_items-loop-number-init
match_items-loop-number-init g t c =
    let s = state_view c.args.start.state in
    let bs = store_view c.args.start.store in
    let cs = cases_at (map pred_def_view c.args.preds.now) c.args.depth in
    let scope = c.args.scope.now in
    let m = match_view c.args.start in
    subst (λ x. AreLeaves g.M.SymMemory.stands g.M.SymMemory.terms g.M.SymMemory.kept s (Serves g.M.SymMemory.stands g.M.SymMemory.terms s bs) (ItemsGive cs scope []) (ItemsStop cs scope []) x × ItemsStayPlain (IsPlainMemory g.M.Local.LocalMemory.memory g.M.SymMemory.keeps_plain g.M.SymMemory.terms) [] m x × ItemsComeFrom g.M.SymMemory.terms (map pred_def_view c.args.preds.now) scope [] m x) (sym c.in_ok-leaves.ensures) (
      start_leaves g.M.SymMemory.stands g.M.SymMemory.terms g.M.SymMemory.kept cs scope s bs c.requires.start.over c.requires.start.store_over,
      items_begin g.M.Local.LocalMemory.memory g.M.SymMemory.keeps_plain g.M.SymMemory.terms g.M.SymMemory.stands g.M.SymMemory.kept m,
      items_begin_from g.M.SymMemory.terms (map pred_def_view c.args.preds.now) scope m,
    )

pub match_items-loop-number-preserved : goal.match_items-loop-number-preserved
match_items-loop-number-preserved g t c =
    let s = state_view c.args.start.state in
    let bs = store_view c.args.start.store in
    let cs = cases_at (map pred_def_view c.args.preds.now) c.args.depth in
    let scope = c.args.scope.now in
    let xs = c.as_slice-items.result.now in
    let i = c.loop-number.number in
    let item = c.index-items-number.result in
    let before = assertion_view (take i xs) in
    let If = Serves g.M.SymMemory.stands g.M.SymMemory.terms s bs in
    let seen : assertion_view (take (i + 1) xs) ≡ before ++ item_view item ∷ [] = item_more xs i item c.loop-number-test.true c.index-items-number.is in
    let size : i ≡ length before = sym (length-map (take i xs) item_view ∙ length-take-le i xs (omega (arith, c.loop-number-test.true))) in
    let m = match_view c.args.start in
    subst (λ ys. AreLeaves g.M.SymMemory.stands g.M.SymMemory.terms g.M.SymMemory.kept s If (ItemsGive cs scope ys) (ItemsStop cs scope ys) (leaves_view c.in_ok-leaves-2.leaves) × ItemsStayPlain (IsPlainMemory g.M.Local.LocalMemory.memory g.M.SymMemory.keeps_plain g.M.SymMemory.terms) ys m (leaves_view c.in_ok-leaves-2.leaves) × ItemsComeFrom g.M.SymMemory.terms (map pred_def_view c.args.preds.now) scope ys m (leaves_view c.in_ok-leaves-2.leaves)) (sym seen) (
      next_leaves g.M.SymMemory.stands g.M.SymMemory.terms g.M.SymMemory.kept cs scope s If (IsPlainMemory g.M.Local.LocalMemory.memory g.M.SymMemory.keeps_plain g.M.SymMemory.terms) before (item_view item) i size (leaves_view c.loop-number.leaves) (leaves_view c.in_ok-leaves-2.leaves) c.loop-number.invariant.0 c.in_ok-leaves-2.ensures.says,
      items_more g.M.Local.LocalMemory.memory g.M.SymMemory.keeps_plain g.M.SymMemory.terms g.M.SymMemory.stands g.M.SymMemory.kept i cs scope before (item_view item) m (leaves_view c.loop-number.leaves) (leaves_view c.in_ok-leaves-2.leaves) c.loop-number.invariant.1 c.in_ok-leaves-2.ensures.says,
      items_more_from g.M.SymMemory.terms (map pred_def_view c.args.preds.now) scope before (item_view item) m (leaves_view c.loop-number.leaves) (leaves_view c.in_ok-leaves-2.leaves) c.loop-number.invariant.2 c.in_ok-leaves-2.ensures.origin,
    )

pub match_items-match_next-requires : goal.match_items-match_next-requires
match_items-match_next-requires g t c κs within =
    let s = state_view c.args.start.state in
    let bs = store_view c.args.start.store in
    let cs = cases_at (map pred_def_view c.args.preds.now) c.args.depth in
    let scope = c.args.scope.now in
    let xs = c.as_slice-items.result.now in
    let i = c.loop-number.number in
    let item = c.index-items-number.result in
    let If = Serves g.M.SymMemory.stands g.M.SymMemory.terms s bs in
    let each = matchable_each g.M.SymMemory.stands g.M.SymMemory.terms g.M.SymMemory.kept s If (ItemsGive cs scope (assertion_view (take i xs))) (ItemsStop cs scope (assertion_view (take i xs))) (leaves_view c.loop-number.leaves) c.loop-number.invariant.0 in
    let may = each_item (MayAdd g.M.Local.LocalMemory.memory) xs i item c.loop-number-test.true c.index-items-number.is (subst (λ ys. Each (MayAdd g.M.Local.LocalMemory.memory) (assertion_view ys)) (sym c.as_slice-items.ensures) c.requires.may) in
    (omega arith, (within.0, (within.1.0, (within.1.1, (each, (may, c.requires.cases))))))

pub match_items-returns-clause-says : goal.match_items-returns-clause-says
match_items-returns-clause-says g t c =
    let s = state_view c.args.start.state in
    let bs = store_view c.args.start.store in
    let cs = cases_at (map pred_def_view c.args.preds.now) c.args.depth in
    let scope = c.args.scope.now in
    let all = take_all c.loop-number.number c.as_slice-items.result.now (omega (arith, c.loop-number-test.false)) ∙ c.as_slice-items.ensures in
    subst (λ ys. AreLeaves g.M.SymMemory.stands g.M.SymMemory.terms g.M.SymMemory.kept s (Serves g.M.SymMemory.stands g.M.SymMemory.terms s bs) (ItemsGive cs scope (assertion_view ys)) (ItemsStop cs scope (assertion_view ys)) (leaves_view c.loop-number.leaves)
    × ItemsStayPlain (IsPlainMemory g.M.Local.LocalMemory.memory g.M.SymMemory.keeps_plain g.M.SymMemory.terms) (assertion_view ys) (match_view c.args.start) (leaves_view c.loop-number.leaves)) all (c.loop-number.invariant.0, c.loop-number.invariant.1)

pub match_items-returns-clause-origin : goal.match_items-returns-clause-origin
match_items-returns-clause-origin g t c =
    let all = take_all c.loop-number.number c.as_slice-items.result.now (omega (arith, c.loop-number-test.false)) ∙ c.as_slice-items.ensures in
    subst (λ ys. ItemsComeFrom g.M.SymMemory.terms (map pred_def_view c.args.preds.now) c.args.scope.now (assertion_view ys) (match_view c.args.start) (leaves_view c.loop-number.leaves)) all c.loop-number.invariant.2

pub match_next-loop-found-preserved : goal.match_next-loop-found-preserved
match_next-loop-found-preserved g t c =
    let P = MatchesItem g.M.SymMemory.stands g.M.SymMemory.terms g.M.SymMemory.kept (IsPlainMemory g.M.Local.LocalMemory.memory g.M.SymMemory.keeps_plain g.M.SymMemory.terms) c.args.number (cases_at (map pred_def_view c.args.preds.now) c.args.depth) c.args.scope.now (item_view c.args.item.now) in
    let Q = ItemComesFrom g.M.SymMemory.terms (map pred_def_view c.args.preds.now) c.args.scope.now (item_view c.args.item.now) in
    let before = matches_view c.loop-found.yielded in
    let x = match_view c.in-Some.found in
    let longer : length (into_iter_items c.loop-found.found-iterator) ≡ length (into_iter_items c.next.new.self) + 1 = ap length c.in-Some.ensures.steps.0 ∙ omega arith in
    record {
      counted = omega (arith, longer, c.in-Some.ensures.steps.1, c.loop-found.invariant.counted);
      rest = taken_more c.args.leaves.matched c.loop-found.yielded (into_iter_items c.loop-found.found-iterator) (into_iter_items c.next.new.self) c.in-Some.found c.loop-found.invariant.rest c.in-Some.ensures.steps.0;
      gathers = subst (λ xs. Gathers P xs (leaves_view c.in_ok-next.next)) (sym (map-append match_view c.loop-found.yielded (c.in-Some.found ∷ [])))
          (subst (Gathers P (before ++ x ∷ [])) (sym c.in_ok-next.ensures)
          (gathers_more P before x (leaves_view c.loop-found.next) (leaves_view c.in_ok-more.more) c.loop-found.invariant.gathers c.in_ok-more.ensures.says));
      origin = subst (λ xs. Gathers Q xs (leaves_view c.in_ok-next.next)) (sym (map-append match_view c.loop-found.yielded (c.in-Some.found ∷ [])))
          (subst (Gathers Q (before ++ x ∷ [])) (sym c.in_ok-next.ensures)
          (gathers_more Q before x (leaves_view c.loop-found.next) (leaves_view c.in_ok-more.more) c.loop-found.invariant.origin c.in_ok-more.ensures.origin));
    }

pub match_next-match_item-requires : goal.match_next-match_item-requires
match_next-match_item-requires g t c κs within =
    (omega arith, (within.0, (within.1.0, (within.1.1, (taken_has (IsMatchable g.M.SymMemory.terms) match_view c.args.leaves.matched c.loop-found.yielded (into_iter_items c.loop-found.found-iterator) (into_iter_items c.next.new.self) c.in-Some.found c.loop-found.invariant.rest c.in-Some.ensures.steps.0 c.requires.each, (c.requires.may, c.requires.cases))))))

pub match_next-prune-requires : goal.match_next-prune-requires
match_next-prune-requires g t c =
    items_over g.M.SymMemory.stands g.M.SymMemory.terms g.M.SymMemory.kept (IsPlainMemory g.M.Local.LocalMemory.memory g.M.SymMemory.keeps_plain g.M.SymMemory.terms) c.args.number (cases_at (map pred_def_view c.args.preds.now) c.args.depth) c.args.scope.now (item_view c.args.item.now) (matches_view c.loop-found.yielded) (leaves_view c.loop-found.next) c.loop-found.invariant.gathers

pub match_next-returns-clause-says : goal.match_next-returns-clause-says
match_next-returns-clause-says g t c =
    let P = MatchesItem g.M.SymMemory.stands g.M.SymMemory.terms g.M.SymMemory.kept (IsPlainMemory g.M.Local.LocalMemory.memory g.M.SymMemory.keeps_plain g.M.SymMemory.terms) c.args.number (cases_at (map pred_def_view c.args.preds.now) c.args.depth) c.args.scope.now (item_view c.args.item.now) in
    let next = leaves_view c.loop-found.next in
    let pruned = leaves_view c.in_ok-next-2.next in
    let before = leaves_view c.args.leaves in
    let all : c.args.leaves.matched ≡ c.loop-found.yielded = taken_all c.args.leaves.matched c.loop-found.yielded (into_iter_items c.loop-found.found-iterator) c.loop-found.invariant.rest (sym c.loop-found.invariant.counted ∙ c.in-None.ensures.steps.0) in
    ok_to c.joined_with-2.result _ (λ r. NextMatched g.M.SymMemory.stands g.M.SymMemory.terms g.M.SymMemory.kept (IsPlainMemory g.M.Local.LocalMemory.memory g.M.SymMemory.keeps_plain g.M.SymMemory.terms) c.args.number (cases_at (map pred_def_view c.args.preds.now) c.args.depth) c.args.scope.now (item_view c.args.item.now) before (leaves_view r))
    (λ r is. (
      next,
      (
        pruned,
        (
          subst (λ ms. Gathers P (matches_view ms) next) (sym all) c.loop-found.invariant.gathers,
          c.in_ok-next-2.ensures,
          is ∙ ap (λ ms. joined (record { matched = matches_view ms; stopped = before.stopped; undecided = before.undecided }) pruned) c.new.ensures,
        ),
      ),
    )) c.joined_with-2.ensures

pub match_next-returns-clause-origin : goal.match_next-returns-clause-origin
match_next-returns-clause-origin g t c =
    let Q = ItemComesFrom g.M.SymMemory.terms (map pred_def_view c.args.preds.now) c.args.scope.now (item_view c.args.item.now) in
    let next = leaves_view c.loop-found.next in
    let pruned = leaves_view c.in_ok-next-2.next in
    let before = leaves_view c.args.leaves in
    let all : c.args.leaves.matched ≡ c.loop-found.yielded = taken_all c.args.leaves.matched c.loop-found.yielded (into_iter_items c.loop-found.found-iterator) c.loop-found.invariant.rest (sym c.loop-found.invariant.counted ∙ c.in-None.ensures.steps.0) in
    ok_to c.joined_with-2.result _ (λ r. NextComesFrom g.M.SymMemory.terms (map pred_def_view c.args.preds.now) c.args.scope.now (item_view c.args.item.now) before (leaves_view r))
    (λ r is. next_from g.M.SymMemory.terms (map pred_def_view c.args.preds.now) c.args.scope.now g.M.SymMemory.stands g.M.SymMemory.kept (item_view c.args.item.now) before next pruned (leaves_view r)
    (subst (λ ms. Gathers Q (matches_view ms) next) (sym all) c.loop-found.invariant.origin) c.in_ok-next-2.ensures
    (is ∙ ap (λ ms. joined (record { matched = matches_view ms; stopped = before.stopped; undecided = before.undecided }) pruned) c.new.ensures)) c.joined_with-2.ensures

pub match_item-returns-in-Pure-clause-says : goal.match_item-returns-in-Pure-clause-says
match_item-returns-in-Pure-clause-says g t c =
    let s = state_view c.args.found.state in
    let bs = store_view c.args.found.store in
    let e = expr_view c.in-Pure.expression in
    let seen : pure e ≡ item_view c.args.item.now = sym (ap item_view c.in-Pure.is) in
    ok_to c.match_guard.result _ (λ r. MatchesItem g.M.SymMemory.stands g.M.SymMemory.terms g.M.SymMemory.kept (IsPlainMemory g.M.Local.LocalMemory.memory g.M.SymMemory.keeps_plain g.M.SymMemory.terms) c.args.number (cases_at (map pred_def_view c.args.preds.now) c.args.depth) c.args.scope.now (item_view c.args.item.now) (match_view c.args.found) (leaves_view r))
    (λ r are. subst (λ x. MatchesItem g.M.SymMemory.stands g.M.SymMemory.terms g.M.SymMemory.kept (IsPlainMemory g.M.Local.LocalMemory.memory g.M.SymMemory.keeps_plain g.M.SymMemory.terms) c.args.number (cases_at (map pred_def_view c.args.preds.now) c.args.depth) c.args.scope.now x (match_view c.args.found) (leaves_view r)) seen
    (guard_item g.M.SymMemory.stands g.M.SymMemory.terms g.M.SymMemory.kept c.args.number (cases_at (map pred_def_view c.args.preds.now) c.args.depth) c.args.scope.now e s bs (leaves_view r) c.requires.found.over are.0, are.1)) c.match_guard.ensures.says

pub match_item-returns-in-Pure-clause-origin : goal.match_item-returns-in-Pure-clause-origin
match_item-returns-in-Pure-clause-origin g t c =
    let s = state_view c.args.found.state in
    let bs = store_view c.args.found.store in
    let e = expr_view c.in-Pure.expression in
    let seen : pure e ≡ item_view c.args.item.now = sym (ap item_view c.in-Pure.is) in
    ok_to c.match_guard.result _ (λ r. ItemComesFrom g.M.SymMemory.terms (map pred_def_view c.args.preds.now) c.args.scope.now (item_view c.args.item.now) (match_view c.args.found) (leaves_view r))
    (λ r come. subst (λ x. ItemComesFrom g.M.SymMemory.terms (map pred_def_view c.args.preds.now) c.args.scope.now x (match_view c.args.found) (leaves_view r)) seen
    (guard_item_from g.M.SymMemory.terms (map pred_def_view c.args.preds.now) c.args.scope.now e bs s (leaves_view r) come)) c.match_guard.ensures.origin

pub match_item-returns-clause-says : goal.match_item-returns-clause-says
match_item-returns-clause-says g t c =
    let u = pred_use_view c.in-Uses.used in
    let seen : uses u ≡ item_view c.args.item.now = sym (ap item_view c.in-Uses.is) in
    ok_to c.match_use.result _ (λ r. MatchesItem g.M.SymMemory.stands g.M.SymMemory.terms g.M.SymMemory.kept (IsPlainMemory g.M.Local.LocalMemory.memory g.M.SymMemory.keeps_plain g.M.SymMemory.terms) c.args.number (cases_at (map pred_def_view c.args.preds.now) c.args.depth) c.args.scope.now (item_view c.args.item.now) (match_view c.args.found) (leaves_view r))
    (λ r are. subst (λ x. MatchesItem g.M.SymMemory.stands g.M.SymMemory.terms g.M.SymMemory.kept (IsPlainMemory g.M.Local.LocalMemory.memory g.M.SymMemory.keeps_plain g.M.SymMemory.terms) c.args.number (cases_at (map pred_def_view c.args.preds.now) c.args.depth) c.args.scope.now x (match_view c.args.found) (leaves_view r)) seen are) c.match_use.ensures.says

pub match_item-returns-clause-origin : goal.match_item-returns-clause-origin
match_item-returns-clause-origin g t c =
    let u = pred_use_view c.in-Uses.used in
    let seen : uses u ≡ item_view c.args.item.now = sym (ap item_view c.in-Uses.is) in
    ok_to c.match_use.result _ (λ r. ItemComesFrom g.M.SymMemory.terms (map pred_def_view c.args.preds.now) c.args.scope.now (item_view c.args.item.now) (match_view c.args.found) (leaves_view r))
    (λ r come. subst (λ x. ItemComesFrom g.M.SymMemory.terms (map pred_def_view c.args.preds.now) c.args.scope.now x (match_view c.args.found) (leaves_view r)) seen come) c.match_use.ensures.origin

pub match_asked-match_core-requires : goal.match_asked-match_core-requires
match_asked-match_core-requires g t c =
    let s = state_view c.args.state.now in
    let bs = store_view c.args.store.now in
    let u = pred_use_view c.args.used.now in
    let a = asked_view c.args.asked.now in
    let named : core_of u.pred ≡ Some c.in-Some.field-0 = sym c.from_name.ensures ∙ c.in-Some.is in
    let fit : FitsCore g.M.Local.LocalMemory.memory (Some c.in-Some.field-0) u = subst (λ o. FitsCore g.M.Local.LocalMemory.memory o u) named c.requires.may.1 in
    record {
      spelled = (spelled_parts u c.requires.may.0).1;
      takes = record { core = c.in-Some.field-0; of_memory = record { named = named; has = fit.0 }; ins_number = c.requires.ins_number ∙ fit.1 };
      over = c.requires.over;
      store_over = c.requires.store_over;
      ins_over = c.requires.asked.0;
    }

pub match_asked-returns-in-Some-clause-says : goal.match_asked-returns-in-Some-clause-says
match_asked-returns-in-Some-clause-says g t c =
    let s = state_view c.args.state.now in
    let bs = store_view c.args.store.now in
    let u = pred_use_view c.args.used.now in
    let a = asked_view c.args.asked.now in
    let named : core_of u.pred ≡ Some c.in-Some.field-0 = sym c.from_name.ensures ∙ c.in-Some.is in
    ok_to c.match_core.result _ (λ r. AreLeaves g.M.SymMemory.stands g.M.SymMemory.terms g.M.SymMemory.kept s (AsksUse g.M.SymMemory.stands g.M.SymMemory.terms s bs a) (UseGives (cases_at (map pred_def_view c.args.preds.now) c.args.depth) c.args.scope.now (core_of u.pred) u a) (UseStops c.args.number (cases_at (map pred_def_view c.args.preds.now) c.args.depth) c.args.scope.now (core_of u.pred) u a) (leaves_view r)
    × CoreStaysPlain (IsPlainMemory g.M.Local.LocalMemory.memory g.M.SymMemory.keeps_plain g.M.SymMemory.terms) u a.ins bs s (leaves_view r))
    (λ r are. (core_use g.M.SymMemory.stands g.M.SymMemory.terms g.M.SymMemory.kept c.args.number (cases_at (map pred_def_view c.args.preds.now) c.args.depth) c.args.scope.now c.in-Some.field-0 u s bs a (leaves_view r) named c.requires.over are.0, are.1)) c.match_core.ensures.says

pub match_asked-returns-in-Some-clause-origin : goal.match_asked-returns-in-Some-clause-origin
match_asked-returns-in-Some-clause-origin g t c =
    let s = state_view c.args.state.now in
    let bs = store_view c.args.store.now in
    let u = pred_use_view c.args.used.now in
    let a = asked_view c.args.asked.now in
    ok_to c.match_core.result _ (λ r. UseComesFrom g.M.SymMemory.terms (map pred_def_view c.args.preds.now) c.args.scope.now u bs a s (leaves_view r))
    (λ r come. core_use_from g.M.SymMemory.terms (map pred_def_view c.args.preds.now) c.args.scope.now u bs a s (leaves_view r) come) c.match_core.ensures.origin

pub match_asked-returns-in-None-clause-says : goal.match_asked-returns-in-None-clause-says
match_asked-returns-in-None-clause-says g t c =
    let s = state_view c.args.state.now in
    let bs = store_view c.args.store.now in
    let u = pred_use_view c.args.used.now in
    let a = asked_view c.args.asked.now in
    let named : core_of u.pred ≡ None = sym c.from_name.ensures ∙ c.in-None.is in
    let Are = λ (o : Option Core) (r : Leaves g.row.M.Denot). AreLeaves g.M.SymMemory.stands g.M.SymMemory.terms g.M.SymMemory.kept s (AsksUse g.M.SymMemory.stands g.M.SymMemory.terms s bs a) (UseGives (cases_at (map pred_def_view c.args.preds.now) c.args.depth) c.args.scope.now o u a) (UseStops c.args.number (cases_at (map pred_def_view c.args.preds.now) c.args.depth) c.args.scope.now o u a) (leaves_view r) in
    ok_to c.match_user.result _ (λ r. Are (core_of u.pred) r × CoreStaysPlain (IsPlainMemory g.M.Local.LocalMemory.memory g.M.SymMemory.keeps_plain g.M.SymMemory.terms) u a.ins bs s (leaves_view r))
    (λ r are. (subst (λ (o : Option Core). Are o r) (sym named) are, no_core_plain g.M.Local.LocalMemory.memory g.M.SymMemory.keeps_plain g.M.SymMemory.terms c.args.number c.args.scope.now u s bs c.requires.store_over named a.ins (leaves_view r))) c.match_user.ensures.says

pub match_cases-match_found-requires : goal.match_cases-match_found-requires
match_cases-match_found-requires g t c κs within =
    let s = state_view c.args.state in
    let bs = store_view c.args.store.now in
    let u = pred_use_view c.args.used.now in
    let a = asked_view c.args.asked.now in
    let preds = map pred_def_view c.args.preds.now in
    let found : find_pred preds u.pred ≡ Some (pred_def_view c.in-Some.pred.now) = sym c.pred_of.ensures ∙ ap (option_map (λ d. pred_def_view d.now)) c.in-Some.is in
    (omega (arith, c.if-depth-eq0.false), (within.0, (within.1.0, (within.1.1, (c.requires.open, (c.requires.may, (c.requires.cases (pred_def_view c.in-Some.pred.now) u.pred found, c.requires.cases)))))))

pub match_cases-returns-in-Some-clause-says : goal.match_cases-returns-in-Some-clause-says
match_cases-returns-in-Some-clause-says g t c =
    let s = state_view c.args.state in
    let bs = store_view c.args.store.now in
    let u = pred_use_view c.args.used.now in
    let a = asked_view c.args.asked.now in
    let preds = map pred_def_view c.args.preds.now in
    let d = pred_def_view c.in-Some.pred.now in
    let found : find_pred preds u.pred ≡ Some d = sym c.pred_of.ensures ∙ ap (option_map (λ d. pred_def_view d.now)) c.in-Some.is in
    let size : suc (c.args.depth - 1) ≡ c.args.depth = omega (arith, c.if-depth-eq0.false) in
    ok_to c.match_found.result _ (λ r. CasesMatched g.M.SymMemory.stands g.M.SymMemory.terms g.M.SymMemory.kept c.args.number (cases_at preds c.args.depth) c.args.scope.now u bs a s (leaves_view r))
    (λ r are. subst (λ n. CasesMatched g.M.SymMemory.stands g.M.SymMemory.terms g.M.SymMemory.kept c.args.number (cases_at preds n) c.args.scope.now u bs a s (leaves_view r)) size
    (cases_found g.M.SymMemory.stands g.M.SymMemory.terms g.M.SymMemory.kept c.args.number (c.args.depth - 1) preds c.args.scope.now d u s bs a (leaves_view r) c.requires.open.over found are)) c.match_found.ensures.says

pub match_cases-returns-in-Some-clause-origin : goal.match_cases-returns-in-Some-clause-origin
match_cases-returns-in-Some-clause-origin g t c =
    let s = state_view c.args.state in
    let bs = store_view c.args.store.now in
    let u = pred_use_view c.args.used.now in
    let a = asked_view c.args.asked.now in
    let preds = map pred_def_view c.args.preds.now in
    let d = pred_def_view c.in-Some.pred.now in
    let found : find_pred preds u.pred ≡ Some d = sym c.pred_of.ensures ∙ ap (option_map (λ d. pred_def_view d.now)) c.in-Some.is in
    ok_to c.match_found.result _ (λ r. UseComesFrom g.M.SymMemory.terms preds c.args.scope.now u bs a s (leaves_view r))
    (λ r come. pred_use_from g.M.SymMemory.terms preds c.args.scope.now u bs a s d (leaves_view r) found come) c.match_found.ensures.origin

pub match_cases-returns-in-None-clause-says : goal.match_cases-returns-in-None-clause-says
match_cases-returns-in-None-clause-says g t c =
    let s = state_view c.args.state in
    let bs = store_view c.args.store.now in
    let u = pred_use_view c.args.used.now in
    let a = asked_view c.args.asked.now in
    let preds = map pred_def_view c.args.preds.now in
    let none : find_pred preds u.pred ≡ None = sym c.pred_of.ensures ∙ ap (option_map (λ d. pred_def_view d.now)) c.in-None.is in
    let size : suc (c.args.depth - 1) ≡ c.args.depth = omega (arith, c.if-depth-eq0.false) in
    ok_to c.stop_in-in-None.result _ (λ r. CasesMatched g.M.SymMemory.stands g.M.SymMemory.terms g.M.SymMemory.kept c.args.number (cases_at preds c.args.depth) c.args.scope.now u bs a s (leaves_view r))
    (λ r is. subst (λ n. CasesMatched g.M.SymMemory.stands g.M.SymMemory.terms g.M.SymMemory.kept c.args.number (cases_at preds n) c.args.scope.now u bs a s (leaves_view r)) size
    (cases_unfound g.M.SymMemory.stands g.M.SymMemory.terms g.M.SymMemory.kept c.args.number (cases_at preds (suc (c.args.depth - 1))) c.args.scope.now u s bs a (leaves_view r) c.requires.open.over
    (λ ws os l. ap (λ o. try_pred (cases_at preds (c.args.depth - 1)) o ws os l) none) is)) c.stop_in-in-None.ensures

pub match_cases-returns-in-None-clause-origin : goal.match_cases-returns-in-None-clause-origin
match_cases-returns-in-None-clause-origin g t c =
    let s = state_view c.args.state in
    let bs = store_view c.args.store.now in
    let u = pred_use_view c.args.used.now in
    let a = asked_view c.args.asked.now in
    ok_to c.stop_in-in-None.result _ (λ r. UseComesFrom g.M.SymMemory.terms (map pred_def_view c.args.preds.now) c.args.scope.now u bs a s (leaves_view r))
    (λ r is. subst (UseComesFrom g.M.SymMemory.terms (map pred_def_view c.args.preds.now) c.args.scope.now u bs a s) (sym is) (use_stops g.M.SymMemory.terms c.args.scope.now c.args.number u bs (map pred_def_view c.args.preds.now) s a)) c.stop_in-in-None.ensures

pub match_found-returns-clause-says : goal.match_found-returns-clause-says
match_found-returns-clause-says g t c =
    let s = state_view c.args.state in
    let bs = store_view c.args.store.now in
    let u = pred_use_view c.args.used.now in
    let a = asked_view c.args.asked.now in
    let preds = map pred_def_view c.args.preds.now in
    let d = pred_def_view c.args.pred.now in
    ok_to c.finish.result _ (λ r. PredMatched g.M.SymMemory.stands g.M.SymMemory.terms g.M.SymMemory.kept c.args.number (cases_at (map pred_def_view c.args.preds.now) c.args.depth) c.args.scope.now d u bs a s (leaves_view r))
    (λ r is. finish_leaves g.M.SymMemory.stands g.M.SymMemory.terms g.M.SymMemory.kept c.args.number (cases_at (map pred_def_view c.args.preds.now) c.args.depth) c.args.scope.now d u s bs a c.requires.over.over c.requires.over.store_over (leaves_view c.in_ok-tried.tried) (leaves_view r) c.in_ok-tried.ensures.says is) c.finish.ensures

pub match_found-returns-clause-origin : goal.match_found-returns-clause-origin
match_found-returns-clause-origin g t c =
    let s = state_view c.args.state in
    let bs = store_view c.args.store.now in
    let u = pred_use_view c.args.used.now in
    let a = asked_view c.args.asked.now in
    let d = pred_def_view c.args.pred.now in
    ok_to c.finish.result _ (λ r. PredComesFrom g.M.SymMemory.terms (map pred_def_view c.args.preds.now) c.args.scope.now d u bs a s (leaves_view r))
    (λ r is. pred_from g.M.SymMemory.terms c.args.scope.now c.args.number u bs (map pred_def_view c.args.preds.now) s a d (leaves_view c.in_ok-tried.tried) (leaves_view r) c.in_ok-tried.ensures.origin is) c.finish.ensures

pub match_open-loop-state-preserved : goal.match_open-loop-state-preserved
match_open-loop-state-preserved g t c =
    let P = CasesMatched g.M.SymMemory.stands g.M.SymMemory.terms g.M.SymMemory.kept c.args.number (cases_at (map pred_def_view c.args.preds.now) c.args.depth) c.args.scope.now (pred_use_view c.args.used.now) (store_view c.args.store.now) (asked_view c.args.asked.now) in
    let Q = UseComesFrom g.M.SymMemory.terms (map pred_def_view c.args.preds.now) c.args.scope.now (pred_use_view c.args.used.now) (store_view c.args.store.now) (asked_view c.args.asked.now) in
    let before = states_view c.loop-state.yielded in
    let x = state_view c.in-Some.state in
    let longer : length (into_iter_items c.loop-state.state-iterator) ≡ length (into_iter_items c.next.new.self) + 1 = ap length c.in-Some.ensures.steps.0 ∙ omega arith in
    record {
      counted = omega (arith, longer, c.in-Some.ensures.steps.1, c.loop-state.invariant.counted);
      rest = taken_more c.args.states c.loop-state.yielded (into_iter_items c.loop-state.state-iterator) (into_iter_items c.next.new.self) c.in-Some.state c.loop-state.invariant.rest c.in-Some.ensures.steps.0;
      gathers = subst (λ xs. Gathers P xs (leaves_view c.in_ok-leaves.leaves)) (sym (map-append state_view c.loop-state.yielded (c.in-Some.state ∷ [])))
          (subst (Gathers P (before ++ x ∷ [])) (sym c.in_ok-leaves.ensures)
          (gathers_more P before x (leaves_view c.loop-state.leaves) (leaves_view c.in_ok-more.more) c.loop-state.invariant.gathers c.in_ok-more.ensures.says));
      origin = subst (λ xs. Gathers Q xs (leaves_view c.in_ok-leaves.leaves)) (sym (map-append state_view c.loop-state.yielded (c.in-Some.state ∷ [])))
          (subst (Gathers Q (before ++ x ∷ [])) (sym c.in_ok-leaves.ensures)
          (gathers_more Q before x (leaves_view c.loop-state.leaves) (leaves_view c.in_ok-more.more) c.loop-state.invariant.origin c.in_ok-more.ensures.origin));
    }

pub match_open-match_cases-requires : goal.match_open-match_cases-requires
match_open-match_cases-requires g t c κs within =
    (omega arith, (within.0, (within.1.0, (within.1.1, (taken_has (IsOpen g.M.SymMemory.terms (store_view c.args.store.now) (asked_view c.args.asked.now)) state_view c.args.states c.loop-state.yielded (into_iter_items c.loop-state.state-iterator) (into_iter_items c.next.new.self) c.in-Some.state c.loop-state.invariant.rest c.in-Some.ensures.steps.0 c.requires.each, (c.requires.may, c.requires.cases))))))

pub match_open-returns-clause-says : goal.match_open-returns-clause-says
match_open-returns-clause-says g t c =
    let all : c.args.states ≡ c.loop-state.yielded = taken_all c.args.states c.loop-state.yielded (into_iter_items c.loop-state.state-iterator) c.loop-state.invariant.rest (sym c.loop-state.invariant.counted ∙ c.in-None.ensures.steps.0) in
    subst (λ qs. Gathers (CasesMatched g.M.SymMemory.stands g.M.SymMemory.terms g.M.SymMemory.kept c.args.number (cases_at (map pred_def_view c.args.preds.now) c.args.depth) c.args.scope.now (pred_use_view c.args.used.now) (store_view c.args.store.now) (asked_view c.args.asked.now)) (states_view qs) (leaves_view c.loop-state.leaves)) (sym all) c.loop-state.invariant.gathers

pub match_open-returns-clause-origin : goal.match_open-returns-clause-origin
match_open-returns-clause-origin g t c =
    let all : c.args.states ≡ c.loop-state.yielded = taken_all c.args.states c.loop-state.yielded (into_iter_items c.loop-state.state-iterator) c.loop-state.invariant.rest (sym c.loop-state.invariant.counted ∙ c.in-None.ensures.steps.0) in
    subst (λ qs. Gathers (UseComesFrom g.M.SymMemory.terms (map pred_def_view c.args.preds.now) c.args.scope.now (pred_use_view c.args.used.now) (store_view c.args.store.now) (asked_view c.args.asked.now)) (states_view qs) (leaves_view c.loop-state.leaves)) (sym all) c.loop-state.invariant.origin

pub match_use-returns-in-None-clause-says : goal.match_use-returns-in-None-clause-says
match_use-returns-in-None-clause-says g t c =
    let s = state_view c.args.state in
    let bs = store_view c.args.store.now in
    let u = pred_use_view c.args.used.now in
    let x = split_by asked_view c.in_ok-found.field-0 in
    let stopped_are = c.in_ok-stopped.ensures ∙ ap (λ cs. stops_at c.args.number cs x.none) c.atoms.ensures in
    let are : leaves_view c.of_stops-leaves.result ≡ record { matched = []; stopped = stops_at c.args.number s.conds x.none; undecided = [] } = c.of_stops-leaves.ensures ∙ ap (λ ys. record { matched = []; stopped = ys; undecided = [] }) stopped_are in
    subst (λ y. AreLeaves g.M.SymMemory.stands g.M.SymMemory.terms g.M.SymMemory.kept s (Serves g.M.SymMemory.stands g.M.SymMemory.terms s bs) (ItemGives (cases_at (map pred_def_view c.args.preds.now) c.args.depth) c.args.scope.now (uses u)) (ItemStops c.args.number (cases_at (map pred_def_view c.args.preds.now) c.args.depth) c.args.scope.now (uses u)) y
    × ItemStaysPlain (IsPlainMemory g.M.Local.LocalMemory.memory g.M.SymMemory.keeps_plain g.M.SymMemory.terms) (uses u) (record { state = s; store = bs }) y) (sym are) (
      unasked_leaves g.M.SymMemory.stands g.M.SymMemory.terms g.M.SymMemory.kept c.args.number (cases_at (map pred_def_view c.args.preds.now) c.args.depth) c.args.scope.now u s bs c.requires.over c.requires.store_over x c.in_ok-found.ensures.says c.in_ok-found.ensures.names (ap (option_map (good_view asked_view)) c.in-None.is),
      unasked_plain g.M.Local.LocalMemory.memory g.M.SymMemory.keeps_plain g.M.SymMemory.terms c.args.number c.args.scope.now u s bs c.requires.store_over x c.in_ok-found.ensures.plain,
    )

pub match_use-returns-in-None-clause-origin : goal.match_use-returns-in-None-clause-origin
match_use-returns-in-None-clause-origin g t c =
    let s = state_view c.args.state in
    let bs = store_view c.args.store.now in
    let u = pred_use_view c.args.used.now in
    let x = split_by asked_view c.in_ok-found.field-0 in
    let stopped_are = c.in_ok-stopped.ensures ∙ ap (λ cs. stops_at c.args.number cs x.none) c.atoms.ensures in
    let are : leaves_view c.of_stops-leaves.result ≡ record { matched = []; stopped = stops_at c.args.number s.conds x.none; undecided = [] } = c.of_stops-leaves.ensures ∙ ap (λ ys. record { matched = []; stopped = ys; undecided = [] }) stopped_are in
    subst (λ y. ItemComesFrom g.M.SymMemory.terms (map pred_def_view c.args.preds.now) c.args.scope.now (uses u) (record { state = s; store = bs }) y) (sym are)
    (unasked_from g.M.SymMemory.terms c.args.scope.now c.args.number u bs (map pred_def_view c.args.preds.now) s x c.in_ok-found.ensures.origin)

pub match_use-match_asked-requires : goal.match_use-match_asked-requires
match_use-match_asked-requires g t c κs within =
    let s = state_view c.args.state in
    let bs = store_view c.args.store.now in
    let u = pred_use_view c.args.used.now in
    let x = split_by asked_view c.in_ok-found.field-0 in
    let found = good_view asked_view c.in-Some.found in
    let is_g = ap (option_map (good_view asked_view)) c.in-Some.is in
    let is_q = sym c.in_ok-state-in-Some.ensures in
    let over = subst (IsOverTable g.M.SymMemory.terms) is_q (q_over g.M.SymMemory.stands g.M.SymMemory.terms g.M.SymMemory.kept c.args.number (cases_at (map pred_def_view c.args.preds.now) c.args.depth) c.args.scope.now u s bs c.requires.over c.requires.store_over x c.in_ok-found.ensures.says c.in_ok-found.ensures.names found is_g) in
    let store_over = subst (λ (q : PureState g.row.M.Denot). IsStoreOver q.vars bs) is_q c.requires.store_over in
    let asked = subst (λ (q : PureState g.row.M.Denot). AreAskedOver q.vars found.result) is_q (q_asked_over g.M.SymMemory.stands g.M.SymMemory.terms g.M.SymMemory.kept c.args.number (cases_at (map pred_def_view c.args.preds.now) c.args.depth) c.args.scope.now u s bs c.requires.over c.requires.store_over x c.in_ok-found.ensures.says c.in_ok-found.ensures.names found is_g) in
    let number : HasAllIns u (Some found) = subst (HasAllIns u) is_g c.in_ok-found.ensures.ins_number in
    (omega arith, (within.0, (within.1.0, (within.1.1, (over, (store_over, (asked, (number, (c.requires.may, c.requires.cases)))))))))

pub match_use-returns-in_ok-more-in-Some-clause-says : goal.match_use-returns-in_ok-more-in-Some-clause-says
match_use-returns-in_ok-more-in-Some-clause-says g t c =
    let s = state_view c.args.state in
    let bs = store_view c.args.store.now in
    let u = pred_use_view c.args.used.now in
    let x = split_by asked_view c.in_ok-found.field-0 in
    let found = good_view asked_view c.in-Some.found in
    let is_g = ap (option_map (good_view asked_view)) c.in-Some.is in
    let stopped_are = c.in_ok-stopped.ensures ∙ ap (λ cs. stops_at c.args.number cs x.none) c.atoms.ensures in
    let are : leaves_view c.of_stops-leaves.result ≡ record { matched = []; stopped = stops_at c.args.number s.conds x.none; undecided = [] } = c.of_stops-leaves.ensures ∙ ap (λ ys. record { matched = []; stopped = ys; undecided = [] }) stopped_are in
    let q = record s { conds = s.conds ++ found.conds } in
    let more = subst (λ r. AreLeaves g.M.SymMemory.stands g.M.SymMemory.terms g.M.SymMemory.kept r (AsksUse g.M.SymMemory.stands g.M.SymMemory.terms r bs found.result) (UseGives (cases_at (map pred_def_view c.args.preds.now) c.args.depth) c.args.scope.now (core_of u.pred) u found.result) (UseStops c.args.number (cases_at (map pred_def_view c.args.preds.now) c.args.depth) c.args.scope.now (core_of u.pred) u found.result) (leaves_view c.in_ok-more-in-Some.more)
    × CoreStaysPlain (IsPlainMemory g.M.Local.LocalMemory.memory g.M.SymMemory.keeps_plain g.M.SymMemory.terms) u found.result.ins bs r (leaves_view c.in_ok-more-in-Some.more)) c.in_ok-state-in-Some.ensures c.in_ok-more-in-Some.ensures.says in
    ok_to c.joined_with.result _ (λ r. AreLeaves g.M.SymMemory.stands g.M.SymMemory.terms g.M.SymMemory.kept s (Serves g.M.SymMemory.stands g.M.SymMemory.terms s bs) (ItemGives (cases_at (map pred_def_view c.args.preds.now) c.args.depth) c.args.scope.now (uses u)) (ItemStops c.args.number (cases_at (map pred_def_view c.args.preds.now) c.args.depth) c.args.scope.now (uses u)) (leaves_view r)
    × ItemStaysPlain (IsPlainMemory g.M.Local.LocalMemory.memory g.M.SymMemory.keeps_plain g.M.SymMemory.terms) (uses u) (record { state = s; store = bs }) (leaves_view r))
    (λ r is. subst (λ y. AreLeaves g.M.SymMemory.stands g.M.SymMemory.terms g.M.SymMemory.kept s (Serves g.M.SymMemory.stands g.M.SymMemory.terms s bs) (ItemGives (cases_at (map pred_def_view c.args.preds.now) c.args.depth) c.args.scope.now (uses u)) (ItemStops c.args.number (cases_at (map pred_def_view c.args.preds.now) c.args.depth) c.args.scope.now (uses u)) y
    × ItemStaysPlain (IsPlainMemory g.M.Local.LocalMemory.memory g.M.SymMemory.keeps_plain g.M.SymMemory.terms) (uses u) (record { state = s; store = bs }) y)
    (sym (is ∙ ap (λ y. joined y (leaves_view c.in_ok-more-in-Some.more)) are)) (
      asked_leaves g.M.SymMemory.stands g.M.SymMemory.terms g.M.SymMemory.kept c.args.number (cases_at (map pred_def_view c.args.preds.now) c.args.depth) c.args.scope.now u s bs c.requires.over c.requires.store_over x c.in_ok-found.ensures.says c.in_ok-found.ensures.names found is_g (leaves_view c.in_ok-more-in-Some.more) more.0,
      asked_plain g.M.Local.LocalMemory.memory g.M.SymMemory.keeps_plain g.M.SymMemory.terms c.args.number c.args.scope.now u s bs c.requires.store_over x c.in_ok-found.ensures.plain found is_g (leaves_view c.in_ok-more-in-Some.more) more.1,
    )) c.joined_with.ensures

pub match_use-returns-in_ok-more-in-Some-clause-origin : goal.match_use-returns-in_ok-more-in-Some-clause-origin
match_use-returns-in_ok-more-in-Some-clause-origin g t c =
    let s = state_view c.args.state in
    let bs = store_view c.args.store.now in
    let u = pred_use_view c.args.used.now in
    let x = split_by asked_view c.in_ok-found.field-0 in
    let found = good_view asked_view c.in-Some.found in
    let is_g = ap (option_map (good_view asked_view)) c.in-Some.is in
    let stopped_are = c.in_ok-stopped.ensures ∙ ap (λ cs. stops_at c.args.number cs x.none) c.atoms.ensures in
    let are : leaves_view c.of_stops-leaves.result ≡ record { matched = []; stopped = stops_at c.args.number s.conds x.none; undecided = [] } = c.of_stops-leaves.ensures ∙ ap (λ ys. record { matched = []; stopped = ys; undecided = [] }) stopped_are in
    let come = subst (λ r. UseComesFrom g.M.SymMemory.terms (map pred_def_view c.args.preds.now) c.args.scope.now u bs found.result r (leaves_view c.in_ok-more-in-Some.more)) c.in_ok-state-in-Some.ensures c.in_ok-more-in-Some.ensures.origin in
    ok_to c.joined_with.result _ (λ r. ItemComesFrom g.M.SymMemory.terms (map pred_def_view c.args.preds.now) c.args.scope.now (uses u) (record { state = s; store = bs }) (leaves_view r))
    (λ r is. subst (λ y. ItemComesFrom g.M.SymMemory.terms (map pred_def_view c.args.preds.now) c.args.scope.now (uses u) (record { state = s; store = bs }) y) (sym (is ∙ ap (λ y. joined y (leaves_view c.in_ok-more-in-Some.more)) are))
    (use_from g.M.SymMemory.terms c.args.scope.now c.args.number u bs (map pred_def_view c.args.preds.now) s x c.in_ok-found.ensures.origin found is_g (leaves_view c.in_ok-more-in-Some.more) come)) c.joined_with.ensures

pub match_user-match_open-requires : goal.match_user-match_open-requires
match_user-match_open-requires g t c κs within =
    let s = state_view c.args.state.now in
    let bs = store_view c.args.store.now in
    let u = pred_use_view c.args.used.now in
    let a = asked_view c.args.asked.now in
    let qs = states_view c.in_ok-open.open in
    let each = each_to (IsWithoutFit g.M.SymMemory.stands g.M.SymMemory.terms g.M.SymMemory.kept c.args.number (cases_at (map pred_def_view c.args.preds.now) c.args.depth) c.args.scope.now u s bs a c.requires.over c.requires.store_over c.requires.asked (choice_view c.in_ok-choice.choice) c.in_ok-choice.ensures.says c.in_ok-choice.ensures.names) (IsOpen g.M.SymMemory.terms bs a) qs (λ q w. is_open g.M.SymMemory.stands g.M.SymMemory.terms g.M.SymMemory.kept c.args.number (cases_at (map pred_def_view c.args.preds.now) c.args.depth) c.args.scope.now u s bs a c.requires.over c.requires.store_over c.requires.asked (choice_view c.in_ok-choice.choice) c.in_ok-choice.ensures.says c.in_ok-choice.ensures.names q w) (are_without_fit g.M.SymMemory.stands g.M.SymMemory.terms g.M.SymMemory.kept c.args.number (cases_at (map pred_def_view c.args.preds.now) c.args.depth) c.args.scope.now u s bs a c.requires.over c.requires.store_over c.requires.asked (choice_view c.in_ok-choice.choice) c.in_ok-choice.ensures.says c.in_ok-choice.ensures.names qs c.in_ok-open.ensures) in
    (omega arith, (within.0, (within.1.0, (within.1.1, (each, (c.requires.may, c.requires.cases))))))

pub match_user-returns-clause-says : goal.match_user-returns-clause-says
match_user-returns-clause-says g t c =
    let s = state_view c.args.state.now in
    let bs = store_view c.args.store.now in
    let u = pred_use_view c.args.used.now in
    let a = asked_view c.args.asked.now in
    let Are = AreLeaves g.M.SymMemory.stands g.M.SymMemory.terms g.M.SymMemory.kept s (AsksUse g.M.SymMemory.stands g.M.SymMemory.terms s bs a) (UseGives (cases_at (map pred_def_view c.args.preds.now) c.args.depth) c.args.scope.now None u a) (UseStops c.args.number (cases_at (map pred_def_view c.args.preds.now) c.args.depth) c.args.scope.now None u a) in
    ok_to c.joined_with.result _ (λ r. Are (leaves_view r))
    (λ r is. subst Are (sym is)
    (user_leaves g.M.SymMemory.stands g.M.SymMemory.terms g.M.SymMemory.kept c.args.number (cases_at (map pred_def_view c.args.preds.now) c.args.depth) c.args.scope.now u s bs a c.requires.over c.requires.store_over c.requires.asked (choice_view c.in_ok-choice.choice) c.in_ok-choice.ensures.says c.in_ok-choice.ensures.names (leaves_view c.in_ok-leaves.leaves) (leaves_view c.in_ok-more.more) (states_view c.in_ok-open.open) c.in_ok-leaves.ensures c.in_ok-open.ensures c.in_ok-more.ensures.says)) c.joined_with.ensures

pub match_user-returns-clause-origin : goal.match_user-returns-clause-origin
match_user-returns-clause-origin g t c =
    let s = state_view c.args.state.now in
    let bs = store_view c.args.store.now in
    let u = pred_use_view c.args.used.now in
    let a = asked_view c.args.asked.now in
    ok_to c.joined_with.result _ (λ r. UseComesFrom g.M.SymMemory.terms (map pred_def_view c.args.preds.now) c.args.scope.now u bs a s (leaves_view r))
    (λ r is. subst (UseComesFrom g.M.SymMemory.terms (map pred_def_view c.args.preds.now) c.args.scope.now u bs a s) (sym is)
    (user_from g.M.SymMemory.terms c.args.scope.now c.args.number u bs (map pred_def_view c.args.preds.now) s g.M.SymMemory.stands g.M.SymMemory.kept a (choice_view c.in_ok-choice.choice) (states_view c.in_ok-open.open) (leaves_view c.in_ok-leaves.leaves) (leaves_view c.in_ok-more.more)
    c.in_ok-choice.ensures.origin c.in_ok-leaves.ensures c.in_ok-open.ensures c.in_ok-more.ensures.origin)) c.joined_with.ensures

pub next_case-loop-stop-preserved : goal.next_case-loop-stop-preserved
next_case-loop-stop-preserved g t c =
    let P : PureStop → PureLeaves g.row.M.Denot → Type 0 = λ x. CaseTried g.M.SymMemory.stands g.M.SymMemory.terms g.M.SymMemory.kept c.args.number (cases_at (map pred_def_view c.args.preds.now) c.args.depth) (pred_def_view c.args.pred.now) c.args.scope.now (assertion_view c.args.case.now) (state_view c.args.state.now) (store_view c.args.start.now) x.conds in
    let Q = RetryComesFrom g.M.SymMemory.terms (map pred_def_view c.args.preds.now) c.args.scope.now (assertion_view c.args.case.now) (state_view c.args.state.now) (store_view c.args.start.now) in
    let before = stops_view c.loop-stop.yielded in
    let x = stop_view c.in-Some.stop in
    let longer : length (into_iter_items c.loop-stop.stop-iterator) ≡ length (into_iter_items c.next.new.self) + 1 = ap length c.in-Some.ensures.steps.0 ∙ omega arith in
    record {
      counted = omega (arith, longer, c.in-Some.ensures.steps.1, c.loop-stop.invariant.counted);
      rest = taken_more c.args.leaves.stopped c.loop-stop.yielded (into_iter_items c.loop-stop.stop-iterator) (into_iter_items c.next.new.self) c.in-Some.stop c.loop-stop.invariant.rest c.in-Some.ensures.steps.0;
      gathers = subst (λ xs. Gathers P xs (leaves_view c.in_ok-next.next)) (sym (map-append stop_view c.loop-stop.yielded (c.in-Some.stop ∷ [])))
          (subst (Gathers P (before ++ x ∷ [])) (sym c.in_ok-next.ensures)
          (gathers_more P before x (leaves_view c.loop-stop.next) (leaves_view c.in_ok-more.more) c.loop-stop.invariant.gathers c.in_ok-more.ensures.says));
      origin = subst (λ xs. Gathers Q xs (leaves_view c.in_ok-next.next)) (sym (map-append stop_view c.loop-stop.yielded (c.in-Some.stop ∷ [])))
          (subst (Gathers Q (before ++ x ∷ [])) (sym c.in_ok-next.ensures)
          (gathers_more Q before x (leaves_view c.loop-stop.next) (leaves_view c.in_ok-more.more) c.loop-stop.invariant.origin c.in_ok-more.ensures.origin));
    }

pub next_case-try_case-requires : goal.next_case-try_case-requires
next_case-try_case-requires g t c κs within =
    (omega arith, (within.0, (within.1.0, (within.1.1, (c.requires.over, (taken_has (StopsIn (state_view c.args.state.now).vars) stop_view c.args.leaves.stopped c.loop-stop.yielded (into_iter_items c.loop-stop.stop-iterator) (into_iter_items c.next.new.self) c.in-Some.stop c.loop-stop.invariant.rest c.in-Some.ensures.steps.0 c.requires.each, (c.requires.may, c.requires.cases)))))))

pub next_case-returns-clause-says : goal.next_case-returns-clause-says
next_case-returns-clause-says g t c =
    let P : PureStop → PureLeaves g.row.M.Denot → Type 0 = λ x. CaseTried g.M.SymMemory.stands g.M.SymMemory.terms g.M.SymMemory.kept c.args.number (cases_at (map pred_def_view c.args.preds.now) c.args.depth) (pred_def_view c.args.pred.now) c.args.scope.now (assertion_view c.args.case.now) (state_view c.args.state.now) (store_view c.args.start.now) x.conds in
    let next = leaves_view c.loop-stop.next in
    let before = leaves_view c.args.leaves in
    let all : c.args.leaves.stopped ≡ c.loop-stop.yielded = taken_all c.args.leaves.stopped c.loop-stop.yielded (into_iter_items c.loop-stop.stop-iterator) c.loop-stop.invariant.rest (sym c.loop-stop.invariant.counted ∙ c.in-None.ensures.steps.0) in
    ok_to c.joined_with-2.result _ (λ r. NextCase g.M.SymMemory.stands g.M.SymMemory.terms g.M.SymMemory.kept c.args.number (cases_at (map pred_def_view c.args.preds.now) c.args.depth) (pred_def_view c.args.pred.now) c.args.scope.now (assertion_view c.args.case.now) (state_view c.args.state.now) (store_view c.args.start.now) before (leaves_view r))
    (λ r is. (
      next,
      (
        subst (λ cs. Gathers P (stops_view cs) next) (sym all) c.loop-stop.invariant.gathers,
        is ∙ ap (λ cs. joined (record { matched = before.matched; stopped = stops_view cs; undecided = before.undecided }) next) c.new.ensures,
      ),
    )) c.joined_with-2.ensures

pub next_case-returns-clause-origin : goal.next_case-returns-clause-origin
next_case-returns-clause-origin g t c =
    let Q = RetryComesFrom g.M.SymMemory.terms (map pred_def_view c.args.preds.now) c.args.scope.now (assertion_view c.args.case.now) (state_view c.args.state.now) (store_view c.args.start.now) in
    let next = leaves_view c.loop-stop.next in
    let before = leaves_view c.args.leaves in
    let all : c.args.leaves.stopped ≡ c.loop-stop.yielded = taken_all c.args.leaves.stopped c.loop-stop.yielded (into_iter_items c.loop-stop.stop-iterator) c.loop-stop.invariant.rest (sym c.loop-stop.invariant.counted ∙ c.in-None.ensures.steps.0) in
    ok_to c.joined_with-2.result _ (λ r. NextTryComesFrom g.M.SymMemory.terms (map pred_def_view c.args.preds.now) c.args.scope.now (assertion_view c.args.case.now) (state_view c.args.state.now) (store_view c.args.start.now) before (leaves_view r))
    (λ r is. (
      next,
      (
        subst (λ cs. Gathers Q (stops_view cs) next) (sym all) c.loop-stop.invariant.origin,
        is ∙ ap (λ cs. joined (record { matched = before.matched; stopped = stops_view cs; undecided = before.undecided }) next) c.new.ensures,
      ),
    )) c.joined_with-2.ensures

pub try_case-match_items-requires : goal.try_case-match_items-requires
try_case-match_items-requires g t c κs within =
    let s = state_view c.args.state.now in
    let bs = store_view c.args.start.now in
    let d = pred_def_view c.args.pred.now in
    let conds = atoms_view c.args.conds.now in
    let r = state_view c.in_ok-state.state in
    let start : IsMatchable g.M.SymMemory.terms (record { state = r; store = store_view c.in_ok-store.store }) = record { over = renewed_over g.M.SymMemory.stands g.M.SymMemory.terms g.M.SymMemory.kept s bs c.requires.over.over c.requires.over.store_over conds c.requires.conds r c.in_ok-state.ensures; store_over = subst (IsStoreOver r.vars) (sym c.in_ok-store.ensures) (renewed_store_over g.M.SymMemory.stands g.M.SymMemory.terms g.M.SymMemory.kept s bs c.requires.over.over c.requires.over.store_over conds c.requires.conds r c.in_ok-state.ensures) } in
    (omega arith, (within.0, (within.1.0, (within.1.1, (start, (c.requires.may, c.requires.cases))))))

pub try_case-returns-clause-says : goal.try_case-returns-clause-says
try_case-returns-clause-says g t c =
    let s = state_view c.args.state.now in
    let bs = store_view c.args.start.now in
    let d = pred_def_view c.args.pred.now in
    let conds = atoms_view c.args.conds.now in
    let r = state_view c.in_ok-state.state in
    let items = assertion_view c.args.case.now in
    ok_to c.end_case.result _ (λ y. CaseTried g.M.SymMemory.stands g.M.SymMemory.terms g.M.SymMemory.kept c.args.number (cases_at (map pred_def_view c.args.preds.now) c.args.depth) d c.args.scope.now items s bs conds (leaves_view y))
    (λ y ends. (
      r,
      (
        c.in_ok-state.ensures,
        λ is_scope.
            end_leaves g.M.SymMemory.stands g.M.SymMemory.terms g.M.SymMemory.kept c.args.number (cases_at (map pred_def_view c.args.preds.now) c.args.depth) d items r bs (leaves_view c.in_ok-leaves.leaves) (leaves_view y)
            (subst (λ sc. AreLeaves g.M.SymMemory.stands g.M.SymMemory.terms g.M.SymMemory.kept r (Serves g.M.SymMemory.stands g.M.SymMemory.terms r bs) (ItemsGive (cases_at (map pred_def_view c.args.preds.now) c.args.depth) sc items) (ItemsStop (cases_at (map pred_def_view c.args.preds.now) c.args.depth) sc items) (leaves_view c.in_ok-leaves.leaves)) is_scope
            (subst (λ b. AreLeaves g.M.SymMemory.stands g.M.SymMemory.terms g.M.SymMemory.kept r (Serves g.M.SymMemory.stands g.M.SymMemory.terms r b) (ItemsGive (cases_at (map pred_def_view c.args.preds.now) c.args.depth) c.args.scope.now items) (ItemsStop (cases_at (map pred_def_view c.args.preds.now) c.args.depth) c.args.scope.now items) (leaves_view c.in_ok-leaves.leaves)) c.in_ok-store.ensures c.in_ok-leaves.ensures.says.0)) ends,
      ),
    )) c.end_case.ensures

pub try_case-returns-clause-origin : goal.try_case-returns-clause-origin
try_case-returns-clause-origin g t c =
    let s = state_view c.args.state.now in
    let bs = store_view c.args.start.now in
    let d = pred_def_view c.args.pred.now in
    let conds = atoms_view c.args.conds.now in
    let r = state_view c.in_ok-state.state in
    let items = assertion_view c.args.case.now in
    let scope = c.args.scope.now in
    let first = leaves_view c.in_ok-leaves.leaves in
    let come = subst (λ b. ItemsComeFrom g.M.SymMemory.terms (map pred_def_view c.args.preds.now) scope items (record { state = r; store = b }) first) c.in_ok-store.ensures c.in_ok-leaves.ensures.origin in
    ok_to c.end_case.result _ (λ y. TryComesFrom g.M.SymMemory.terms (map pred_def_view c.args.preds.now) scope items s bs conds (leaves_view y))
    (λ y ends. try_from g.M.SymMemory.terms (map pred_def_view c.args.preds.now) scope g.M.SymMemory.stands g.M.SymMemory.kept items s bs conds r first (leaves_view y) c.in_ok-state.ensures come
    (λ o are. ended_from g.M.SymMemory.terms o scope items conds c.args.number d.outs first (leaves_view y) ends are)) c.end_case.ensures

pub try_cases-loop-at-init : goal.try_cases-loop-at-init
try_cases-loop-at-init g t c =
    let s = state_view c.args.state.now in
    let bs = store_view c.args.start.now in
    let d = pred_def_view c.args.pred.now in
    subst (λ y. AreLeaves g.M.SymMemory.stands g.M.SymMemory.terms g.M.SymMemory.kept s (Serves g.M.SymMemory.stands g.M.SymMemory.terms s bs) (CasesGive (cases_at (map pred_def_view c.args.preds.now) c.args.depth) d ([])) (CasesStop c.args.number (cases_at (map pred_def_view c.args.preds.now) c.args.depth) d ([])) (y) × TriesComeFrom g.M.SymMemory.terms (map pred_def_view c.args.preds.now) (scope_of d) [] s bs y) (sym (c.of_stops-leaves.ensures ∙ ap (λ cs. record { matched = []; stopped = cs; undecided = [] }) c.in_ok-one_stop.ensures)) (
      no_case_leaves g.M.SymMemory.stands g.M.SymMemory.terms g.M.SymMemory.kept c.args.number (cases_at (map pred_def_view c.args.preds.now) c.args.depth) d s bs c.requires.over.over,
      tries_begin g.M.SymMemory.terms (map pred_def_view c.args.preds.now) (scope_of d) s bs c.args.number,
    )

pub try_cases-loop-at-preserved : goal.try_cases-loop-at-preserved
try_cases-loop-at-preserved g t c =
    let s = state_view c.args.state.now in
    let bs = store_view c.args.start.now in
    let d = pred_def_view c.args.pred.now in
    let xs = c.as_slice-cases.result.now in
    let i = c.loop-at.at in
    let case = c.index-cases-at.result in
    let before = map assertion_view (take i xs) in
    let seen : map assertion_view (take (i + 1) xs) ≡ before ++ assertion_view case ∷ [] = ap (map assertion_view) (take_more xs i case c.loop-at-test.true ∙ ap (λ y. take i xs ++ y ∷ []) (sym c.index-cases-at.is)) ∙ map-append assertion_view (take i xs) (case ∷ []) in
    let next = subst (λ sc. NextCase g.M.SymMemory.stands g.M.SymMemory.terms g.M.SymMemory.kept c.args.number (cases_at (map pred_def_view c.args.preds.now) c.args.depth) d sc (assertion_view case) s bs (leaves_view c.loop-at.leaves) (leaves_view c.in_ok-leaves.leaves)) c.in_ok-scope.ensures c.in_ok-leaves.ensures.says in
    let next_tries = subst (λ sc. NextTryComesFrom g.M.SymMemory.terms (map pred_def_view c.args.preds.now) sc (assertion_view case) s bs (leaves_view c.loop-at.leaves) (leaves_view c.in_ok-leaves.leaves)) c.in_ok-scope.ensures c.in_ok-leaves.ensures.origin in
    subst (λ ys. AreLeaves g.M.SymMemory.stands g.M.SymMemory.terms g.M.SymMemory.kept s (Serves g.M.SymMemory.stands g.M.SymMemory.terms s bs) (CasesGive (cases_at (map pred_def_view c.args.preds.now) c.args.depth) d (ys)) (CasesStop c.args.number (cases_at (map pred_def_view c.args.preds.now) c.args.depth) d (ys)) (leaves_view c.in_ok-leaves.leaves) × TriesComeFrom g.M.SymMemory.terms (map pred_def_view c.args.preds.now) (scope_of d) ys s bs (leaves_view c.in_ok-leaves.leaves)) (sym seen) (
      next_case_leaves g.M.SymMemory.stands g.M.SymMemory.terms g.M.SymMemory.kept c.args.number (cases_at (map pred_def_view c.args.preds.now) c.args.depth) d before (assertion_view case) s bs c.requires.over.over c.requires.over.store_over (leaves_view c.loop-at.leaves) (leaves_view c.in_ok-leaves.leaves) c.loop-at.invariant.0 next,
      tries_more g.M.SymMemory.terms (map pred_def_view c.args.preds.now) (scope_of d) s bs before (assertion_view case) (leaves_view c.loop-at.leaves) (leaves_view c.in_ok-leaves.leaves) c.loop-at.invariant.1 next_tries,
    )

pub try_cases-next_case-requires : goal.try_cases-next_case-requires
try_cases-next_case-requires g t c κs within =
    let s = state_view c.args.state.now in
    let bs = store_view c.args.start.now in
    let d = pred_def_view c.args.pred.now in
    let xs = c.as_slice-cases.result.now in
    let i = c.loop-at.at in
    let before = map assertion_view (take i xs) in
    let each = stops_in_each g.M.SymMemory.stands g.M.SymMemory.terms g.M.SymMemory.kept s (Serves g.M.SymMemory.stands g.M.SymMemory.terms s bs) (CasesGive (cases_at (map pred_def_view c.args.preds.now) c.args.depth) d before) (CasesStop c.args.number (cases_at (map pred_def_view c.args.preds.now) c.args.depth) d before) (leaves_view c.loop-at.leaves) c.loop-at.invariant.0 in
    let may = each_read (MayMatch g.M.Local.LocalMemory.memory) assertion_view xs i c.index-cases-at.result c.loop-at-test.true c.index-cases-at.is (subst (λ ys. Each (MayMatch g.M.Local.LocalMemory.memory) (map assertion_view ys)) (sym c.as_slice-cases.ensures) c.requires.pred) in
    (omega arith, (within.0, (within.1.0, (within.1.1, (c.requires.over, (each, (may, c.requires.cases)))))))

pub try_cases-returns-clause-says : goal.try_cases-returns-clause-says
try_cases-returns-clause-says g t c =
    let s = state_view c.args.state.now in
    let bs = store_view c.args.start.now in
    let d = pred_def_view c.args.pred.now in
    let all = take_all c.loop-at.at c.as_slice-cases.result.now (omega (arith, c.loop-at-test.false)) ∙ c.as_slice-cases.ensures in
    subst (λ ys. AreLeaves g.M.SymMemory.stands g.M.SymMemory.terms g.M.SymMemory.kept s (Serves g.M.SymMemory.stands g.M.SymMemory.terms s bs) (CasesGive (cases_at (map pred_def_view c.args.preds.now) c.args.depth) d (map assertion_view ys)) (CasesStop c.args.number (cases_at (map pred_def_view c.args.preds.now) c.args.depth) d (map assertion_view ys)) (leaves_view c.loop-at.leaves)) all c.loop-at.invariant.0

pub try_cases-returns-clause-origin : goal.try_cases-returns-clause-origin
try_cases-returns-clause-origin g t c =
    let s = state_view c.args.state.now in
    let bs = store_view c.args.start.now in
    let d = pred_def_view c.args.pred.now in
    let all = take_all c.loop-at.at c.as_slice-cases.result.now (omega (arith, c.loop-at-test.false)) ∙ c.as_slice-cases.ensures in
    subst (λ ys. TriesComeFrom g.M.SymMemory.terms (map pred_def_view c.args.preds.now) (scope_of d) (map assertion_view ys) s bs (leaves_view c.loop-at.leaves)) all c.loop-at.invariant.1

pub try_pred-returns-in-None-clause-says : goal.try_pred-returns-in-None-clause-says
try_pred-returns-in-None-clause-says g t c =
    let s = state_view c.args.state in
    let d = pred_def_view c.args.pred.now in
    let a = asked_view c.args.asked.now in
    let x = stores_view c.in_ok-found.field-0 in
    let stopped_are = c.in_ok-stopped.ensures ∙ ap (λ cs. stops_at c.args.number cs x.none) c.atoms.ensures in
    let are : leaves_view c.of_stops-leaves.result ≡ record { matched = []; stopped = stops_at c.args.number s.conds x.none; undecided = [] } = c.of_stops-leaves.ensures ∙ ap (λ ys. record { matched = []; stopped = ys; undecided = [] }) stopped_are in
    subst (PredTried g.M.SymMemory.stands g.M.SymMemory.terms g.M.SymMemory.kept c.args.number (cases_at (map pred_def_view c.args.preds.now) c.args.depth) d a s) (sym are)
    (misfit_leaves g.M.SymMemory.stands g.M.SymMemory.terms g.M.SymMemory.kept c.args.number (cases_at (map pred_def_view c.args.preds.now) c.args.depth) d a s c.requires.over c.requires.asked x c.in_ok-found.ensures.says c.in_ok-found.ensures.names (ap (option_map (good_view store_view)) c.in-None.is))

pub try_pred-returns-in-None-clause-origin : goal.try_pred-returns-in-None-clause-origin
try_pred-returns-in-None-clause-origin g t c =
    let s = state_view c.args.state in
    let d = pred_def_view c.args.pred.now in
    let a = asked_view c.args.asked.now in
    let x = stores_view c.in_ok-found.field-0 in
    let stopped_are = c.in_ok-stopped.ensures ∙ ap (λ cs. stops_at c.args.number cs x.none) c.atoms.ensures in
    let are : leaves_view c.of_stops-leaves.result ≡ record { matched = []; stopped = stops_at c.args.number s.conds x.none; undecided = [] } = c.of_stops-leaves.ensures ∙ ap (λ ys. record { matched = []; stopped = ys; undecided = [] }) stopped_are in
    subst (CasesComeFrom g.M.SymMemory.terms (map pred_def_view c.args.preds.now) d a s) (sym are) (misfits_from g.M.SymMemory.terms c.args.number (map pred_def_view c.args.preds.now) d a s x c.in_ok-found.ensures.origin)

pub try_pred-try_cases-requires : goal.try_pred-try_cases-requires
try_pred-try_cases-requires g t c κs within =
    let s = state_view c.args.state in
    let d = pred_def_view c.args.pred.now in
    let a = asked_view c.args.asked.now in
    let x = stores_view c.in_ok-found.field-0 in
    let found = good_view store_view c.in-Some.found in
    let is_g = ap (option_map (good_view store_view)) c.in-Some.is in
    let q = record s { conds = s.conds ++ found.conds } in
    let start : IsMatchable g.M.SymMemory.terms (record { state = q; store = found.result }) = record { over = case_over g.M.SymMemory.stands g.M.SymMemory.terms g.M.SymMemory.kept c.args.number (cases_at (map pred_def_view c.args.preds.now) c.args.depth) d a s c.requires.over c.requires.asked x c.in_ok-found.ensures.says c.in_ok-found.ensures.names found is_g; store_over = case_store_over g.M.SymMemory.stands g.M.SymMemory.terms g.M.SymMemory.kept c.args.number (cases_at (map pred_def_view c.args.preds.now) c.args.depth) d a s c.requires.over c.requires.asked x c.in_ok-found.ensures.says c.in_ok-found.ensures.names found is_g } in
    let there = subst (λ r. IsMatchable g.M.SymMemory.terms (record { state = r; store = found.result })) (sym c.in_ok-state-in-Some.ensures) start in
    (omega arith, (within.0, (within.1.0, (within.1.1, (there, (c.requires.pred, c.requires.cases))))))

pub try_pred-returns-in_ok-more-in-Some-clause-says : goal.try_pred-returns-in_ok-more-in-Some-clause-says
try_pred-returns-in_ok-more-in-Some-clause-says g t c =
    let s = state_view c.args.state in
    let d = pred_def_view c.args.pred.now in
    let a = asked_view c.args.asked.now in
    let x = stores_view c.in_ok-found.field-0 in
    let found = good_view store_view c.in-Some.found in
    let is_g = ap (option_map (good_view store_view)) c.in-Some.is in
    let stopped_are = c.in_ok-stopped.ensures ∙ ap (λ cs. stops_at c.args.number cs x.none) c.atoms.ensures in
    let are : leaves_view c.of_stops-leaves.result ≡ record { matched = []; stopped = stops_at c.args.number s.conds x.none; undecided = [] } = c.of_stops-leaves.ensures ∙ ap (λ ys. record { matched = []; stopped = ys; undecided = [] }) stopped_are in
    let more = subst (λ r. AreLeaves g.M.SymMemory.stands g.M.SymMemory.terms g.M.SymMemory.kept r (Serves g.M.SymMemory.stands g.M.SymMemory.terms r found.result) (CasesGive (cases_at (map pred_def_view c.args.preds.now) c.args.depth) d d.cases) (CasesStop c.args.number (cases_at (map pred_def_view c.args.preds.now) c.args.depth) d d.cases) (leaves_view c.in_ok-more-in-Some.more)) c.in_ok-state-in-Some.ensures c.in_ok-more-in-Some.ensures.says in
    ok_to c.joined_with.result _ (λ r. PredTried g.M.SymMemory.stands g.M.SymMemory.terms g.M.SymMemory.kept c.args.number (cases_at (map pred_def_view c.args.preds.now) c.args.depth) d a s (leaves_view r))
    (λ r is. subst (PredTried g.M.SymMemory.stands g.M.SymMemory.terms g.M.SymMemory.kept c.args.number (cases_at (map pred_def_view c.args.preds.now) c.args.depth) d a s) (sym (is ∙ ap (λ y. joined y (leaves_view c.in_ok-more-in-Some.more)) are))
    (pred_leaves g.M.SymMemory.stands g.M.SymMemory.terms g.M.SymMemory.kept c.args.number (cases_at (map pred_def_view c.args.preds.now) c.args.depth) d a s c.requires.over c.requires.asked x c.in_ok-found.ensures.says c.in_ok-found.ensures.names found is_g (leaves_view c.in_ok-more-in-Some.more) more)) c.joined_with.ensures

pub try_pred-returns-in_ok-more-in-Some-clause-origin : goal.try_pred-returns-in_ok-more-in-Some-clause-origin
try_pred-returns-in_ok-more-in-Some-clause-origin g t c =
    let s = state_view c.args.state in
    let d = pred_def_view c.args.pred.now in
    let a = asked_view c.args.asked.now in
    let x = stores_view c.in_ok-found.field-0 in
    let found = good_view store_view c.in-Some.found in
    let is_g = ap (option_map (good_view store_view)) c.in-Some.is in
    let stopped_are = c.in_ok-stopped.ensures ∙ ap (λ cs. stops_at c.args.number cs x.none) c.atoms.ensures in
    let are : leaves_view c.of_stops-leaves.result ≡ record { matched = []; stopped = stops_at c.args.number s.conds x.none; undecided = [] } = c.of_stops-leaves.ensures ∙ ap (λ ys. record { matched = []; stopped = ys; undecided = [] }) stopped_are in
    let come = subst (λ r. TriesComeFrom g.M.SymMemory.terms (map pred_def_view c.args.preds.now) (scope_of d) d.cases r found.result (leaves_view c.in_ok-more-in-Some.more)) c.in_ok-state-in-Some.ensures c.in_ok-more-in-Some.ensures.origin in
    ok_to c.joined_with.result _ (λ r. CasesComeFrom g.M.SymMemory.terms (map pred_def_view c.args.preds.now) d a s (leaves_view r))
    (λ r is. subst (CasesComeFrom g.M.SymMemory.terms (map pred_def_view c.args.preds.now) d a s) (sym (is ∙ ap (λ y. joined y (leaves_view c.in_ok-more-in-Some.more)) are))
    (cases_from g.M.SymMemory.terms c.args.number (map pred_def_view c.args.preds.now) d a s x c.in_ok-found.ensures.origin found is_g (leaves_view c.in_ok-more-in-Some.more) come)) c.joined_with.ensures
