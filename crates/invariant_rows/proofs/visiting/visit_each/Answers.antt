use Rattle.std.proofs.Common.{rules, ◌≡◌, ◌+◌, [], ◌∷◌, ◌++◌, length, map, ap, sym, subst, ◌∙◌, arith}
use Rattle.std.specs.Option.{option_map}
use Rattle.std.specs.Vec.Iter.{into_iter_items}
use Rattle.std.proofs.lemmas.List.{append-nil, map-append, nil_from_length}
use Rattle.gil_syntax.specs.Program.{prog_view}
use Rattle.gil_syntax.specs.View.{assertion_view}
use Rattle.footprint.specs.View.{match_view, matches_view}
use Rattle.sym_engine.proofs.Settled.{rest_more, over_next}
use Rattle.sym_states.specs.View.{state_view}
use Rattle.checked_paths.specs.View.{checking_view, entry_view, nexts_view, passed_view}
use Rattle.checked_paths.specs.Exactness.{AreExact, IsExactNext, HaveMoreOf, AddsOnly}
use Rattle.sym_model.proofs.ListLaws.{each_append}
use Rattle.sym_model.specs.Lists.{Each}
use Rattle.invariant_rows.specs.Asked.{AsksVisitThere}
use Rattle.invariant_rows.specs.Visiting.{AreVisits, IsLeft}
use Rattle.invariant_rows.proofs.AskedLaws.{left_conds}
use Rattle.invariant_rows.proofs.VisitLaws.{no_visits, more_visits}
use Rattle.invariant_rows.proofs.visiting.visit_each.Goals as goal

pub loop-found-init : goal.loop-found-init
loop-found-init g c = record {
  counted = search rules;
  rest = search rules;
  visits = subst (AreVisits (prog_view c.args.prog.now) g.M.Local.LocalMemory.memory g.M.Local.LocalMemory.actions g.M.SymMemory.stands g.M.SymMemory.terms (entry_view c.args.spec.now c.args.entered.now) (checking_view c.args.checking.now) c.args.listed.now c.args.declared.now
      (assertion_view c.args.items.now) (option_map (λ q. passed_view q.now) c.args.former) []) (sym (ap nexts_view c.new-nexts.ensures))
      (no_visits (prog_view c.args.prog.now) g.M.Local.LocalMemory.memory g.M.Local.LocalMemory.actions g.M.SymMemory.stands g.M.SymMemory.terms (entry_view c.args.spec.now c.args.entered.now) (checking_view c.args.checking.now) c.args.listed.now c.args.declared.now
      (assertion_view c.args.items.now) (option_map (λ q. passed_view q.now) c.args.former));
  exact = λ n may at this place.
      subst (AreExact (prog_view c.args.prog.now) g.M.Local.LocalMemory.memory g.M.Local.LocalMemory.actions g.M.SymMemory.stands (entry_view c.args.spec.now c.args.entered.now) (checking_view c.args.checking.now)) (sym (ap nexts_view c.new-nexts.ensures)) tt;
  asked = subst (Each (AddsOnly (AsksVisitThere (entry_view c.args.spec.now c.args.entered.now) (checking_view c.args.checking.now) (prog_view c.args.prog.now) c.args.scope.now (assertion_view c.args.items.now)) (checking_view c.args.checking.now)))
      (sym (ap nexts_view c.new-nexts.ensures)) tt;
}

pub visit-requires-clause-left : goal.visit-requires-clause-left
visit-requires-clause-left g c =
    let Left = IsLeft (prog_view c.args.prog.now) g.M.Local.LocalMemory.memory g.M.Local.LocalMemory.actions g.M.SymMemory.stands g.M.SymMemory.terms (entry_view c.args.spec.now c.args.entered.now) (checking_view c.args.checking.now) c.args.listed.now c.args.declared.now
    (assertion_view c.args.items.now) (option_map (λ q. passed_view q.now) c.args.former) in
    subst Left (sym c.state_in-state.ensures)
    (over_next (λ k. Left k.state) match_view c.args.matches c.loop-found.yielded (into_iter_items c.loop-found.found-iterator) (into_iter_items c.next.new.self)
    c.in-Some.found c.loop-found.invariant.rest c.in-Some.ensures.steps.0 c.requires.left)

pub visit-requires-clause-own : goal.visit-requires-clause-own
visit-requires-clause-own g c =
    let Own = HaveMoreOf (AsksVisitThere (entry_view c.args.spec.now c.args.entered.now) (checking_view c.args.checking.now) (prog_view c.args.prog.now) c.args.scope.now (assertion_view c.args.items.now)) (checking_view c.args.checking.now).path.conds in
    left_conds Own (match_view c.in-Some.found) (state_view c.state_in-state.result) c.state_in-state.ensures
    (over_next (λ k. Own k.state.conds) match_view c.args.matches c.loop-found.yielded (into_iter_items c.loop-found.found-iterator) (into_iter_items c.next.new.self)
    c.in-Some.found c.loop-found.invariant.rest c.in-Some.ensures.steps.0 c.requires.own)

pub loop-found-preserved : goal.loop-found-preserved
loop-found-preserved g c =
    let former = option_map (λ q. passed_view q.now) c.args.former in
    let Visits = AreVisits (prog_view c.args.prog.now) g.M.Local.LocalMemory.memory g.M.Local.LocalMemory.actions g.M.SymMemory.stands g.M.SymMemory.terms (entry_view c.args.spec.now c.args.entered.now) (checking_view c.args.checking.now) c.args.listed.now c.args.declared.now
    (assertion_view c.args.items.now) former in
    let found = c.in-Some.found in
    let longer : length (into_iter_items c.loop-found.found-iterator) ≡ length (into_iter_items c.next.new.self) + 1 = ap length c.in-Some.ensures.steps.0 ∙ omega arith in
    let seen : map (λ k. k.state) (matches_view (c.loop-found.yielded ++ found ∷ [])) ≡ map (λ k. k.state) (matches_view c.loop-found.yielded) ++ state_view c.state_in-state.result ∷ [] =
    ap (map (λ k. k.state)) (map-append match_view c.loop-found.yielded (found ∷ [])) ∙ (map-append (λ k. k.state) (matches_view c.loop-found.yielded) (match_view found ∷ []) ∙ ap (λ s. map (λ k. k.state) (matches_view c.loop-found.yielded) ++ s ∷ []) (sym c.state_in-state.ensures)) in
    record {
      counted = omega (arith, longer, c.in-Some.ensures.steps.1, c.loop-found.invariant.counted);
      rest = rest_more c.args.matches c.loop-found.yielded (into_iter_items c.loop-found.found-iterator) (into_iter_items c.next.new.self) found c.loop-found.invariant.rest c.in-Some.ensures.steps.0;
      visits = subst (λ ls. Visits ls (nexts_view c.in_ok-nexts.nexts)) (sym seen)
          (subst (Visits (map (λ k. k.state) (matches_view c.loop-found.yielded) ++ state_view c.state_in-state.result ∷ [])) (sym c.in_ok-nexts.ensures)
          (more_visits (prog_view c.args.prog.now) g.M.Local.LocalMemory.memory g.M.Local.LocalMemory.actions g.M.SymMemory.stands g.M.SymMemory.terms (entry_view c.args.spec.now c.args.entered.now) (checking_view c.args.checking.now) c.args.listed.now c.args.declared.now
          (assertion_view c.args.items.now) former (map (λ k. k.state) (matches_view c.loop-found.yielded)) (state_view c.state_in-state.result ∷ []) (nexts_view c.loop-found.nexts) (nexts_view c.in_ok-more.more) c.loop-found.invariant.visits c.in_ok-more.ensures.cover));
      exact = λ n may at this place.
          let Next = IsExactNext (prog_view c.args.prog.now) g.M.Local.LocalMemory.memory g.M.Local.LocalMemory.actions g.M.SymMemory.stands (entry_view c.args.spec.now c.args.entered.now) (checking_view c.args.checking.now) in
          subst (Each Next) (sym c.in_ok-nexts.ensures) (each_append Next (nexts_view c.loop-found.nexts) (nexts_view c.in_ok-more.more) (c.loop-found.invariant.exact n may at this place) (c.in_ok-more.ensures.exact n may at this place));
      asked =
          let Adds = AddsOnly (AsksVisitThere (entry_view c.args.spec.now c.args.entered.now) (checking_view c.args.checking.now) (prog_view c.args.prog.now) c.args.scope.now (assertion_view c.args.items.now)) (checking_view c.args.checking.now) in
          subst (Each Adds) (sym c.in_ok-nexts.ensures) (each_append Adds (nexts_view c.loop-found.nexts) (nexts_view c.in_ok-more.more) c.loop-found.invariant.asked c.in_ok-more.ensures.asked);
    }

pub returns-clause-cover : goal.returns-clause-cover
returns-clause-cover g c =
    let none : into_iter_items c.loop-found.found-iterator ≡ [] = nil_from_length (into_iter_items c.loop-found.found-iterator) (sym c.loop-found.invariant.counted ∙ c.in-None.ensures.steps.0) in
    subst (λ ks. AreVisits (prog_view c.args.prog.now) g.M.Local.LocalMemory.memory g.M.Local.LocalMemory.actions g.M.SymMemory.stands g.M.SymMemory.terms (entry_view c.args.spec.now c.args.entered.now) (checking_view c.args.checking.now) c.args.listed.now c.args.declared.now
    (assertion_view c.args.items.now) (option_map (λ q. passed_view q.now) c.args.former) (map (λ k. k.state) (matches_view ks)) (nexts_view c.loop-found.nexts))
    (sym (c.loop-found.invariant.rest ∙ ap (λ xs. c.loop-found.yielded ++ xs) none ∙ append-nil c.loop-found.yielded)) c.loop-found.invariant.visits

pub returns-clause-asked : goal.returns-clause-asked
returns-clause-asked g c = c.loop-found.invariant.asked
