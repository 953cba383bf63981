use Rattle.std.proofs.Common.{rules, ◌≡◌, ◌+◌, [], ◌∷◌, ◌++◌, length, sym, ap, subst, ◌∙◌, arith}
use Rattle.std.specs.Vec.Iter.{into_iter_items}
use Rattle.std.proofs.lemmas.List.{append-nil, map-append, nil_from_length}
use Rattle.sym_engine.proofs.Settled.{rest_more, over_next}
use Rattle.sym_states.specs.Meaning.{IsOverTable}
use Rattle.pure_terms.specs.View.{terms_view}
use Rattle.footprint.specs.View.{match_view, matches_view}
use Rattle.sym_states.specs.View.{state_view}
use Rattle.checked_paths.specs.View.{checking_view, next_view, nexts_view}
use Rattle.checked_paths.proofs.Lists.{with_last}
use Rattle.checked_rows.specs.Folding.{EachFolded, IsFoldedNext, fact_of}
use Rattle.footprint.specs.Pure.{PureMatch}
use Rattle.checked_paths.specs.Meaning.{EachWith}
use Rattle.checked_paths.specs.Pure.{PureNext}
use Rattle.checked_rows.specs.Asked.{HasConds}
use Rattle.checked_rows.proofs.folding.go_on_folded.Goals as goal

pub loop-found-preserved : goal.loop-found-preserved
loop-found-preserved g c =
    let stands = g.M.SymMemory.stands in
    let terms = g.M.SymMemory.terms in
    let x = checking_view c.args.checking.now in
    let f = fact_of c.args.name.now (terms_view c.args.ins.now) (terms_view c.args.outs.now) in
    let n = c.in_ok-folded_next.field-0 in
    let at = c.args.here.now in
    let k = match_view c.in-Some.found in
    let Same = λ (j : PureMatch g.row.M.Denot) (h : PureNext g.row.M.Denot). HasConds j.state.conds h in
    let seen = map-append match_view c.loop-found.yielded (c.in-Some.found ∷ []) in
    let pushed = ap nexts_view c.in_ok-push.ensures.ok ∙ map-append next_view c.loop-found.nexts (n ∷ []) in
    let answered : IsFoldedNext stands terms at x f k.state (next_view n) =
    subst (λ s. IsFoldedNext stands terms at x f s (next_view n)) c.state_in-state.ensures
    (subst (λ h. IsFoldedNext stands terms at x h (state_view c.state_in-state.result) (next_view n)) c.in_ok-fact.ensures c.in_ok-folded_next.ensures.folded) in
    let longer : length (into_iter_items c.loop-found.found-iterator) ≡ length (into_iter_items c.next.new.self) + 1 = ap length c.in-Some.ensures.steps.0 ∙ omega arith in
    record {
      counted = omega (arith, longer, c.in-Some.ensures.steps.1, c.loop-found.invariant.counted);
      rest = rest_more c.args.matches c.loop-found.yielded (into_iter_items c.loop-found.found-iterator) (into_iter_items c.next.new.self) c.in-Some.found c.loop-found.invariant.rest c.in-Some.ensures.steps.0;
      folded = subst (λ ms. EachFolded stands terms at x f ms (nexts_view c.push.new.self)) (sym seen)
          (subst (EachFolded stands terms at x f (matches_view c.loop-found.yielded ++ k ∷ [])) (sym pushed)
          (with_last (λ j h. IsFoldedNext stands terms at x f j.state h) (matches_view c.loop-found.yielded) k (nexts_view c.loop-found.nexts) (next_view n) c.loop-found.invariant.folded answered));
      same = subst (λ ms. EachWith Same ms (nexts_view c.push.new.self)) (sym seen)
          (subst (EachWith Same (matches_view c.loop-found.yielded ++ k ∷ [])) (sym pushed)
          (with_last Same (matches_view c.loop-found.yielded) k (nexts_view c.loop-found.nexts) (next_view n) c.loop-found.invariant.same
          (subst (λ s. HasConds s.conds (next_view n)) c.state_in-state.ensures c.in_ok-folded_next.ensures.same)));
    }

pub loop-found-init : goal.loop-found-init
loop-found-init g c = record {
  counted = search rules;
  rest = search rules;
  folded = subst (EachFolded g.M.SymMemory.stands g.M.SymMemory.terms c.args.here.now (checking_view c.args.checking.now) (fact_of c.args.name.now (terms_view c.args.ins.now) (terms_view c.args.outs.now)) []) (sym (ap nexts_view c.new-nexts.ensures)) tt;
  same = subst (EachWith (λ (k : PureMatch g.row.M.Denot) n. HasConds k.state.conds n) []) (sym (ap nexts_view c.new-nexts.ensures)) tt;
}

pub folded_next-requires-clause-over : goal.folded_next-requires-clause-over
folded_next-requires-clause-over g c =
    subst (IsOverTable g.M.SymMemory.terms) (sym c.state_in-state.ensures)
    (over_next (λ k. IsOverTable g.M.SymMemory.terms k.state) match_view c.args.matches c.loop-found.yielded (into_iter_items c.loop-found.found-iterator) (into_iter_items c.next.new.self)
    c.in-Some.found c.loop-found.invariant.rest c.in-Some.ensures.steps.0 c.requires.over)

pub returns-clause-folded : goal.returns-clause-folded
returns-clause-folded g c =
    let none : into_iter_items c.loop-found.found-iterator ≡ [] = nil_from_length (into_iter_items c.loop-found.found-iterator) (sym c.loop-found.invariant.counted ∙ c.in-None.ensures.steps.0) in
    subst (λ ms. EachFolded g.M.SymMemory.stands g.M.SymMemory.terms c.args.here.now (checking_view c.args.checking.now) (fact_of c.args.name.now (terms_view c.args.ins.now) (terms_view c.args.outs.now)) (matches_view ms) (nexts_view c.loop-found.nexts))
    (sym (c.loop-found.invariant.rest ∙ ap (λ xs. c.loop-found.yielded ++ xs) none ∙ append-nil c.loop-found.yielded)) c.loop-found.invariant.folded

pub returns-clause-same : goal.returns-clause-same
returns-clause-same g c =
    let none : into_iter_items c.loop-found.found-iterator ≡ [] = nil_from_length (into_iter_items c.loop-found.found-iterator) (sym c.loop-found.invariant.counted ∙ c.in-None.ensures.steps.0) in
    subst (λ ms. EachWith (λ (k : PureMatch g.row.M.Denot) n. HasConds k.state.conds n) (matches_view ms) (nexts_view c.loop-found.nexts))
    (sym (c.loop-found.invariant.rest ∙ ap (λ xs. c.loop-found.yielded ++ xs) none ∙ append-nil c.loop-found.yielded)) c.loop-found.invariant.same
