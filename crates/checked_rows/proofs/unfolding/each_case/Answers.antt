use Rattle.std.proofs.Common.{rules, ◌≡◌, ◌+◌, [], ◌∷◌, ◌++◌, length, ap, sym, subst, ◌∙◌, arith}
use Rattle.std.specs.Vec.Iter.{into_iter_items}
use Rattle.std.proofs.lemmas.List.{append-nil, map-append, nil_from_length}
use Rattle.sym_engine.proofs.Settled.{rest_more, over_next}
use Rattle.sym_states.specs.Meaning.{IsOverTable}
use Rattle.sym_states.specs.View.{state_view}
use Rattle.sym_unfolding.specs.View.{case_view, cases_view}
use Rattle.checked_paths.proofs.Lists.{with_last}
use Rattle.checked_paths.specs.View.{checking_view, next_view, nexts_view}
use Rattle.checked_rows.specs.Unfolding.{EachUnfolded, IsUnfoldedNext}
use Rattle.sym_unfolding.specs.Unfolding.{PureUnfoldedCase}
use Rattle.checked_paths.specs.Meaning.{EachWith}
use Rattle.checked_paths.specs.Pure.{PureNext}
use Rattle.checked_rows.specs.Asked.{HasConds}
use Rattle.checked_rows.proofs.unfolding.each_case.Goals as goal

pub loop-case-init : goal.loop-case-init
loop-case-init g c = record {
  counted = search rules;
  rest = search rules;
  answered = subst (EachUnfolded g.M.SymMemory.stands g.M.SymMemory.terms c.args.here.now (checking_view c.args.checking.now) []) (sym (ap nexts_view c.new-nexts.ensures)) tt;
  same = subst (EachWith (λ (r : PureUnfoldedCase g.row.M.Denot) k. HasConds r.state.conds k) []) (sym (ap nexts_view c.new-nexts.ensures)) tt;
}

pub case_next-requires-clause-over : goal.case_next-requires-clause-over
case_next-requires-clause-over g c =
    subst (λ s. IsOverTable g.M.SymMemory.terms (state_view s)) (sym c.state_in-state.ensures)
    (over_next (λ r. IsOverTable g.M.SymMemory.terms r.state) case_view c.args.cases c.loop-case.yielded (into_iter_items c.loop-case.case-iterator) (into_iter_items c.next.new.self)
    c.in-Some.case c.loop-case.invariant.rest c.in-Some.ensures.steps.0 c.requires.over)

pub loop-case-preserved : goal.loop-case-preserved
loop-case-preserved g c =
    let stands = g.M.SymMemory.stands in
    let terms = g.M.SymMemory.terms in
    let here = c.args.here.now in
    let x = checking_view c.args.checking.now in
    let n = c.in_ok-case_next.field-0 in
    let longer : length (into_iter_items c.loop-case.case-iterator) ≡ length (into_iter_items c.next.new.self) + 1 = ap length c.in-Some.ensures.steps.0 ∙ omega arith in
    let seen = map-append case_view c.loop-case.yielded (c.in-Some.case ∷ []) in
    let pushed = ap nexts_view c.in_ok-push.ensures.ok ∙ map-append next_view c.loop-case.nexts (n ∷ []) in
    let answered : IsUnfoldedNext stands terms here x c.in-Some.case.number (state_view c.in-Some.case.state) (next_view n) = subst (λ s. IsUnfoldedNext stands terms here x c.in-Some.case.number (state_view s) (next_view n)) c.state_in-state.ensures c.in_ok-case_next.ensures.unfolded in
    let Same = λ (r : PureUnfoldedCase g.row.M.Denot) (k : PureNext g.row.M.Denot). HasConds r.state.conds k in
    record {
      counted = omega (arith, longer, c.in-Some.ensures.steps.1, c.loop-case.invariant.counted);
      rest = rest_more c.args.cases c.loop-case.yielded (into_iter_items c.loop-case.case-iterator) (into_iter_items c.next.new.self) c.in-Some.case c.loop-case.invariant.rest c.in-Some.ensures.steps.0;
      answered = subst (λ rs. EachUnfolded stands terms here x rs (nexts_view c.push.new.self)) (sym seen)
          (subst (EachUnfolded stands terms here x (cases_view c.loop-case.yielded ++ case_view c.in-Some.case ∷ [])) (sym pushed)
          (with_last (λ r k. IsUnfoldedNext stands terms here x r.number r.state k) (cases_view c.loop-case.yielded) (case_view c.in-Some.case) (nexts_view c.loop-case.nexts) (next_view n) c.loop-case.invariant.answered answered));
      same = subst (λ rs. EachWith Same rs (nexts_view c.push.new.self)) (sym seen)
          (subst (EachWith Same (cases_view c.loop-case.yielded ++ case_view c.in-Some.case ∷ [])) (sym pushed)
          (with_last Same (cases_view c.loop-case.yielded) (case_view c.in-Some.case) (nexts_view c.loop-case.nexts) (next_view n) c.loop-case.invariant.same
          (subst (λ s. HasConds (state_view s).conds (next_view n)) c.state_in-state.ensures c.in_ok-case_next.ensures.same)));
    }

pub returns-clause-unfolded : goal.returns-clause-unfolded
returns-clause-unfolded g c =
    let none : into_iter_items c.loop-case.case-iterator ≡ [] = nil_from_length (into_iter_items c.loop-case.case-iterator) (sym c.loop-case.invariant.counted ∙ c.in-None.ensures.steps.0) in
    subst (λ rs. EachUnfolded g.M.SymMemory.stands g.M.SymMemory.terms c.args.here.now (checking_view c.args.checking.now) (cases_view rs) (nexts_view c.loop-case.nexts))
    (sym (c.loop-case.invariant.rest ∙ ap (λ xs. c.loop-case.yielded ++ xs) none ∙ append-nil c.loop-case.yielded)) c.loop-case.invariant.answered

pub returns-clause-same : goal.returns-clause-same
returns-clause-same g c =
    let none : into_iter_items c.loop-case.case-iterator ≡ [] = nil_from_length (into_iter_items c.loop-case.case-iterator) (sym c.loop-case.invariant.counted ∙ c.in-None.ensures.steps.0) in
    subst (λ rs. EachWith (λ (r : PureUnfoldedCase g.row.M.Denot) k. HasConds r.state.conds k) (cases_view rs) (nexts_view c.loop-case.nexts))
    (sym (c.loop-case.invariant.rest ∙ ap (λ xs. c.loop-case.yielded ++ xs) none ∙ append-nil c.loop-case.yielded)) c.loop-case.invariant.same
