use Rattle.std.proofs.Common.{rules, ◌≡◌, ◌+◌, [], ◌∷◌, ◌++◌, length, ap, sym, subst, ◌∙◌, arith}
use Rattle.std.specs.Vec.Iter.{into_iter_items}
use Rattle.std.proofs.lemmas.List.{append-nil, map-append, nil_from_length}
use Rattle.sym_engine.proofs.Settled.{rest_more, over_next}
use Rattle.sym_states.specs.Meaning.{IsOverTable}
use Rattle.sym_states.specs.View.{state_view, states_view}
use Rattle.checked_paths.proofs.Lists.{with_last}
use Rattle.checked_paths.specs.Meaning.{EachWith}
use Rattle.checked_paths.specs.View.{checking_view, next_view, nexts_view}
use Rattle.checked_paths.specs.Pure.{PureNext}
use Rattle.checked_rows.specs.Asked.{HasConds}
use Rattle.sym_states.specs.Pure.{PureState}
use Rattle.invariant_rows.specs.Entering.{IsAdditionAnswered}
use Rattle.invariant_rows.proofs.adding.each_state.Goals as goal

-- the answer has the conditions of the state
abbrev Has : {S : Type 0} → PureState S → PureNext S → Type 0
Has r k = HasConds r.conds k

pub loop-state-init : goal.loop-state-init
loop-state-init g c = record {
  counted = search rules;
  rest = search rules;
  answered = subst (EachWith (IsAdditionAnswered g.M.SymMemory.stands g.M.SymMemory.terms c.args.here.now (checking_view c.args.checking.now)) []) (sym (ap nexts_view c.new-nexts.ensures)) tt;
  same = subst (EachWith Has []) (sym (ap nexts_view c.new-nexts.ensures)) tt;
}

pub state_next-requires-clause-over : goal.state_next-requires-clause-over
state_next-requires-clause-over g c =
    over_next (IsOverTable g.M.SymMemory.terms) state_view c.args.states c.loop-state.yielded (into_iter_items c.loop-state.state-iterator) (into_iter_items c.next.new.self)
    c.in-Some.state c.loop-state.invariant.rest c.in-Some.ensures.steps.0 c.requires.over

pub loop-state-preserved : goal.loop-state-preserved
loop-state-preserved g c =
    let Is = IsAdditionAnswered g.M.SymMemory.stands g.M.SymMemory.terms c.args.here.now (checking_view c.args.checking.now) in
    let n = c.in_ok-state_next.field-0 in
    let longer : length (into_iter_items c.loop-state.state-iterator) ≡ length (into_iter_items c.next.new.self) + 1 = ap length c.in-Some.ensures.steps.0 ∙ omega arith in
    let seen = map-append state_view c.loop-state.yielded (c.in-Some.state ∷ []) in
    let pushed = ap nexts_view c.in_ok-push.ensures.ok ∙ map-append next_view c.loop-state.nexts (n ∷ []) in
    record {
      counted = omega (arith, longer, c.in-Some.ensures.steps.1, c.loop-state.invariant.counted);
      rest = rest_more c.args.states c.loop-state.yielded (into_iter_items c.loop-state.state-iterator) (into_iter_items c.next.new.self) c.in-Some.state c.loop-state.invariant.rest c.in-Some.ensures.steps.0;
      answered = subst (λ rs. EachWith Is rs (nexts_view c.push.new.self)) (sym seen)
          (subst (EachWith Is (states_view c.loop-state.yielded ++ state_view c.in-Some.state ∷ [])) (sym pushed)
          (with_last Is (states_view c.loop-state.yielded) (state_view c.in-Some.state) (nexts_view c.loop-state.nexts) (next_view n) c.loop-state.invariant.answered c.in_ok-state_next.ensures.answered));
      same = subst (λ rs. EachWith Has rs (nexts_view c.push.new.self)) (sym seen)
          (subst (EachWith Has (states_view c.loop-state.yielded ++ state_view c.in-Some.state ∷ [])) (sym pushed)
          (with_last Has (states_view c.loop-state.yielded) (state_view c.in-Some.state) (nexts_view c.loop-state.nexts) (next_view n) c.loop-state.invariant.same c.in_ok-state_next.ensures.same));
    }

pub returns-clause-answered : goal.returns-clause-answered
returns-clause-answered g c =
    let none : into_iter_items c.loop-state.state-iterator ≡ [] = nil_from_length (into_iter_items c.loop-state.state-iterator) (sym c.loop-state.invariant.counted ∙ c.in-None.ensures.steps.0) in
    subst (λ rs. EachWith (IsAdditionAnswered g.M.SymMemory.stands g.M.SymMemory.terms c.args.here.now (checking_view c.args.checking.now)) (states_view rs) (nexts_view c.loop-state.nexts))
    (sym (c.loop-state.invariant.rest ∙ ap (λ xs. c.loop-state.yielded ++ xs) none ∙ append-nil c.loop-state.yielded)) c.loop-state.invariant.answered

pub returns-clause-same : goal.returns-clause-same
returns-clause-same g c =
    let none : into_iter_items c.loop-state.state-iterator ≡ [] = nil_from_length (into_iter_items c.loop-state.state-iterator) (sym c.loop-state.invariant.counted ∙ c.in-None.ensures.steps.0) in
    subst (λ rs. EachWith Has (states_view rs) (nexts_view c.loop-state.nexts)) (sym (c.loop-state.invariant.rest ∙ ap (λ xs. c.loop-state.yielded ++ xs) none ∙ append-nil c.loop-state.yielded)) c.loop-state.invariant.same
