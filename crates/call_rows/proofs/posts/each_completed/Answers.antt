use Rattle.std.proofs.Common.{rules, ◌≡◌, ◌+◌, [], ◌∷◌, ◌++◌, length, ap, sym, subst, ◌∙◌, arith}
use Rattle.std.specs.Vec.Iter.{into_iter_items}
use Rattle.std.proofs.lemmas.List.{append-nil, map-append, nil_from_length}
use Rattle.gil_syntax.specs.Program.{prog_view}
use Rattle.pure_terms.specs.View.{term_view}
use Rattle.sym_engine.proofs.Settled.{rest_more, over_next}
use Rattle.sym_states.specs.View.{state_view, states_view}
use Rattle.checked_paths.proofs.Lists.{with_last}
use Rattle.checked_paths.specs.Meaning.{EachWith}
use Rattle.checked_paths.specs.View.{checking_view, entry_view, next_view, nexts_view}
use Rattle.call_rows.specs.Leaving.{IsCompleted, MayComplete}
use Rattle.call_rows.specs.Asked.{AddsToState, AsksCompleting}
use Rattle.call_rows.proofs.posts.each_completed.Goals as goal

pub loop-state-init : goal.loop-state-init
loop-state-init g c = record {
  counted = search rules;
  rest = search rules;
  answered = subst (EachWith (IsCompleted (prog_view c.args.prog.now) g.M.SymMemory.stands g.M.SymMemory.terms (entry_view c.args.spec.now c.args.entered.now) (checking_view c.args.checking.now) c.args.here.now c.args.how c.args.choice (term_view c.args.term.now)) []) (sym (ap nexts_view c.new-nexts.ensures)) tt;
  asked = subst (EachWith (AddsToState (AsksCompleting (prog_view c.args.prog.now) (entry_view c.args.spec.now c.args.entered.now) c.args.how)) []) (sym (ap nexts_view c.new-nexts.ensures)) tt;
}

pub completed_next-requires-clause-may : goal.completed_next-requires-clause-may
completed_next-requires-clause-may g c =
    over_next (MayComplete g.M.SymMemory.terms (entry_view c.args.spec.now c.args.entered.now) (checking_view c.args.checking.now).path.given (term_view c.args.term.now)) state_view c.args.states c.loop-state.yielded (into_iter_items c.loop-state.state-iterator) (into_iter_items c.next.new.self)
    c.in-Some.state c.loop-state.invariant.rest c.in-Some.ensures.steps.0 c.requires.may

pub loop-state-preserved : goal.loop-state-preserved
loop-state-preserved g c =
    let R = IsCompleted (prog_view c.args.prog.now) g.M.SymMemory.stands g.M.SymMemory.terms (entry_view c.args.spec.now c.args.entered.now) (checking_view c.args.checking.now) c.args.here.now c.args.how c.args.choice (term_view c.args.term.now) in
    let T = AddsToState (AsksCompleting (prog_view c.args.prog.now) (entry_view c.args.spec.now c.args.entered.now) c.args.how) in
    let n = c.in_ok-completed_next.field-0 in
    let longer : length (into_iter_items c.loop-state.state-iterator) ≡ length (into_iter_items c.next.new.self) + 1 = ap length c.in-Some.ensures.steps.0 ∙ omega arith in
    let seen = map-append state_view c.loop-state.yielded (c.in-Some.state ∷ []) in
    let pushed = ap nexts_view c.in_ok-push.ensures.ok ∙ map-append next_view c.loop-state.nexts (n ∷ []) in
    record {
      counted = omega (arith, longer, c.in-Some.ensures.steps.1, c.loop-state.invariant.counted);
      rest = rest_more c.args.states c.loop-state.yielded (into_iter_items c.loop-state.state-iterator) (into_iter_items c.next.new.self) c.in-Some.state c.loop-state.invariant.rest c.in-Some.ensures.steps.0;
      answered = subst (λ rs. EachWith R rs (nexts_view c.push.new.self)) (sym seen)
          (subst (EachWith R (states_view c.loop-state.yielded ++ state_view c.in-Some.state ∷ [])) (sym pushed)
          (with_last R (states_view c.loop-state.yielded) (state_view c.in-Some.state) (nexts_view c.loop-state.nexts) (next_view n) c.loop-state.invariant.answered c.in_ok-completed_next.ensures.answer));
      asked = subst (λ rs. EachWith T rs (nexts_view c.push.new.self)) (sym seen)
          (subst (EachWith T (states_view c.loop-state.yielded ++ state_view c.in-Some.state ∷ [])) (sym pushed)
          (with_last T (states_view c.loop-state.yielded) (state_view c.in-Some.state) (nexts_view c.loop-state.nexts) (next_view n) c.loop-state.invariant.asked c.in_ok-completed_next.ensures.asked));
    }

pub returns-clause-answers : goal.returns-clause-answers
returns-clause-answers g c =
    let R = IsCompleted (prog_view c.args.prog.now) g.M.SymMemory.stands g.M.SymMemory.terms (entry_view c.args.spec.now c.args.entered.now) (checking_view c.args.checking.now) c.args.here.now c.args.how c.args.choice (term_view c.args.term.now) in
    let none : into_iter_items c.loop-state.state-iterator ≡ [] = nil_from_length (into_iter_items c.loop-state.state-iterator) (sym c.loop-state.invariant.counted ∙ c.in-None.ensures.steps.0) in
    subst (λ rs. EachWith R (states_view rs) (nexts_view c.loop-state.nexts))
    (sym (c.loop-state.invariant.rest ∙ ap (λ xs. c.loop-state.yielded ++ xs) none ∙ append-nil c.loop-state.yielded)) c.loop-state.invariant.answered

pub returns-clause-asked : goal.returns-clause-asked
returns-clause-asked g c =
    let T = AddsToState (AsksCompleting (prog_view c.args.prog.now) (entry_view c.args.spec.now c.args.entered.now) c.args.how) in
    let none : into_iter_items c.loop-state.state-iterator ≡ [] = nil_from_length (into_iter_items c.loop-state.state-iterator) (sym c.loop-state.invariant.counted ∙ c.in-None.ensures.steps.0) in
    subst (λ rs. EachWith T (states_view rs) (nexts_view c.loop-state.nexts))
    (sym (c.loop-state.invariant.rest ∙ ap (λ xs. c.loop-state.yielded ++ xs) none ∙ append-nil c.loop-state.yielded)) c.loop-state.invariant.asked
