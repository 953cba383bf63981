use Rattle.std.proofs.Common.{None, subst}
use Rattle.std.proofs.lemmas.Result.{IfOk-weaker}
use Rattle.gil_values.specs.View.{value_view}
use Rattle.gil_machine.specs.ResolvedView.{resolved_view}
use Rattle.gil_machine.specs.Held.{evaluate_held}
use Rattle.gil_machine.specs.Standing.{place_of, Comes, slots_of}
use Rattle.gil_machine.proofs.HeldValues.{evaluate-tells}
use Rattle.gil_machine.proofs.Outcomes.{value_goes, value_stops}
use Rattle.gil_machine.specs.Step.{handling, throw_to}
use Rattle.gil_machine.proofs.control.Control.do_throw.Goals as goal

pub returns-in_ok-place-in-Ok-clause-does : goal.returns-in_ok-place-in-Ok-clause-does
returns-in_ok-place-in-Ok-clause-does c = IfOk-weaker c.throw.result _ _ (λ end goes. λ p m inputs h s stands heap.
    value_goes p (evaluate_held (resolved_view (slots_of c.args.self.now) c.args.expression.now) s.current.store) _ (value_view c.in-Ok.value) (place_of c.args.self.now c.args.at) s _ end _ h
    (c.in-Ok.ensures (slots_of c.args.self.now) s.current.store stands.current.store) (evaluate-tells (resolved_view (slots_of c.args.self.now) c.args.expression.now) s.current.store)
    (subst (λ place. Comes p None (throw_to (handling s.callers) (value_view c.in-Ok.value) place s) end c.throw.new.self h) c.in_ok-place-in-Ok.ensures
    (subst (Comes p None (throw_to (handling s.callers) (value_view c.in-Ok.value) c.in_ok-place-in-Ok.place s) end c.throw.new.self) heap (goes p s stands)))) c.throw.ensures.goes

pub returns-in_ok-fault_ending-in-Err-clause-does : goal.returns-in_ok-fault_ending-in-Err-clause-does
returns-in_ok-fault_ending-in-Err-clause-does c = λ p m inputs h s stands heap.
    value_stops p (evaluate_held (resolved_view (slots_of c.args.self.now) c.args.expression.now) s.current.store) _ c.in-Err.fault (place_of c.args.self.now c.args.at) s _ _ _ h
    (c.in-Err.ensures (slots_of c.args.self.now) s.current.store stands.current.store) (evaluate-tells (resolved_view (slots_of c.args.self.now) c.args.expression.now) s.current.store) c.in_ok-fault_ending-in-Err.ensures stands heap
