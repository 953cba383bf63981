use Rattle.std.proofs.Common.{None, subst}
use Rattle.gil_values.specs.View.{value_view}
use Rattle.gil_machine.specs.ResolvedView.{resolved_view}
use Rattle.gil_machine.specs.SlotNames.{name_at}
use Rattle.gil_machine.specs.Held.{evaluate_held}
use Rattle.gil_machine.specs.Standing.{place_of, Comes, slots_of}
use Rattle.gil_machine.proofs.HeldValues.{evaluate-tells}
use Rattle.gil_machine.proofs.Outcomes.{value_goes, value_stops}
use Rattle.gil_machine.specs.Step.{assigned}
use Rattle.gil_machine.proofs.control.Control.do_assign.Goals as goal

pub returns-in_ok-assign-in-Ok-clause-does : goal.returns-in_ok-assign-in-Ok-clause-does
returns-in_ok-assign-in-Ok-clause-does c = λ p m inputs h s stands heap.
    value_goes p (evaluate_held (resolved_view (slots_of c.args.self.now) c.args.expression.now) s.current.store) _ (value_view c.in-Ok.value) (place_of c.args.self.now c.args.at) s _ _ _ h
    (c.in-Ok.ensures (slots_of c.args.self.now) s.current.store stands.current.store) (evaluate-tells (resolved_view (slots_of c.args.self.now) c.args.expression.now) s.current.store)
    (subst (Comes p None (assigned (name_at (slots_of c.args.self.now) c.args.slot) (value_view c.in-Ok.value) s) None c.assign.new.self) heap (c.in_ok-assign-in-Ok.ensures.goes p s stands))

pub returns-in_ok-fault_ending-in-Err-clause-does : goal.returns-in_ok-fault_ending-in-Err-clause-does
returns-in_ok-fault_ending-in-Err-clause-does c = λ p m inputs h s stands heap.
    value_stops p (evaluate_held (resolved_view (slots_of c.args.self.now) c.args.expression.now) s.current.store) _ c.in-Err.fault (place_of c.args.self.now c.args.at) s _ _ _ h
    (c.in-Err.ensures (slots_of c.args.self.now) s.current.store stands.current.store) (evaluate-tells (resolved_view (slots_of c.args.self.now) c.args.expression.now) s.current.store) c.in_ok-fault_ending-in-Err.ensures stands heap
