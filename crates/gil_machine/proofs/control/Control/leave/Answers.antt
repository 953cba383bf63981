use Rattle.std.proofs.Common.{refl}
use Rattle.gil_values.specs.View.{value_view}
use Rattle.gil_machine.specs.declared.control.Control.{Control}
use Rattle.gil_machine.proofs.Standings.{leave_comes}
use Rattle.gil_machine.proofs.control.Control.leave.Goals as goal

pub returns-in_ok-self-in-Some-clause-goes : goal.returns-in_ok-self-in-Some-clause-goes
returns-in_ok-self-in-Some-clause-goes c =
    let new : Control = record { current = c.in_ok-self-in-Some.field-0; callers = c.pop.new.self; counter = c.args.self.now.counter; draws = c.args.self.now.draws } in
    λ p s stands. leave_comes p s (value_view c.args.value) c.args.self.now new c.in-Some.caller c.in-Some.ensures.items stands (c.in_ok-self-in-Some.ensures p) refl refl
