-- A command that only computes with numbers does what it does by the table.
use Rattle.std.proofs.Common.{None, sym, ap, subst}
use Rattle.gil_values.specs.Pure.{boolean}
use Rattle.gil_values.specs.View.{value_view, values_view}
use Rattle.gil_syntax.specs.Pure.{assign, ifgoto}
use Rattle.gil_syntax.specs.Program.{prog_view}
use Rattle.gil_machine.specs.Held.{evaluate_held}
use Rattle.gil_machine.specs.ResolvedView.{resolved_command_view, resolved_view}
use Rattle.gil_machine.specs.SlotNames.{name_at}
use Rattle.gil_machine.specs.Standing.{Comes, Does, place_of, slots_of}
use Rattle.gil_machine.specs.Step.{assigned, branch}
use Rattle.gil_machine.proofs.HeldValues.{evaluate-tells}
use Rattle.gil_machine.proofs.Outcomes.{value_goes}
use Rattle.gil_machine.proofs.control.Control.do_command.Goals as goal

pub returns-in_ok-assign-in-Some-clause-does : goal.returns-in_ok-assign-in-Some-clause-does
returns-in_ok-assign-in-Some-clause-does g c =
    let p = prog_view c.args.prog.now.prog.now in
    let names = slots_of c.args.self.now in
    let here = place_of c.args.self.now c.args.at in
    let heap = g.M.LocalMemory.heap c.args.memory.now in
    let expression = resolved_view names c.in-Assign.expression in
    let does : Does p g.M.LocalMemory.actions (values_view c.args.inputs.now) (assign (name_at names c.in-Assign.slot) expression) here c.args.self.now heap None c.assign.new.self heap
    = λ s stands same.
    value_goes p (evaluate_held expression s.current.store) _ (value_view c.in-Some.value) here s _ None _ heap
    (c.in-Some.ensures names s.current.store stands.current.store) (evaluate-tells expression s.current.store)
    (subst (Comes p None (assigned (name_at names c.in-Assign.slot) (value_view c.in-Some.value) s) None c.assign.new.self) same (c.in_ok-assign-in-Some.ensures.goes p s stands)) in
    subst (λ command. Does p g.M.LocalMemory.actions (values_view c.args.inputs.now) command here c.args.self.now heap None c.assign.new.self heap) (sym (ap (resolved_command_view names) c.in-Assign.is)) does

pub returns-in-Some-truth_of-clause-does : goal.returns-in-Some-truth_of-clause-does
returns-in-Some-truth_of-clause-does g c =
    let p = prog_view c.args.prog.now.prog.now in
    let names = slots_of c.args.self.now in
    let here = place_of c.args.self.now c.args.at in
    let heap = g.M.LocalMemory.heap c.args.memory.now in
    let guard = resolved_view names c.in-IfGoto.guard in
    let does : Does p g.M.LocalMemory.actions (values_view c.args.inputs.now) (ifgoto guard c.in-IfGoto.label) here c.args.self.now heap None c.take_side.new.self heap
    = λ s stands same.
    value_goes p (evaluate_held guard s.current.store) _ (boolean c.in-Some-truth_of.holds) here s _ None _ heap
    (c.in-Some-truth_of.ensures names s.current.store stands.current.store) (evaluate-tells guard s.current.store)
    (subst (Comes p None (branch (boolean c.in-Some-truth_of.holds) c.in-IfGoto.label here s) None c.take_side.new.self) same (c.take_side.ensures.goes here p s stands)) in
    subst (λ command. Does p g.M.LocalMemory.actions (values_view c.args.inputs.now) command here c.args.self.now heap None c.take_side.new.self heap) (sym (ap (resolved_command_view names) c.in-IfGoto.is)) does
