-- The ending is behind a pointer.
use Rattle.std.proofs.Common.{◌≡◌, sym, subst}
use Rattle.std.proofs.lemmas.Result.{IfOk-weaker}
use Rattle.gil_values.specs.View.{values_view}
use Rattle.gil_syntax.specs.Program.{prog_view}
use Rattle.gil_machine.specs.ResolvedView.{resolved_command_view}
use Rattle.gil_machine.specs.Standing.{Does, IsAtNumber, place_of, slots_of}
use Rattle.gil_machine.proofs.control.Control.do_other_command.Goals as goal

pub returns-clause-does : goal.returns-clause-does
returns-clause-does g c = IfOk-weaker c.boxed.result _ _ (λ end same. subst (λ e. Does (prog_view c.args.prog.now.prog.now) g.M.LocalMemory.actions (values_view c.args.inputs.now) (resolved_command_view (slots_of c.args.self.now) c.args.command.now) (place_of c.args.self.now c.args.at) c.args.self.now
    (g.M.LocalMemory.heap c.args.memory.now) e c.do_any_command.new.self (g.M.LocalMemory.heap c.do_any_command.new.memory)) (sym same) c.in_ok-ending.ensures.does) c.boxed.ensures

pub returns-clause-at_number : goal.returns-clause-at_number
returns-clause-at_number g c = IfOk-weaker c.boxed.result _ _ (λ end same. subst (λ e. IsAtNumber e → g.M.LocalMemory.heap c.do_any_command.new.memory ≡ g.M.LocalMemory.heap c.args.memory.now) (sym same) c.in_ok-ending.ensures.at_number) c.boxed.ensures
