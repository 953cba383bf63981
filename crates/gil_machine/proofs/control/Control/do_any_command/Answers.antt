-- Each command by its own function.
use Rattle.std.proofs.Common.{sym, ap, subst}
use Rattle.std.proofs.lemmas.Result.{IfOk-weaker}
use Rattle.gil_values.specs.View.{values_view}
use Rattle.gil_machine.specs.ResolvedView.{resolved_command_view}
use Rattle.gil_syntax.specs.Program.{prog_view}
use Rattle.gil_machine.specs.Standing.{Does, place_of, slots_of}
use Rattle.gil_machine.proofs.control.Control.do_any_command.Goals as goal

pub returns-in-Assign-clause-does : goal.returns-in-Assign-clause-does
returns-in-Assign-clause-does g c = IfOk-weaker c.do_assign.result _ _ (λ end does. subst (λ command. Does (prog_view c.args.prog.now.prog.now) g.M.LocalMemory.actions (values_view c.args.inputs.now) command (place_of c.args.self.now c.args.at) c.args.self.now (g.M.LocalMemory.heap c.args.memory.now) end c.do_assign.new.self (g.M.LocalMemory.heap c.args.memory.now)) (sym (ap (resolved_command_view (slots_of c.args.self.now)) c.in-Assign.is)) (does (prog_view c.args.prog.now.prog.now) g.M.LocalMemory.actions (values_view c.args.inputs.now) (g.M.LocalMemory.heap c.args.memory.now))) c.do_assign.ensures.does

pub returns-in-Call-clause-does : goal.returns-in-Call-clause-does
returns-in-Call-clause-does g c = IfOk-weaker c.do_call.result _ _ (λ end does. subst (λ command. Does (prog_view c.args.prog.now.prog.now) g.M.LocalMemory.actions (values_view c.args.inputs.now) command (place_of c.args.self.now c.args.at) c.args.self.now (g.M.LocalMemory.heap c.args.memory.now) end c.do_call.new.self (g.M.LocalMemory.heap c.args.memory.now)) (sym (ap (resolved_command_view (slots_of c.args.self.now)) c.in-Call.is)) (does g.M.LocalMemory.actions (values_view c.args.inputs.now) (g.M.LocalMemory.heap c.args.memory.now))) c.do_call.ensures.does

pub returns-in-Act-clause-does : goal.returns-in-Act-clause-does
returns-in-Act-clause-does g c = IfOk-weaker c.do_act.result _ _ (λ end does. subst (λ command. Does (prog_view c.args.prog.now.prog.now) g.M.LocalMemory.actions (values_view c.args.inputs.now) command (place_of c.args.self.now c.args.at) c.args.self.now (g.M.LocalMemory.heap c.args.memory.now) end c.do_act.new.self (g.M.LocalMemory.heap c.do_act.new.memory)) (sym (ap (resolved_command_view (slots_of c.args.self.now)) c.in-Act.is)) (does (prog_view c.args.prog.now.prog.now) (values_view c.args.inputs.now))) c.do_act.ensures.does

pub returns-in-Usym-clause-does : goal.returns-in-Usym-clause-does
returns-in-Usym-clause-does g c = IfOk-weaker c.do_symbol.result _ _ (λ end does. subst (λ command. Does (prog_view c.args.prog.now.prog.now) g.M.LocalMemory.actions (values_view c.args.inputs.now) command (place_of c.args.self.now c.args.at) c.args.self.now (g.M.LocalMemory.heap c.args.memory.now) end c.do_symbol.new.self (g.M.LocalMemory.heap c.args.memory.now)) (sym (ap (resolved_command_view (slots_of c.args.self.now)) c.in-Usym.is)) (does (place_of c.args.self.now c.args.at) (prog_view c.args.prog.now.prog.now) g.M.LocalMemory.actions (values_view c.args.inputs.now) (g.M.LocalMemory.heap c.args.memory.now))) c.do_symbol.ensures.does

pub returns-in-Isym-clause-does : goal.returns-in-Isym-clause-does
returns-in-Isym-clause-does g c = IfOk-weaker c.do_draw.result _ _ (λ end does. subst (λ command. Does (prog_view c.args.prog.now.prog.now) g.M.LocalMemory.actions (values_view c.args.inputs.now) command (place_of c.args.self.now c.args.at) c.args.self.now (g.M.LocalMemory.heap c.args.memory.now) end c.do_draw.new.self (g.M.LocalMemory.heap c.args.memory.now)) (sym (ap (resolved_command_view (slots_of c.args.self.now)) c.in-Isym.is)) (does (prog_view c.args.prog.now.prog.now) g.M.LocalMemory.actions (place_of c.args.self.now c.args.at) (g.M.LocalMemory.heap c.args.memory.now))) c.do_draw.ensures.does

pub returns-in-IfGoto-clause-does : goal.returns-in-IfGoto-clause-does
returns-in-IfGoto-clause-does g c = IfOk-weaker c.do_branch.result _ _ (λ end does. subst (λ command. Does (prog_view c.args.prog.now.prog.now) g.M.LocalMemory.actions (values_view c.args.inputs.now) command (place_of c.args.self.now c.args.at) c.args.self.now (g.M.LocalMemory.heap c.args.memory.now) end c.do_branch.new.self (g.M.LocalMemory.heap c.args.memory.now)) (sym (ap (resolved_command_view (slots_of c.args.self.now)) c.in-IfGoto.is)) (does (prog_view c.args.prog.now.prog.now) g.M.LocalMemory.actions (values_view c.args.inputs.now) (g.M.LocalMemory.heap c.args.memory.now))) c.do_branch.ensures.does

pub returns-in-Return-clause-does : goal.returns-in-Return-clause-does
returns-in-Return-clause-does g c = IfOk-weaker c.do_return.result _ _ (λ end does. subst (λ command. Does (prog_view c.args.prog.now.prog.now) g.M.LocalMemory.actions (values_view c.args.inputs.now) command (place_of c.args.self.now c.args.at) c.args.self.now (g.M.LocalMemory.heap c.args.memory.now) end c.do_return.new.self (g.M.LocalMemory.heap c.args.memory.now)) (sym (ap (resolved_command_view (slots_of c.args.self.now)) c.in-Return.is)) (does (prog_view c.args.prog.now.prog.now) g.M.LocalMemory.actions (values_view c.args.inputs.now) (g.M.LocalMemory.heap c.args.memory.now))) c.do_return.ensures.does

pub returns-in-Fail-clause-does : goal.returns-in-Fail-clause-does
returns-in-Fail-clause-does g c = IfOk-weaker c.do_fail.result _ _ (λ end does. subst (λ command. Does (prog_view c.args.prog.now.prog.now) g.M.LocalMemory.actions (values_view c.args.inputs.now) command (place_of c.args.self.now c.args.at) c.args.self.now (g.M.LocalMemory.heap c.args.memory.now) end c.do_fail.new.self (g.M.LocalMemory.heap c.args.memory.now)) (sym (ap (resolved_command_view (slots_of c.args.self.now)) c.in-Fail.is)) (does (prog_view c.args.prog.now.prog.now) g.M.LocalMemory.actions (values_view c.args.inputs.now) (g.M.LocalMemory.heap c.args.memory.now))) c.do_fail.ensures.does

pub returns-in-Throw-clause-does : goal.returns-in-Throw-clause-does
returns-in-Throw-clause-does g c = IfOk-weaker c.do_throw.result _ _ (λ end does. subst (λ command. Does (prog_view c.args.prog.now.prog.now) g.M.LocalMemory.actions (values_view c.args.inputs.now) command (place_of c.args.self.now c.args.at) c.args.self.now (g.M.LocalMemory.heap c.args.memory.now) end c.do_throw.new.self (g.M.LocalMemory.heap c.args.memory.now)) (sym (ap (resolved_command_view (slots_of c.args.self.now)) c.in-Throw.is)) (does (prog_view c.args.prog.now.prog.now) g.M.LocalMemory.actions (values_view c.args.inputs.now) (g.M.LocalMemory.heap c.args.memory.now))) c.do_throw.ensures.does
