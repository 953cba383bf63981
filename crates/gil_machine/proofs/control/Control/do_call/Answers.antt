-- The callee, then its arguments, then the call.
use Rattle.std.proofs.Common.{None, subst}
use Rattle.std.proofs.lemmas.Result.{IfOk-weaker}
use Rattle.gil_values.specs.View.{value_view, values_view}
use Rattle.gil_syntax.specs.Pure.{from_list}
use Rattle.gil_syntax.specs.Program.{prog_view}
use Rattle.gil_machine.specs.ResolvedView.{resolved_view, resolved_list_view}
use Rattle.gil_machine.specs.SlotNames.{name_at}
use Rattle.gil_machine.specs.Held.{evaluate_held, evaluate_all_held}
use Rattle.gil_machine.specs.Standing.{place_of, Comes, slots_of}
use Rattle.gil_machine.specs.Step.{enter_value}
use Rattle.gil_machine.proofs.HeldValues.{evaluate-tells, elements-tell}
use Rattle.gil_machine.proofs.Outcomes.{first_goes, first_stops, values_go, values_stop}
use Rattle.gil_machine.proofs.control.Control.do_call.Goals as goal

pub returns-in-Err-clause-does : goal.returns-in-Err-clause-does
returns-in-Err-clause-does c = λ m inputs h s stands heap.
    first_stops (prog_view c.args.prog.now.prog.now) (evaluate_held (resolved_view (slots_of c.args.self.now) c.args.callee.now) s.current.store) _ (evaluate_all_held (resolved_list_view (slots_of c.args.self.now) c.args.expressions.now) s.current.store)
    c.in-Err.fault (place_of c.args.self.now c.args.at) s _ _ _ h
    (c.in-Err.ensures (slots_of c.args.self.now) s.current.store stands.current.store) (evaluate-tells (resolved_view (slots_of c.args.self.now) c.args.callee.now) s.current.store) c.in_ok-fault_ending-in-Err.ensures stands heap

pub returns-in-Err-evaluate_all-clause-does : goal.returns-in-Err-evaluate_all-clause-does
returns-in-Err-evaluate_all-clause-does c = λ m inputs h s stands heap.
    first_goes (prog_view c.args.prog.now.prog.now) (evaluate_held (resolved_view (slots_of c.args.self.now) c.args.callee.now) s.current.store) _ (value_view c.in-Ok.called) (evaluate_all_held (resolved_list_view (slots_of c.args.self.now) c.args.expressions.now) s.current.store)
    (place_of c.args.self.now c.args.at) s _ _ _ h
    (c.in-Ok.ensures (slots_of c.args.self.now) s.current.store stands.current.store) (evaluate-tells (resolved_view (slots_of c.args.self.now) c.args.callee.now) s.current.store)
    (values_stop (prog_view c.args.prog.now.prog.now) (evaluate_all_held (resolved_list_view (slots_of c.args.self.now) c.args.expressions.now) s.current.store) _ c.in-Err-evaluate_all.fault (place_of c.args.self.now c.args.at) s _ _ _ h
    (c.in-Err-evaluate_all.ensures (slots_of c.args.self.now) s.current.store stands.current.store) (elements-tell (from_list (resolved_list_view (slots_of c.args.self.now) c.args.expressions.now)) s.current.store)
    c.in_ok-fault_ending-in-Err-evaluate_all.ensures stands heap)

pub returns-clause-does : goal.returns-clause-does
returns-clause-does c = IfOk-weaker c.begin.result _ _ (λ end goes. λ m inputs h s stands heap.
    first_goes (prog_view c.args.prog.now.prog.now) (evaluate_held (resolved_view (slots_of c.args.self.now) c.args.callee.now) s.current.store) _ (value_view c.in-Ok.called) (evaluate_all_held (resolved_list_view (slots_of c.args.self.now) c.args.expressions.now) s.current.store)
    (place_of c.args.self.now c.args.at) s _ end _ h
    (c.in-Ok.ensures (slots_of c.args.self.now) s.current.store stands.current.store) (evaluate-tells (resolved_view (slots_of c.args.self.now) c.args.callee.now) s.current.store)
    (values_go (prog_view c.args.prog.now.prog.now) (evaluate_all_held (resolved_list_view (slots_of c.args.self.now) c.args.expressions.now) s.current.store) _ (values_view c.in-Ok-evaluate_all.args) (place_of c.args.self.now c.args.at) s _ end _ h
    (c.in-Ok-evaluate_all.ensures (slots_of c.args.self.now) s.current.store stands.current.store) (elements-tell (from_list (resolved_list_view (slots_of c.args.self.now) c.args.expressions.now)) s.current.store)
    (subst (λ o. Comes (prog_view c.args.prog.now.prog.now) None (enter_value (prog_view c.args.prog.now.prog.now) (value_view c.in-Ok.called) (name_at (slots_of c.args.self.now) c.args.slot) o (values_view c.in-Ok-evaluate_all.args) (place_of c.args.self.now c.args.at) s) end c.begin.new.self h) c.handler_label.ensures
    (subst (Comes (prog_view c.args.prog.now.prog.now) None (enter_value (prog_view c.args.prog.now.prog.now) (value_view c.in-Ok.called) (name_at (slots_of c.args.self.now) c.args.slot) c.handler_label.result (values_view c.in-Ok-evaluate_all.args) (place_of c.args.self.now c.args.at) s) end c.begin.new.self) heap
    (goes s stands))))) c.begin.ensures.does
