-- The arguments, then the action, then what its outcome leads to.
use Rattle.std.proofs.Common.{◌≡◌, ℕ, ◌<◌, length, None, Ok, sym, subst}
use Rattle.std.proofs.lemmas.Result.{IfOk-weaker}
use Rattle.gil_values.specs.View.{values_view}
use Rattle.gil_syntax.specs.Evaluation.{evaluate_all}
use Rattle.gil_syntax.specs.Pure.{from_list}
use Rattle.mem_model.specs.Actions.{MayAct}
use Rattle.mem_model.specs.View.{outcome_view}
use Rattle.gil_values.specs.declared.places.Place.{Place}
use Rattle.gil_machine.specs.ResolvedView.{resolved_list_view}
use Rattle.gil_machine.specs.SlotNames.{name_at}
use Rattle.gil_machine.specs.declared.control.Frame.{Frame as KeptFrame}
use Rattle.gil_machine.specs.Step.{after_action}
use Rattle.gil_machine.specs.Held.{evaluate_all_held}
use Rattle.gil_machine.specs.Laws.{handed}
use Rattle.gil_machine.specs.Standing.{Comes, frame_slots, place_of, slots_of}
use Rattle.gil_machine.proofs.HeldValues.{elements-tell}
use Rattle.gil_machine.proofs.Outcomes.{values_go, values_stop, told_value, acts}
use Rattle.gil_machine.proofs.Proper.{may_act_where_reached}
use Rattle.gil_machine.proofs.control.Control.do_act.Goals as goal

abbrev at_frame : KeptFrame → ℕ → Place
at_frame frame at = record { proc = frame.proc.now.proc.now.name; at = at }

pub settle-requires-clause-placed : goal.settle-requires-clause-placed
settle-requires-clause-placed g c = subst (λ frame. c.args.slot < length (frame_slots frame)) (sym c.symbol_for-fresh.ensures.current) c.requires.placed

pub act-requires-clause-may : goal.act-requires-clause-may
act-requires-clause-may g c =
    let standing = c.requires.standing.1 in
    let values : evaluate_all (resolved_list_view (slots_of c.args.self.now) c.args.expressions.now) standing.state.current.store ≡ Ok (values_view c.in-Ok.args)
    = told_value (evaluate_all_held (resolved_list_view (slots_of c.args.self.now) c.args.expressions.now) standing.state.current.store) _ (values_view c.in-Ok.args) (elements-tell (from_list (resolved_list_view (slots_of c.args.self.now) c.args.expressions.now)) standing.state.current.store)
    (c.in-Ok.ensures (slots_of c.args.self.now) standing.state.current.store standing.stands.current.store) in
    subst (λ fresh. MayAct g.M.LocalMemory.actions c.args.action.now fresh (values_view c.in-Ok.args) (g.M.LocalMemory.heap c.args.memory.now)) (sym (c.symbol_for-fresh.ensures.handed c.requires.standing.0 standing.state standing.stands))
    (subst (MayAct g.M.LocalMemory.actions c.args.action.now (handed (g.M.LocalMemory.actions.takes_symbol c.args.action.now) standing.state) (values_view c.in-Ok.args)) standing.heap
    (may_act_where_reached g.M.LocalMemory.memory g.M.LocalMemory.actions standing.state c.args.action.now (resolved_list_view (slots_of c.args.self.now) c.args.expressions.now) (values_view c.in-Ok.args) standing.proper c.requires.made values))

pub returns-in_ok-outcome-in-Ok-clause-does : goal.returns-in_ok-outcome-in-Ok-clause-does
returns-in_ok-outcome-in-Ok-clause-does g c =
    IfOk-weaker c.settle.result _ _ (λ end goes. λ p inputs s stands heap.
    values_go p (evaluate_all_held (resolved_list_view (slots_of c.args.self.now) c.args.expressions.now) s.current.store) _ (values_view c.in-Ok.args) (place_of c.args.self.now c.args.at) s _ end c.settle.new.self (g.M.LocalMemory.heap c.act.new.self)
    (c.in-Ok.ensures (slots_of c.args.self.now) s.current.store stands.current.store) (elements-tell (from_list (resolved_list_view (slots_of c.args.self.now) c.args.expressions.now)) s.current.store)
    (acts p g.M.LocalMemory.actions (g.M.LocalMemory.actions.takes_symbol c.args.action.now) (name_at (slots_of c.args.self.now) c.args.slot) c.args.action.now (values_view c.in-Ok.args) (place_of c.args.self.now c.args.at) s c.symbol_for-fresh.result
    (outcome_view c.in_ok-outcome-in-Ok.outcome) end c.symbol_for-fresh.new.self c.settle.new.self (g.M.LocalMemory.heap c.args.memory.now) (g.M.LocalMemory.heap c.act.new.self)
    (c.symbol_for-fresh.ensures.handed p s stands) heap c.in_ok-outcome-in-Ok.ensures.outcome c.in_ok-outcome-in-Ok.ensures.changed
    (λ t there. subst (λ frame. Comes p None (after_action (outcome_view c.in_ok-outcome-in-Ok.outcome) (name_at (frame_slots frame) c.args.slot) (at_frame frame c.args.at) t) end c.settle.new.self t.heap)
    c.symbol_for-fresh.ensures.current (goes p t there))
    (c.symbol_for-fresh.ensures.counted p s stands))) c.settle.ensures.does

pub returns-in_ok-fault_ending-in-Err-clause-does : goal.returns-in_ok-fault_ending-in-Err-clause-does
returns-in_ok-fault_ending-in-Err-clause-does g c = λ p inputs s stands heap.
    values_stop p (evaluate_all_held (resolved_list_view (slots_of c.args.self.now) c.args.expressions.now) s.current.store) _ c.in-Err.fault (place_of c.args.self.now c.args.at) s _ _ _ _
    (c.in-Err.ensures (slots_of c.args.self.now) s.current.store stands.current.store) (elements-tell (from_list (resolved_list_view (slots_of c.args.self.now) c.args.expressions.now)) s.current.store) c.in_ok-fault_ending-in-Err.ensures stands heap
