use Rattle.std.proofs.Common.{drop}
use Rattle.gil_values.specs.View.{values_view}
use Rattle.gil_machine.specs.Kept.{Keeps}
use Rattle.gil_machine.specs.ResolvedWhole.{proc_slots}
use Rattle.gil_machine.specs.Step.{bind_all}
use Rattle.gil_machine.specs.StoreView.{store_view}
use Rattle.gil_machine.proofs.control.store_of.Given as goal

abbrev pub invariant-loop-i : goal.invariant-loop-i
invariant-loop-i l = Keeps (proc_slots l.proc) (store_view l.store) (bind_all (drop l.i l.proc.proc.now.params) (drop l.i (values_view l.args)))
