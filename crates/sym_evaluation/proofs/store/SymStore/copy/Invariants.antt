use Rattle.std.proofs.Common.{◌≡◌, take, map}
use Rattle.sym_evaluation.specs.View.{binding_view}
use Rattle.sym_evaluation.proofs.store.SymStore.copy.Given as goal

abbrev pub invariant-loop-binding : goal.invariant-loop-binding
invariant-loop-binding l = map binding_view l.bindings.items ≡ map binding_view (take l.binding-index l.binding-items)
