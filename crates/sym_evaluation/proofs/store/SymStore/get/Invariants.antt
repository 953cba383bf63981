use Rattle.std.proofs.Common.{◌≡◌, drop}
use Rattle.sym_evaluation.specs.Pure.{term_at}
use Rattle.sym_evaluation.specs.View.{bindings_view}
use Rattle.sym_evaluation.proofs.store.SymStore.get.Given as goal

abbrev pub invariant-loop-binding : goal.invariant-loop-binding
invariant-loop-binding l = term_at (bindings_view (drop l.binding-index l.binding-items)) l.name ≡ term_at (bindings_view l.binding-items) l.name
