use Rattle.std.proofs.Common.{◌≡◌, drop}
use Rattle.sym_evaluation.specs.Pure.{place_at}
use Rattle.sym_evaluation.specs.View.{bindings_view}
use Rattle.sym_evaluation.proofs.Placed.{shifted}
use Rattle.sym_evaluation.proofs.store.SymStore.place_of.Given as goal

abbrev pub invariant-loop-place : goal.invariant-loop-place
invariant-loop-place l =
    shifted l.place (place_at (bindings_view (drop l.place l.self.bindings.items)) l.name) ≡ place_at (bindings_view l.self.bindings.items) l.name
