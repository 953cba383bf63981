use Rattle.std.proofs.Common.{◌≡◌, ℕ, List, take}
use Rattle.std.specs.Option.{option_or}
use Rattle.sym_evaluation.specs.Pure.{term_at}
use Rattle.sym_evaluation.specs.View.{bindings_view, store_view}
use Rattle.sym_states.proofs.stores.beside.Given as goal

abbrev pub invariant-loop-binding : goal.invariant-loop-binding
invariant-loop-binding l =
    (x : List ℕ) → term_at (store_view l.both) x ≡ option_or (term_at (store_view l.fn.first) x) (term_at (bindings_view (take l.binding-index l.binding-items)) x)
