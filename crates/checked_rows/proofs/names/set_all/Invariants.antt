use Rattle.std.proofs.Common.{◌≡◌, ℕ, List, ◌++◌, drop}
use Rattle.checked_rows.proofs.names.set_all.Given as goal
use Rattle.sym_evaluation.specs.Pure.{term_at}
use Rattle.sym_evaluation.specs.View.{store_view}

abbrev pub invariant-loop-place : goal.invariant-loop-place
invariant-loop-place l = (x : List ℕ) → term_at (store_view l.names) x ≡ term_at (drop l.place (store_view l.store) ++ store_view l.fn.names) x
