use Rattle.std.proofs.Common.{◌≡◌, take}
use Rattle.sym_evaluation.specs.View.{bindings_view}
use Rattle.invariant_rows.proofs.comparing.are_same_bindings.Given as goal

abbrev pub invariant-loop-place : goal.invariant-loop-place
invariant-loop-place l = take l.place (bindings_view l.left) ≡ take l.place (bindings_view l.right)
