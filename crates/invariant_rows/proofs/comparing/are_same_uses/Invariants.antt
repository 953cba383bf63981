use Rattle.std.proofs.Common.{◌≡◌, take}
use Rattle.sym_model.specs.View.{uses_view}
use Rattle.invariant_rows.proofs.comparing.are_same_uses.Given as goal

abbrev pub invariant-loop-place : goal.invariant-loop-place
invariant-loop-place l = take l.place (uses_view l.left) ≡ take l.place (uses_view l.right)
