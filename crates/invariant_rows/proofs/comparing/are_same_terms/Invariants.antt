use Rattle.std.proofs.Common.{◌≡◌, take}
use Rattle.pure_terms.specs.View.{terms_view}
use Rattle.invariant_rows.proofs.comparing.are_same_terms.Given as goal

abbrev pub invariant-loop-place : goal.invariant-loop-place
invariant-loop-place l = take l.place (terms_view l.left) ≡ take l.place (terms_view l.right)
