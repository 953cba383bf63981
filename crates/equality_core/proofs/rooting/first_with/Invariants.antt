use Rattle.std.proofs.Common.{◌<◌, ℕ}
use Rattle.equality_core.specs.Values.{HasRoot}
use Rattle.equality_core.proofs.rooting.first_with.Given as goal

abbrev pub invariant-loop-place : goal.invariant-loop-place
invariant-loop-place l = (y : ℕ) → y < l.place → HasRoot l.roots l.root y → ⊥
