use Rattle.std.proofs.Common.{◌≡◌, ◌<◌, ℕ, Some, slice_get}
use Rattle.pure_terms.specs.declared.variables.Sort.{Sort}
use Rattle.equality_core.specs.Values.{HasRoot}
use Rattle.equality_core.proofs.rooting.int_with.Given as goal

abbrev pub invariant-loop-place : goal.invariant-loop-place
invariant-loop-place l = (y : ℕ) → y < l.place → slice_get l.sorts y ≡ Some Sort.Int → HasRoot l.roots l.root y → ⊥
