use Rattle.std.proofs.Common.{◌≡◌, ℕ, ◌<◌, [], ◌∷◌, Some, slice_get}
use Rattle.pure_terms.specs.Fragment.{InFragment}
use Rattle.pure_terms.specs.Pure.{PureAtom}
use Rattle.pure_terms.specs.View.{atoms_view}
use Rattle.sym_paths.proofs.asking.first_outside.Given as goal

abbrev pub invariant-loop-place : goal.invariant-loop-place
invariant-loop-place l = (j : ℕ) (a : PureAtom) → j < l.place → slice_get (atoms_view l.items) j ≡ Some a → InFragment (a ∷ [])
