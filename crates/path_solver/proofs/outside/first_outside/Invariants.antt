use Rattle.std.proofs.Common.{◌≡◌, ℕ, ◌<◌, true, slice_get, Some}
use Rattle.pure_terms.specs.Pure.{PureAtom}
use Rattle.pure_terms.specs.View.{atoms_view}
use Rattle.path_solver.specs.Outside.{is_plain_atom}
use Rattle.path_solver.proofs.outside.first_outside.Given as goal

abbrev pub invariant-loop-place : goal.invariant-loop-place
invariant-loop-place l = (i : ℕ) (a : PureAtom) → i < l.place → slice_get (atoms_view l.atoms) i ≡ Some a → is_plain_atom a ≡ true
