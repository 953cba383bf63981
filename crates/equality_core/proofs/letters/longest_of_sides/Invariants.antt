use Rattle.std.proofs.Common.{◌≡◌, ◌≤◌, ◌<◌, ℕ, Some, slice_get}
use Rattle.pure_terms.specs.Pure.{PureAtom, term_of}
use Rattle.pure_terms.specs.View.{atoms_view}
use Rattle.equality_core.specs.Values.{letters_of_sides}
use Rattle.equality_core.proofs.letters.longest_of_sides.Given as goal

abbrev pub invariant-loop-atom : goal.invariant-loop-atom
invariant-loop-atom l = (i : ℕ) (a : PureAtom) → i < l.atom-index → slice_get (atoms_view l.atoms) i ≡ Some a → letters_of_sides (term_of a) ≤ l.longest
