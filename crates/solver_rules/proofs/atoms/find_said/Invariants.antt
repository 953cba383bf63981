use Rattle.std.proofs.Common.{◌≡◌, ◌<◌, ℕ, Some, slice_get}
use Rattle.pure_terms.specs.Pure.{PureAtom, binary_of}
use Rattle.pure_terms.specs.View.{term_view, atoms_view}
use Rattle.solver_rules.specs.Rules.{said}
use Rattle.solver_rules.proofs.atoms.find_said.Given as goal

abbrev pub invariant-loop-place : goal.invariant-loop-place
invariant-loop-place l = (i : ℕ) (a : PureAtom) → i < l.place → slice_get (atoms_view l.atoms) i ≡ Some a → a ≡ said l.is_true (binary_of l.op (term_view l.s) (term_view l.t)) → ⊥
