use Rattle.std.proofs.Common.{◌≡◌, take}
use Rattle.pure_terms.specs.View.{atoms_view}
use Rattle.solver_sorts.specs.Sorting.{sorted_atoms}
use Rattle.solver_sorts.proofs.terms.sorted_atoms.Given as goal

abbrev pub invariant-loop-atom : goal.invariant-loop-atom
invariant-loop-atom l = atoms_view l.list ≡ sorted_atoms l.sorted (take l.atom-index (atoms_view l.atoms))
