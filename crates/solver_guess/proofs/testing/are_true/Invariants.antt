use Rattle.std.proofs.Common.{◌≡◌, true, take}
use Rattle.gil_values.specs.View.{values_view}
use Rattle.pure_terms.specs.Meaning.{all_true}
use Rattle.pure_terms.specs.View.{atoms_view}
use Rattle.solver_guess.proofs.testing.are_true.Given as goal

abbrev pub invariant-loop-atom : goal.invariant-loop-atom
invariant-loop-atom l = all_true (values_view l.valuation) (take l.atom-index (atoms_view l.atoms)) ≡ true
