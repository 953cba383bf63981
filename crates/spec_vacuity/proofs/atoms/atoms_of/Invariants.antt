use Rattle.std.proofs.Common.{◌≡◌, take}
use Rattle.gil_syntax.specs.View.{assertion_view}
use Rattle.pure_terms.specs.View.{atoms_view}
use Rattle.spec_vacuity.specs.Translation.{atoms_of, variable_from}
use Rattle.spec_vacuity.proofs.atoms.atoms_of.Given as goal

abbrev pub invariant-loop-item : goal.invariant-loop-item
invariant-loop-item l = atoms_view l.atoms ≡ atoms_of (variable_from 0 l.variables) (assertion_view (take l.item-index l.items))
