use Rattle.std.proofs.Common.{◌≡◌, Some, map, take}
use Rattle.pure_terms.specs.View.{atoms_view}
use Rattle.atom_text.specs.Resolving.{variable_in, atoms_of}
use Rattle.atom_text.specs.Sources.{stated_view}
use Rattle.atom_text.proofs.atoms.atoms_of.Given as goal

abbrev pub invariant-loop-one : goal.invariant-loop-one
invariant-loop-one l = atoms_of (variable_in l.variables) (map stated_view (take l.one-index l.stated)) ≡ Some (atoms_view l.atoms)
