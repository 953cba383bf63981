use Rattle.std.proofs.Common.{◌≡◌, map, take}
use Rattle.pure_terms.specs.View.{atom_view, atoms_view}
use Rattle.spec_causes.specs.Causes.{without_forms}
use Rattle.spec_exploration.proofs.beginning.without_forms.Given as goal

abbrev pub invariant-loop-atom : goal.invariant-loop-atom
invariant-loop-atom l = atoms_view l.others ≡ without_forms (map atom_view (take l.atom-index l.atom-items))
