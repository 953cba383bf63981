use Rattle.fresh_atoms.proofs.Atoms as proved
use Rattle.fresh_atoms.proofs.laws.fresh_atoms_are_constant.Goals as goal

pub returns : goal.returns
returns c = proved.fresh_atoms_are_constant
