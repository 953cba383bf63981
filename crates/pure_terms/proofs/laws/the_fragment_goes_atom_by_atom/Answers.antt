use Rattle.pure_terms.proofs.FragmentLaws.{fragment_atom_by_atom}
use Rattle.pure_terms.proofs.laws.the_fragment_goes_atom_by_atom.Goals as goal

pub returns : goal.returns
returns c = fragment_atom_by_atom
