use Rattle.pure_terms.proofs.SimpleLaws.{fragment_terms_are_booleans}
use Rattle.pure_terms.proofs.laws.fragment_atoms_are_true_or_false.Goals as goal

pub returns : goal.returns
returns c = fragment_terms_are_booleans
