use Rattle.assertion_terms.proofs.Stands as proved
use Rattle.assertion_terms.proofs.laws.names_are_of_variables.Goals as goal

pub returns : goal.returns
returns c = proved.names_are_of_variables
