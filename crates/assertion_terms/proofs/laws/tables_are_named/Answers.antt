use Rattle.assertion_terms.proofs.Tables as proved
use Rattle.assertion_terms.proofs.laws.tables_are_named.Goals as goal

pub returns : goal.returns
returns c = proved.tables_are_named
