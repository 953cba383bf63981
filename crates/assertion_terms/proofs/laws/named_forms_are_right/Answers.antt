use Rattle.assertion_terms.proofs.Forms as proved
use Rattle.assertion_terms.proofs.laws.named_forms_are_right.Goals as goal

pub returns : goal.returns
returns c = proved.named_forms_are_right
