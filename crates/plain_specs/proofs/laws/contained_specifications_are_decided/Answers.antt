use Rattle.plain_specs.proofs.Contained as proved
use Rattle.plain_specs.proofs.laws.contained_specifications_are_decided.Goals as goal

pub returns : goal.returns
returns c = proved.contained_specifications_are_decided
