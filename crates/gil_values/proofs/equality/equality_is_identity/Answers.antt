use Rattle.gil_values.specs.EqualityLaws.{same_value-Decides}
use Rattle.gil_values.proofs.equality.equality_is_identity.Goals as goal

pub returns : goal.returns
returns c = same_value-Decides
