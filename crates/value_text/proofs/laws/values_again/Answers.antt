use Rattle.value_text.proofs.ValueLaws.{values_again}
use Rattle.value_text.proofs.laws.values_again.Goals as goal

pub returns : goal.returns
returns c = values_again
