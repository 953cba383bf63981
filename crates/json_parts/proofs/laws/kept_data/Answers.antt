use Rattle.json_parts.proofs.Again.{kept_again}
use Rattle.json_parts.proofs.laws.kept_data.Goals as goal

pub returns : goal.returns
returns c = kept_again
