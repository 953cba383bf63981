use Rattle.gil_values.proofs.DivisionLaws.{division_truncates}
use Rattle.gil_values.proofs.laws.division_truncates.Goals as goal

pub returns : goal.returns
returns c = division_truncates
