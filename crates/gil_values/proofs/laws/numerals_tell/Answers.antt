use Rattle.gil_values.proofs.Numerals.{numerals_tell}
use Rattle.gil_values.proofs.laws.numerals_tell.Goals as goal

pub returns : goal.returns
returns c = numerals_tell
