use Rattle.gil_values.proofs.Numerals.{printing_tells_numbers}
use Rattle.gil_values.proofs.laws.printing_tells_numbers.Goals as goal

pub returns : goal.returns
returns c = printing_tells_numbers
