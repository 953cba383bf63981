use Rattle.gil_values.proofs.TableLaws.{equal_tells}
use Rattle.gil_values.proofs.laws.equal_tells.Goals as goal

pub returns : goal.returns
returns c = equal_tells
