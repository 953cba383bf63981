use Rattle.sym_chunks.proofs.OrderLaws.{ordered_numbers}
use Rattle.sym_chunks.proofs.laws.numbers_are_ordered.Goals as goal

pub returns : goal.returns
returns c = ordered_numbers
