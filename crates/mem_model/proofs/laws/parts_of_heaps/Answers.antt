use Rattle.mem_model.proofs.Parts.{parts_are_heaps}
use Rattle.mem_model.proofs.laws.parts_of_heaps.Goals as goal

pub returns : goal.returns
returns c = parts_are_heaps
