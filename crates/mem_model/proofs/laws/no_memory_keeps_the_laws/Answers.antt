use Rattle.mem_model.specs.NoMemory.{no_memory_is_one}
use Rattle.mem_model.proofs.laws.no_memory_keeps_the_laws.Goals as goal

pub returns : goal.returns
returns c = no_memory_is_one
