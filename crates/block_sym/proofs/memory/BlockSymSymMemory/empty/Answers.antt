use Rattle.std.proofs.Common.{refl, sym, subst}
use Rattle.std.specs.FinMap.{empty}
use Rattle.mem_model.specs.declared.keys.MemoryName.TheVariants.{Block}
use Rattle.mem_model.proofs.Parts.{empty_is_heap}
use Rattle.sym_model.specs.Chunks.{StandFor}
use Rattle.block_sym.proofs.memory.BlockSymSymMemory.empty.Goals as goal

pub returns-clause-stands : goal.returns-clause-stands
returns-clause-stands c = λ v. subst (λ cs. StandFor Block cs v empty) (sym c.new.ensures) (record { union = refl; is_heap = empty_is_heap Block })
