use Rattle.std.proofs.Common.{refl, sym, subst}
use Rattle.std.specs.FinMap.{empty}
use Rattle.mem_model.specs.declared.keys.MemoryName.TheVariants.{Object}
use Rattle.mem_model.proofs.Parts.{empty_is_heap}
use Rattle.sym_model.specs.Chunks.{StandFor}
use Rattle.object_sym.proofs.memory.ObjectSymSymMemory.empty.Goals as goal

pub returns-clause-stands : goal.returns-clause-stands
returns-clause-stands c = λ v. subst (λ cs. StandFor Object cs v empty) (sym c.new.ensures) (record { union = refl; is_heap = empty_is_heap Object })
