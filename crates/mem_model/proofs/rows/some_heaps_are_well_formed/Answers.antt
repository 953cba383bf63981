use Rattle.std.proofs.Common.{refl}
use Rattle.mem_model.specs.declared.keys.MemoryName.TheVariants.{Record, Block, Object}
use Rattle.mem_model.specs.Rows.{a_record, a_block, an_object, cells_alone, gone_beside_a_record}
use Rattle.mem_model.proofs.WellFormed.{tested_heap}
use Rattle.mem_model.proofs.rows.some_heaps_are_well_formed.Goals as goal

pub returns-clause-of_records : goal.returns-clause-of_records
returns-clause-of_records c = tested_heap Record a_record refl refl

pub returns-clause-of_blocks : goal.returns-clause-of_blocks
returns-clause-of_blocks c = tested_heap Block a_block refl refl

pub returns-clause-of_objects : goal.returns-clause-of_objects
returns-clause-of_objects c = tested_heap Object an_object refl refl

pub returns-clause-unbounded : goal.returns-clause-unbounded
returns-clause-unbounded c = tested_heap Block cells_alone refl refl

pub returns-clause-gone : goal.returns-clause-gone
returns-clause-gone c = tested_heap Record gone_beside_a_record refl refl
