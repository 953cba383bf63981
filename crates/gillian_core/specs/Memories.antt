-- The memories of records, of blocks and of objects.
use Rattle.std.specs.Prelude.{⊤}
use Rattle.mem_model.specs.declared.keys.MemoryName.TheVariants.{Record, Block, Object}
use Rattle.block_heap.specs.Table.{block_actions}
use Rattle.block_sym.specs.Plain.{block_stands, block_terms, block_plain, block_kept, block_asked, block_depends}
use Rattle.object_heap.specs.Table.{object_actions}
use Rattle.object_sym.specs.Plain.{object_stands, object_terms, object_plain, object_kept, object_asked, object_depends}
use Rattle.record_heap.specs.Table.{record_actions}
use Rattle.record_sym.specs.Plain.{record_stands, record_terms, record_plain, record_kept, record_asked, record_depends}
use Rattle.gillian_core.specs.Definitions.{Memory, memory_of}

abbrev pub record_memory : Memory
record_memory = memory_of Record record_actions record_stands record_terms record_asked record_depends record_plain record_kept ⊤ ⊤

abbrev pub block_memory : Memory
block_memory = memory_of Block block_actions block_stands block_terms block_asked block_depends block_plain block_kept ⊤ ⊥

abbrev pub object_memory : Memory
object_memory = memory_of Object object_actions object_stands object_terms object_asked object_depends object_plain object_kept ⊤ ⊥
