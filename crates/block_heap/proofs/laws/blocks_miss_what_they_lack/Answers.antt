use Rattle.block_heap.specs.BlockLaws.{block_misses_what_lacks}
use Rattle.block_heap.proofs.laws.blocks_miss_what_they_lack.Goals as goal

pub returns : goal.returns
returns c = block_misses_what_lacks
