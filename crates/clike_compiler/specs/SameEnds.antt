-- What a compiled program has of its source: from every proper start, with any inputs, the same ends.
use Rattle.gil_syntax.specs.Pure.{PureParts}
use Rattle.mem_model.specs.declared.keys.MemoryName.TheVariants as memories
use Rattle.block_heap.specs.Table.{block_actions}
use Rattle.source_statements.specs.SameEnds as statements
use Rattle.clike_lang.specs.Meaning.{body}
use Rattle.clike_lang.specs.Pure.{PureSource}

-- over heaps of blocks
abbrev pub HasSameEnds : PureSource → PureParts → Type 0
HasSameEnds source p = statements.HasSameEnds memories.Block block_actions (body source.functions block_actions) source p
