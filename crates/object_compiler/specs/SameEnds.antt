-- What a compiled program has of its source: from every proper start, with any inputs, the same ends.
use Rattle.gil_syntax.specs.Pure.{PureParts}
use Rattle.mem_model.specs.declared.keys.MemoryName.TheVariants as memories
use Rattle.object_heap.specs.Table.{object_actions}
use Rattle.source_statements.specs.SameEnds as statements
use Rattle.object_lang.specs.Meaning.{body, with_library}
use Rattle.object_lang.specs.Pure.{PureSource}

-- over heaps of objects
abbrev pub HasSameEnds : PureSource → PureParts → Type 0
HasSameEnds source p =
    statements.HasSameEnds memories.Object object_actions (body (with_library source).functions object_actions) (with_library source) p
