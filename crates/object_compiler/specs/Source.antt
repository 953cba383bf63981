-- A source as its tree.
use Rattle.object_lang.specs.Pure.{PureSource}
use Rattle.object_lang.specs.View.{source_parts_view}
use Rattle.object_compiler.specs.declared.source.Source.{Source}

abbrev pub source_view : Source → PureSource
source_view s = source_parts_view s.parts
