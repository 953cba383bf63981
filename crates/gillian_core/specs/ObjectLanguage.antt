-- The object language, over objects.
use Rattle.std.specs.Prelude.{[]}
use Rattle.std.specs.FinMap.{empty}
use Rattle.object_heap.specs.Table.{object_actions}
use Rattle.object_lang.specs.Pure.{PureSource}
use Rattle.object_lang.specs.Meaning.{source_end}
use Rattle.object_grammar.specs.Texts.{SpellSource}
use Rattle.object_compiler.specs.Compiled.{compiled}
use Rattle.object_compiler.specs.SameEnds.{HasSameEnds}
use Rattle.object_compiler.specs.Valid.{IsValidSource, first_too_long}
use Rattle.object_text.specs.Refusals.{IsRefusedFor}
use Rattle.gillian_core.specs.Compiled.{SourceLanguage, definition_by_source}
use Rattle.gillian_core.specs.Definitions.{Definition}
use Rattle.gillian_core.specs.Memories.{object_memory}

abbrev pub object_sources : SourceLanguage
object_sources = record {
  Source = PureSource;
  Spells = SpellSource;
  IsValid = IsValidSource;
  first_too_long = first_too_long;
  IsRefusedFor = IsRefusedFor;
  compiled = compiled;
  end_within = λ s entry inputs n. source_end s object_actions entry [] empty 0 inputs n;
  HasSameEnds = HasSameEnds;
  memory = object_memory;
}

abbrev pub object_language : Definition
object_language = definition_by_source object_sources
