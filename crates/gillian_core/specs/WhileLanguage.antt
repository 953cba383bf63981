-- While, over records.
use Rattle.std.specs.Prelude.{[]}
use Rattle.std.specs.FinMap.{empty}
use Rattle.record_heap.specs.Table.{record_actions}
use Rattle.while_lang.specs.Pure.{PureSource}
use Rattle.while_lang.specs.Meaning.{source_end}
use Rattle.while_grammar.specs.Texts.{SpellSource}
use Rattle.while_compiler.specs.Compiled.{compiled}
use Rattle.while_compiler.specs.SameEnds.{HasSameEnds}
use Rattle.while_compiler.specs.Valid.{IsValidSource, first_too_long}
use Rattle.while_text.specs.Refusals.{IsRefusedFor}
use Rattle.gillian_core.specs.Compiled.{SourceLanguage, definition_by_source}
use Rattle.gillian_core.specs.Definitions.{Definition}
use Rattle.gillian_core.specs.Memories.{record_memory}

abbrev pub while_sources : SourceLanguage
while_sources = record {
  Source = PureSource;
  Spells = SpellSource;
  IsValid = IsValidSource;
  first_too_long = λ s. first_too_long s.functions;
  IsRefusedFor = IsRefusedFor;
  compiled = compiled;
  end_within = λ s entry inputs n. source_end s record_actions entry [] empty 0 inputs n;
  HasSameEnds = HasSameEnds;
  memory = record_memory;
}

abbrev pub while_language : Definition
while_language = definition_by_source while_sources
