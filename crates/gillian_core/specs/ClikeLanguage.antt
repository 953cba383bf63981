-- The C-like language, over blocks.
use Rattle.std.specs.Prelude.{[]}
use Rattle.std.specs.FinMap.{empty}
use Rattle.block_heap.specs.Table.{block_actions}
use Rattle.clike_lang.specs.Pure.{PureSource}
use Rattle.clike_lang.specs.Meaning.{source_end}
use Rattle.clike_grammar.specs.Texts.{SpellSource}
use Rattle.clike_compiler.specs.Compiled.{compiled}
use Rattle.clike_compiler.specs.SameEnds.{HasSameEnds}
use Rattle.clike_compiler.specs.Valid.{IsValidSource, first_too_long}
use Rattle.clike_text.specs.Refusals.{IsRefusedFor}
use Rattle.gillian_core.specs.Compiled.{SourceLanguage, definition_by_source}
use Rattle.gillian_core.specs.Definitions.{Definition}
use Rattle.gillian_core.specs.Memories.{block_memory}

abbrev pub clike_sources : SourceLanguage
clike_sources = record {
  Source = PureSource;
  Spells = SpellSource;
  IsValid = IsValidSource;
  first_too_long = λ s. first_too_long s.functions;
  IsRefusedFor = IsRefusedFor;
  compiled = compiled;
  end_within = λ s entry inputs n. source_end s block_actions entry [] empty 0 inputs n;
  HasSameEnds = HasSameEnds;
  memory = block_memory;
}

abbrev pub clike_language : Definition
clike_language = definition_by_source clike_sources
