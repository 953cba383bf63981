-- The texts of While programs.
use Rattle.std.specs.Prelude.{ℕ, List}
use Rattle.gil_grammar.specs.Nesting.{IsNested}
use Rattle.source_text.specs.Texts as texts
use Rattle.while_lang.specs.Pure.{PureFunction, PureSource}
use Rattle.while_grammar.specs.Statements.{SpellsFunction}

-- an item of a text, and the byte at which it begins
abbrev pub PlacedItem : Type 0
PlacedItem = texts.PlacedItem PureFunction

-- The bytes are a text of these items.
abbrev pub SpellItems : List ℕ → List PlacedItem → Type 0
SpellItems bytes items = texts.SpellItems IsNested SpellsFunction bytes items

-- The bytes are a text of the source.
abbrev pub SpellSource : List ℕ → PureSource → Type 0
SpellSource bytes source = texts.SpellSource IsNested SpellsFunction bytes source
