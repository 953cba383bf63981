-- The texts of programs of the object language.
use Rattle.std.specs.Prelude.{ℕ, List}
use Rattle.operator_text.specs.Few.{IsNestedWithFew}
use Rattle.source_text.specs.Texts as texts
use Rattle.object_lang.specs.Pure.{PureFunction, PureSource}
use Rattle.object_grammar.specs.Functions.{SpellsFunction}

-- an item of a text, and the byte at which it begins
abbrev pub PlacedItem : Type 0
PlacedItem = texts.PlacedItem PureFunction

-- The bytes are a text of these items.
abbrev pub SpellItems : List ℕ → List PlacedItem → Type 0
SpellItems bytes items = texts.SpellItems IsNestedWithFew SpellsFunction bytes items

-- The bytes are a text of the source.
abbrev pub SpellSource : List ℕ → PureSource → Type 0
SpellSource bytes source = texts.SpellSource IsNestedWithFew SpellsFunction bytes source
