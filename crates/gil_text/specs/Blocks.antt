-- What is answered where an assertion in braces isn't read.
use Rattle.std.specs.Prelude.{◌≡◌, List, map, Result, Ok, Err, Some}
use Rattle.gil_lexemes.specs.declared.standing.Lexeme.{Lexeme}
use Rattle.gil_lexemes.specs.declared.stops.Stop.{Stop}
use Rattle.gil_lexemes.specs.declared.stops.Stop.TheVariants as stops
use Rattle.gil_lexemes.specs.Reading.{Gives}
use Rattle.gil_lexemes.specs.Lists.{with_front}
use Rattle.gil_syntax.specs.declared.assertions.Item.{Item}
use Rattle.gil_syntax.specs.Pure.{PureItem}
use Rattle.gil_syntax.specs.View.{assertion_view}
use Rattle.gil_grammar.specs.declared.positions.Extent.{Extent}
use Rattle.gil_grammar.specs.Reading.Assertions.{without_block}

-- Where the reader stopped for its syntax, the assertions before are answered, or none; want of memory is handed on.
abbrev pub GivesWithout : Extent → Stop → Result (List (List Item) × List Lexeme) Stop → List (List PureItem) → List Lexeme → Type 0
GivesWithout extent stops.Memory result front rest = result ≡ Err stops.Memory
GivesWithout extent (stops.Syntax left) result front rest =
    Gives (λ found. (map assertion_view found.0, found.1)) result (with_front front (without_block extent rest))
