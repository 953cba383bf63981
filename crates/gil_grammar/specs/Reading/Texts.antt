-- Reading whole texts.
use Rattle.std.specs.Prelude.{ℕ, zero, suc, List, [], ◌∷◌, ◌++◌, length, Option, Some, None, if◌then◌else◌}
use Rattle.gil_lexer.specs.declared.forms.Token.{Token}
use Rattle.gil_lexer.specs.declared.words.Word.TheVariants.{Proc}
use Rattle.gil_lexemes.specs.declared.standing.Lexeme.{Lexeme}
use Rattle.gil_lexemes.specs.Reading.{◌>>=◌, first_form, is_word}
use Rattle.gil_grammar.specs.Reading.Programs.{item_at}
use Rattle.gil_grammar.specs.Texts.{PlacedItem, byte_before}

-- the items that were read before, and those that are still read
abbrev pub with_items : List PlacedItem → Option (List PlacedItem) → Option (List PlacedItem)
with_items front read = read >>= λ items. Some (front ++ items)

-- the items of which the lexemes consist, at most n
unfoldable pub items_at : List Token → ℕ → List Lexeme → Option (List PlacedItem)
items_at tokens n [] = Some []
items_at tokens zero (l ∷ ls) = None
items_at tokens (suc n) (l ∷ ls) =
    item_at (l ∷ ls) >>= λ x. with_items (record { item = x.0; at = byte_before tokens (length (l ∷ ls)) } ∷ []) (items_at tokens n x.1)

-- the items of a program, of which a procedure is the first
unfoldable pub program_at : List Token → List Lexeme → Option (List PlacedItem)
program_at tokens ls = if is_word Proc (first_form ls) then items_at tokens (length ls) ls else None
