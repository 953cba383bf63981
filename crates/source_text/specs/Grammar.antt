-- What is spelled in braces; what the grammar of a language's functions and the reading of them have to do with each other.
use Rattle.std.specs.Prelude.{◌≡◌, ℕ, ◌<◌, true, false, List, ◌∷◌, length, Some}
use Rattle.gil_lexer.specs.declared.words.Word.{Word}
use Rattle.gil_lexer.specs.declared.words.Word.TheVariants.{Spec, Pred, Throw}
use Rattle.gil_lexemes.specs.declared.standing.Lexeme.{Lexeme}
use Rattle.gil_lexemes.specs.Reading.{Reading, first_form, same_word, is_word}
use Rattle.gil_grammar.specs.Nesting.{IsNestedFrom}
use Rattle.gil_grammar.specs.Vocabulary.{opening_brace, closing_brace}

-- { .. }, of what is spelled within
abbrev pub Braced : (List Lexeme → List Lexeme → Type 0) → List Lexeme → List Lexeme → Type 0
Braced spells from rest = (inner : List Lexeme) × (from ≡ opening_brace ∷ inner) × spells inner (closing_brace ∷ rest)

-- A function begins with a word, which begins no other item and goes on none; what is read is spelled, and what is spelled is read, where no more
-- brackets are open than may be: the lexemes that are left are fewer, and no more are open among them.
pub record HasReading {F : Type 0} (first : Word) (spells : (ℕ → ℕ) → F → List Lexeme → List Lexeme → Type 0)
    (function_at : (ℕ → ℕ) → List Lexeme → Reading F) : Type 0 where
  pub no_spec : same_word Spec first ≡ false
  pub no_pred : same_word Pred first ≡ false
  pub no_throw : same_word first Throw ≡ false
  pub begins : (place : ℕ → ℕ) (f : F) (ls rest : List Lexeme) → spells place f ls rest → is_word first (first_form ls) ≡ true
  pub takes : (place : ℕ → ℕ) (ls : List Lexeme) (found : F × List Lexeme) → is_word first (first_form ls) ≡ true
      → function_at place ls ≡ Some found → spells place found.0 ls found.1
  pub again : (place : ℕ → ℕ) (f : F) (ls rest : List Lexeme) (count : ℕ) → IsNestedFrom count ls → spells place f ls rest
      → (function_at place ls ≡ Some (f, rest)) × ((left : ℕ) × IsNestedFrom left rest) × (length rest < length ls)
