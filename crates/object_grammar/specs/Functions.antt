-- The lexemes of functions of the object language, and the reading of them.
use Rattle.std.specs.Prelude.{◌≡◌, ℕ, true, List, ◌∷◌, length, Some}
use Rattle.gil_lexer.specs.declared.signs.Sign.TheVariants.{LeftParenthesis, RightParenthesis}
use Rattle.gil_lexer.specs.declared.words.Word.TheVariants as words
use Rattle.gil_lexemes.specs.declared.standing.Lexeme.{Lexeme}
use Rattle.gil_lexemes.specs.declared.standing.Lexeme.TheVariants.{Name, Word}
use Rattle.gil_lexemes.specs.Reading.{Reading, ◌>>=◌, behind, sign_at, name_at}
use Rattle.gil_grammar.specs.Commands.{SpellsNames}
use Rattle.gil_grammar.specs.Reading.Commands.{names_at}
use Rattle.gil_grammar.specs.Vocabulary.{opening_parenthesis, closing_parenthesis}
use Rattle.statement_text.specs.Grammar.{Spellings, SpellsBlock}
use Rattle.statement_text.specs.Reading.{Readers, block_at}
use Rattle.object_operators.specs.Pure.{PureExpression}
use Rattle.object_lang.specs.Pure.{PureSimple, PureFunction}
use Rattle.object_grammar.specs.Reading.{expression_at, simple_at}
use Rattle.object_grammar.specs.Statements.{SpellsExpression, SpellsSimple}

abbrev pub object_spellings : Spellings PureExpression PureSimple
object_spellings = record { expression = SpellsExpression; simple = SpellsSimple; has_try = true }

abbrev pub object_readers : Readers PureExpression PureSimple
object_readers = record { expression_at = expression_at; simple_at = simple_at; has_try = true }

-- Where the last so many lexemes of a text begin is said by place.
module _ (place : ℕ → ℕ) where
  -- function name(x, ..) block, and the byte at which the function begins
  abbrev pub SpellsFunction : PureFunction → List Lexeme → List Lexeme → Type 0
  SpellsFunction f from rest =
      (params body : List Lexeme) × (f.at ≡ place (length from)) × (from ≡ Word words.Function ∷ Name f.name ∷ opening_parenthesis ∷ params)
      × SpellsNames f.params params (closing_parenthesis ∷ body) × SpellsBlock object_spellings place f.body body rest

-- ---- reading

-- from the word `function` on
unfoldable pub function_at : (ℕ → ℕ) → List Lexeme → Reading PureFunction
function_at place ls = do
  x ← name_at (behind ls)
  inner ← sign_at LeftParenthesis x.1
  xs ← names_at RightParenthesis inner
  outer ← sign_at RightParenthesis xs.1
  body ← block_at object_readers place (length outer) outer
  Some (record { name = x.0; params = xs.0; body = body.0; at = place (length ls) }, body.1)
