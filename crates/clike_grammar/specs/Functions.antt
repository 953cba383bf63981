-- The lexemes of C-like functions, and the reading of them.
use Rattle.std.specs.Prelude.{◌≡◌, ℕ, false, List, ◌∷◌, length, Some}
use Rattle.gil_lexer.specs.declared.signs.Sign.TheVariants.{LeftParenthesis, RightParenthesis, Comma}
use Rattle.gil_lexer.specs.declared.words.Word.TheVariants.{Int}
use Rattle.gil_lexemes.specs.declared.standing.Lexeme.{Lexeme}
use Rattle.gil_lexemes.specs.Lists.{separated_at}
use Rattle.gil_lexemes.specs.Reading.{Reading, ◌>>=◌, behind, sign_at, word_at}
use Rattle.gil_grammar.specs.Lists.{SpellsSeparated}
use Rattle.gil_grammar.specs.Vocabulary.{opening_parenthesis, closing_parenthesis, comma}
use Rattle.statement_text.specs.Grammar.{Spellings, SpellsBlock}
use Rattle.statement_text.specs.Reading.{Readers, block_at}
use Rattle.clike_operators.specs.Pure.{PureExpression}
use Rattle.clike_lang.specs.Pure.{PureSimple, PureFunction}
use Rattle.clike_grammar.specs.Reading.{expression_at, simple_at, declared_name_at}
use Rattle.clike_grammar.specs.Statements.{SpellsExpression, SpellsSimple, SpellsDeclared}

abbrev pub clike_spellings : Spellings PureExpression PureSimple
clike_spellings = record { expression = SpellsExpression; simple = SpellsSimple; has_try = false }

abbrev pub clike_readers : Readers PureExpression PureSimple
clike_readers = record { expression_at = expression_at; simple_at = simple_at; has_try = false }

-- Where the last so many lexemes of a text begin is said by place.
module _ (place : ℕ → ℕ) where
  -- int name(int x, ..) block, with stars behind each `int`, and the byte at which the function begins
  abbrev pub SpellsFunction : PureFunction → List Lexeme → List Lexeme → Type 0
  SpellsFunction f from rest =
      (params body : List Lexeme) × (f.at ≡ place (length from)) × SpellsDeclared f.name from (opening_parenthesis ∷ params)
      × SpellsSeparated SpellsDeclared comma f.params params (closing_parenthesis ∷ body) × SpellsBlock clike_spellings place f.body body rest

-- ---- reading

-- int x, with stars between
unfoldable pub param_at : List Lexeme → Reading (List ℕ)
param_at ls = do
  behind_int ← word_at Int ls
  declared_name_at behind_int

-- the parameters up to the closing parenthesis
abbrev pub params_at : List Lexeme → Reading (List (List ℕ))
params_at ls = separated_at param_at RightParenthesis Comma ls

-- from the word `int` on
unfoldable pub function_at : (ℕ → ℕ) → List Lexeme → Reading PureFunction
function_at place ls = do
  x ← declared_name_at (behind ls)
  inner ← sign_at LeftParenthesis x.1
  xs ← params_at inner
  outer ← sign_at RightParenthesis xs.1
  body ← block_at clike_readers place (length outer) outer
  Some (record { name = x.0; params = xs.0; body = body.0; at = place (length ls) }, body.1)
