-- Reading the lexemes of declarations and expressions: what the reader's functions answer.
use Rattle.std.specs.Prelude.{ℕ, zero, suc, List, [], ◌∷◌, ◌++◌, length, Option, Some, None}
use Rattle.gil_lexer.specs.declared.forms.Token.{Token}
use Rattle.gil_lexer.specs.declared.words.Word.{Word}
use Rattle.gil_lexer.specs.declared.words.Word.TheVariants as words
use Rattle.gil_lexer.specs.declared.signs.Sign.TheVariants.{Colon, Comma, Semicolon}
use Rattle.gil_lexemes.specs.declared.standing.Lexeme.{Lexeme}
use Rattle.gil_lexemes.specs.Lists.{with_front, more_at}
use Rattle.gil_lexemes.specs.Reading.{Reading, ◌>>=◌, first_form, behind, sign_at, word_at, name_at}
use Rattle.gil_grammar.specs.Reading.Assertions.{expression_at}
use Rattle.gil_grammar.specs.Reading.Vocabulary.{word_of}
use Rattle.gil_grammar.specs.Texts.{byte_before}
use Rattle.gil_grammar.specs.declared.positions.Position.TheVariants.{Command}
use Rattle.pure_terms.specs.declared.variables.Sort.{Sort}
use Rattle.pure_terms.specs.declared.variables.Sort.TheVariants as sorts
use Rattle.atom_text.specs.declared.sources.Declaration.{Declaration}
use Rattle.atom_text.specs.Sources.{PureStated, PureSource}

abbrev pub sort_of_word : Word → Option Sort
sort_of_word words.Int = Some sorts.Int
sort_of_word words.Bool = Some sorts.Bool
sort_of_word words.Str = Some sorts.Str
sort_of_word words.Sym = Some sorts.Sym
sort_of_word words.Any = Some sorts.Any
sort_of_word _ = None

-- name : sort
unfoldable pub declaration_at : List Token → List Lexeme → Reading Declaration
declaration_at tokens ls = do
  x ← name_at ls
  sorted ← sign_at Colon x.1
  word ← word_of (first_form sorted)
  sort ← sort_of_word word
  Some (record { name = x.0; sort = sort; at = byte_before tokens (length ls) }, behind sorted)

-- at least one, with commas between them
unfoldable pub declarations_at : List Token → List Lexeme → Reading (List Declaration)
declarations_at tokens ls =
    declaration_at tokens ls >>= λ d. with_front (d.0 ∷ []) (more_at (declaration_at tokens) (length d.1) Comma d.1)

-- expression ;
unfoldable pub stated_at : List Token → List Lexeme → Reading PureStated
stated_at tokens ls = do
  e ← expression_at Command ls
  rest ← sign_at Semicolon e.1
  Some (record { expression = e.0; at = byte_before tokens (length ls) }, rest)

-- what was read before, and what is still read
abbrev pub with_read : {X : Type 0} → List X → Option (List X) → Option (List X)
with_read front read = read >>= λ xs. Some (front ++ xs)

-- the things of which the lexemes consist, at most n
module _ {X : Type 0} (read : List Lexeme → Reading X) where
  unfoldable pub all_at : ℕ → List Lexeme → Option (List X)
  all_at n [] = Some []
  all_at zero (l ∷ ls) = None
  all_at (suc n) (l ∷ ls) = read (l ∷ ls) >>= λ x. with_read (x.0 ∷ []) (all_at n x.1)

-- the whole text
unfoldable pub source_at : List Token → List Lexeme → Option PureSource
source_at tokens ls = do
  inner ← word_at words.Vars ls
  ds ← declarations_at tokens inner
  after ← sign_at Semicolon ds.1
  stated ← all_at (stated_at tokens) (length after) after
  Some (record { declarations = ds.0; stated = stated })
