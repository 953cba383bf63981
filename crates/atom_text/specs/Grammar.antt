-- Which lexemes spell which declarations and expressions: `vars name : sort, ..;`, at least one, and then any number of
-- expressions, each with its `;`.
use Rattle.std.specs.Prelude.{◌≡◌, ℕ, List, [], ◌∷◌, length, Option, Some, None}
use Rattle.gil_lexer.specs.Texts.{AreTokensOf}
use Rattle.gil_lexer.specs.declared.forms.Token.{Token}
use Rattle.gil_lexer.specs.declared.words.Word.{Word}
use Rattle.gil_lexer.specs.declared.words.Word.TheVariants as words
use Rattle.gil_lexemes.specs.Lexemes.{StandForAll}
use Rattle.gil_lexemes.specs.declared.standing.Lexeme.{Lexeme}
use Rattle.gil_lexemes.specs.declared.standing.Lexeme.TheVariants.{Name, Word as OfWord}
use Rattle.gil_grammar.specs.Expressions.{SpellsExpr}
use Rattle.gil_grammar.specs.Lists.{SpellsEach, SpellsSeparated}
use Rattle.gil_grammar.specs.Nesting.{IsNested}
use Rattle.gil_grammar.specs.Texts.{byte_before}
use Rattle.gil_grammar.specs.Vocabulary.{colon, comma, semicolon}
use Rattle.gil_grammar.specs.declared.positions.Position.TheVariants.{Command}
use Rattle.pure_terms.specs.declared.variables.Sort.{Sort}
use Rattle.pure_terms.specs.declared.variables.Sort.TheVariants as sorts
use Rattle.atom_text.specs.declared.sources.Declaration.{Declaration}
use Rattle.atom_text.specs.Sources.{PureStated, PureSource}

-- the words of the sorts that may be declared
abbrev pub sort_word : Sort → Option Word
sort_word sorts.Int = Some words.Int
sort_word sorts.Bool = Some words.Bool
sort_word sorts.Str = Some words.Str
sort_word sorts.Sym = Some words.Sym
sort_word sorts.Any = Some words.Any
sort_word _ = None

module _ (tokens : List Token) where
  -- name : sort
  abbrev pub SpellsDeclaration : Declaration → List Lexeme → List Lexeme → Type 0
  SpellsDeclaration d from rest =
      (word : Word) × (sort_word d.sort ≡ Some word) × (from ≡ Name d.name ∷ colon ∷ OfWord word ∷ rest)
      × (d.at ≡ byte_before tokens (length from))

  -- at least one, with commas between them
  abbrev pub SpellsDeclarations : List Declaration → List Lexeme → List Lexeme → Type 0
  SpellsDeclarations [] from rest = ⊥
  SpellsDeclarations (d ∷ ds) from rest = SpellsSeparated SpellsDeclaration comma (d ∷ ds) from rest

  -- expression ;
  abbrev pub SpellsStated : PureStated → List Lexeme → List Lexeme → Type 0
  SpellsStated s from rest = SpellsExpr Command s.expression from (semicolon ∷ rest) × (s.at ≡ byte_before tokens (length from))

  -- the whole text
  abbrev pub SpellsSource : PureSource → List Lexeme → Type 0
  SpellsSource s from =
      (inner after : List Lexeme) × (from ≡ OfWord words.Vars ∷ inner) × SpellsDeclarations s.declarations inner (semicolon ∷ after)
      × SpellsEach SpellsStated s.stated after []

-- The bytes are tokens and blanks, no more brackets are open than may be, and the lexemes that the tokens stand for are
-- those of the declarations and the expressions.
pub record Spell (bytes : List ℕ) (source : PureSource) : Type 0 where
  pub tokens : List Token
  pub lexemes : List Lexeme
  pub text : AreTokensOf tokens bytes
  pub stand : StandForAll bytes tokens lexemes
  pub nested : IsNested lexemes
  pub spelled : SpellsSource tokens source lexemes
