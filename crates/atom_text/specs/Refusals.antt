-- Why a text of atoms is refused.
use Rattle.std.specs.Prelude.{◌≡◌, ℕ, ◌<◌, List, slice_get, Some}
use Rattle.gil_lexer.specs.declared.forms.Token.{Token}
use Rattle.gil_lexemes.specs.declared.standing.Lexeme.{Lexeme}
use Rattle.gil_syntax.specs.declared.validity.InvalidKind.{InvalidKind}
use Rattle.gil_syntax.specs.declared.validity.InvalidKind.TheVariants as faults
use Rattle.gil_grammar.specs.Nesting.{IsNested}
use Rattle.gil_text.specs.Refusals.{AreLexemesOf, HasNoTokenAt, IsTokenPlace, IsTooDeepAt}
use Rattle.gil_text.specs.declared.refused.Refused.{Refused}
use Rattle.gil_text.specs.declared.refused.RefusedKind.{RefusedKind}
use Rattle.gil_text.specs.declared.refused.RefusedKind.TheVariants.{Lex, Nesting, Syntax, Invalid, Limit, Entry, Modes, Memory}
use Rattle.atom_text.specs.declared.naming.Unfit.{Unfit}
use Rattle.atom_text.specs.declared.naming.Unfit.TheVariants as unfit
use Rattle.atom_text.specs.declared.sources.Declaration.{Declaration}
use Rattle.atom_text.specs.Accepted.{most_variables}
use Rattle.atom_text.specs.Grammar.{SpellsSource, Spell}
use Rattle.atom_text.specs.Meaning.{NamesAnother}
use Rattle.atom_text.specs.Naming.{IsDistinct, StandsBefore}
use Rattle.atom_text.specs.Sources.{PureStated, PureSource, names_of}

-- the expression at this place names a variable that isn't declared
pub record IsUnknownAt (source : PureSource) (i : ℕ) (s : PureStated) : Type 0 where
  pub there : slice_get source.stated i ≡ Some s
  pub other : NamesAnother (names_of source.declarations) s.expression

-- no name is declared twice, and no expression names another
pub record IsNamedWell (source : PureSource) : Type 0 where
  pub distinct : IsDistinct (names_of source.declarations)
  pub known : (i : ℕ) (s : PureStated) → IsUnknownAt source i s → ⊥

-- the declaration of a name that stands before it too, the first such
pub record IsDuplicate (ds : List Declaration) (at : ℕ) : Type 0 where
  pub place : ℕ
  pub declaration : Declaration
  pub there : slice_get ds place ≡ Some declaration
  pub byte : declaration.at ≡ at
  pub before : StandsBefore (names_of ds) place
  pub first : (i : ℕ) → i < place → StandsBefore (names_of ds) i → ⊥

-- the first expression that names what isn't declared, where each name is declared once
pub record IsUnknownName (source : PureSource) (at : ℕ) : Type 0 where
  pub distinct : IsDistinct (names_of source.declarations)
  pub place : ℕ
  pub stated : PureStated
  pub unknown : IsUnknownAt source place stated
  pub byte : stated.at ≡ at
  pub first : (i : ℕ) (s : PureStated) → i < place → IsUnknownAt source i s → ⊥

-- the first declaration past those that there may be, where each name is declared once and each that is named is declared
pub record IsTooMany (source : PureSource) (at : ℕ) : Type 0 where
  pub well : IsNamedWell source
  pub declaration : Declaration
  pub there : slice_get source.declarations most_variables ≡ Some declaration
  pub byte : declaration.at ≡ at

abbrev pub IsAtFault : PureSource → ℕ → InvalidKind → Type 0
IsAtFault source at faults.Duplicate = IsDuplicate source.declarations at
IsAtFault source at faults.UnknownName = IsUnknownName source at
IsAtFault source at faults.TooMany = IsTooMany source at
IsAtFault source at _ = ⊥

-- why declarations and expressions make no list of atoms; want of memory says nothing
abbrev pub IsUnfit : PureSource → Unfit → Type 0
IsUnfit source (unfit.Duplicate at) = IsAtFault source at faults.Duplicate
IsUnfit source (unfit.UnknownName at) = IsAtFault source at faults.UnknownName
IsUnfit source (unfit.TooMany at) = IsAtFault source at faults.TooMany
IsUnfit source unfit.Memory = Unit {0}

-- A text is refused with the first of these kinds that applies: at that byte stands no token; the token there is the first
-- behind which more brackets are open than may be; the tokens are those of no declarations and expressions, and a token begins
-- at that byte, or the text ends there; a name is declared twice; an expression names what isn't declared; too many variables
-- are declared. The other kinds are none of a text of atoms. Want of memory may come before any.
abbrev pub IsRefusedFor : List ℕ → ℕ → RefusedKind → Type 0
IsRefusedFor bytes at Lex = HasNoTokenAt bytes at
IsRefusedFor bytes at Nesting =
    (tokens : List Token) × (lexemes : List Lexeme) × AreLexemesOf tokens lexemes bytes × IsTooDeepAt IsNested bytes tokens lexemes at
IsRefusedFor bytes at Syntax =
    (tokens : List Token) × (lexemes : List Lexeme) × AreLexemesOf tokens lexemes bytes × IsNested lexemes
    × ((source : PureSource) → SpellsSource tokens source lexemes → ⊥) × IsTokenPlace bytes tokens at
IsRefusedFor bytes at (Invalid kind) = (source : PureSource) × Spell bytes source × IsAtFault source at kind
IsRefusedFor bytes at Limit = ⊥
IsRefusedFor bytes at Entry = ⊥
IsRefusedFor bytes at Modes = ⊥
IsRefusedFor bytes at Memory = Unit {0}

abbrev pub IsRefused : List ℕ → Refused → Type 0
IsRefused bytes refused = IsRefusedFor bytes refused.at refused.kind
