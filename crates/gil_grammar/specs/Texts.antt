-- The texts of programs: their items one after another, a procedure first.
use Rattle.std.specs.Prelude.{◌≡◌, ℕ, ◌-◌, List, [], ◌∷◌, ◌++◌, length, slice_get, Option, Some, None}
use Rattle.std.specs.List.{filter_map}
use Rattle.gil_lexer.specs.declared.forms.Token.{Token}
use Rattle.gil_lexer.specs.Texts.{AreTokensOf}
use Rattle.gil_lexemes.specs.declared.standing.Lexeme.{Lexeme}
use Rattle.gil_lexemes.specs.Lexemes.{StandForAll}
use Rattle.gil_syntax.specs.Pure.{PureProc, PureSpec, PurePredDef, PureParts}
use Rattle.gil_syntax.specs.Valid.{ProgramItem, a_proc, a_spec, a_pred}
use Rattle.gil_grammar.specs.Nesting.{IsNested}
use Rattle.gil_grammar.specs.Programs.{SpellsProgramItem}

-- an item of a text, and the byte at which it begins
pub record PlacedItem : Type 0 where
  pub item : ProgramItem
  pub at : ℕ

abbrev pub first_byte : Option Token → ℕ
first_byte (Some token) = token.from
first_byte None = 0

-- the byte at which the last `left` tokens begin
abbrev pub byte_before : List Token → ℕ → ℕ
byte_before tokens left = first_byte (slice_get tokens (length tokens - left))

-- the lexemes are those of the items, one after another, each of which begins at its byte
abbrev pub SpellsItems : List Token → List PlacedItem → List Lexeme → Type 0
SpellsItems tokens [] from = from ≡ []
SpellsItems tokens (i ∷ items) from =
    (after : List Lexeme) × SpellsProgramItem i.item from after × (i.at ≡ byte_before tokens (length from)) × SpellsItems tokens items after

abbrev pub BeginsWithProc : List PlacedItem → Type 0
BeginsWithProc [] = ⊥
BeginsWithProc (i ∷ items) = (q : PureProc) × (i.item ≡ a_proc q)

-- The bytes are tokens and blanks, no more brackets are open than may be, and the lexemes that the tokens stand for are
-- those of the items, of which a procedure is the first.
pub record Spell (bytes : List ℕ) (items : List PlacedItem) : Type 0 where
  pub tokens : List Token
  pub lexemes : List Lexeme
  pub text : AreTokensOf tokens bytes
  pub stand : StandForAll bytes tokens lexemes
  pub nested : IsNested lexemes
  pub spelled : SpellsItems tokens items lexemes
  pub first : BeginsWithProc items

-- ---- the program of the items

abbrev pub as_proc : ProgramItem → Option PureProc
as_proc (a_proc q) = Some q
as_proc _ = None

abbrev pub as_spec : ProgramItem → Option PureSpec
as_spec (a_spec s) = Some s
as_spec _ = None

abbrev pub as_pred : ProgramItem → Option PurePredDef
as_pred (a_pred d) = Some d
as_pred _ = None

-- its procedures, its specifications and its predicates, each in the order of the text
abbrev pub parts_of : List PlacedItem → PureParts
parts_of items = record {
  procs = filter_map (λ i. as_proc i.item) items;
  specs = filter_map (λ i. as_spec i.item) items;
  preds = filter_map (λ i. as_pred i.item) items;
}

abbrev pub place_if : {X : Type 0} → ℕ → Option X → Option ℕ
place_if at (Some x) = Some at
place_if at None = None

-- the bytes at which the items begin: those of the procedures, then of the specifications, then of the predicates
abbrev pub places_of : List PlacedItem → List ℕ
places_of items =
    filter_map (λ i. place_if i.at (as_proc i.item)) items
    ++ filter_map (λ i. place_if i.at (as_spec i.item)) items
    ++ filter_map (λ i. place_if i.at (as_pred i.item)) items

-- The bytes are a text of the program.
abbrev pub SpellProgram : List ℕ → PureParts → Type 0
SpellProgram bytes program = (items : List PlacedItem) × Spell bytes items × (parts_of items ≡ program)
