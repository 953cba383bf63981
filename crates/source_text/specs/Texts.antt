-- The texts of source programs: their items one after another, a function first. Functions are of any type. What spells one is said in
-- each language, where place says where the last so many lexemes of a text begin, and so is how deep the lexemes of a text may nest.
use Rattle.std.specs.Prelude.{◌≡◌, ℕ, List, [], ◌∷◌, length, Option, Some, None, IsTrue}
use Rattle.std.specs.List.{filter_map}
use Rattle.gil_lexer.specs.declared.forms.Token.{Token}
use Rattle.gil_lexer.specs.Texts.{AreTokensOf}
use Rattle.gil_lexemes.specs.declared.standing.Lexeme.{Lexeme}
use Rattle.gil_lexemes.specs.Lexemes.{StandForAll}
use Rattle.gil_syntax.specs.Pure.{PureSpec, PurePredDef}
use Rattle.gil_grammar.specs.Programs.{SpellsSpec, SpellsPred}
use Rattle.gil_grammar.specs.Texts.{byte_before}
use Rattle.source_language.specs.Pure.{PureSource}
use Rattle.source_text.specs.Vocabulary.{are_source_lexemes}

-- an item of a text
pub data SourceItem (F : Type 0) : Type 0 where
  a_function : F → SourceItem F
  a_spec : PureSpec → SourceItem F
  a_pred : PurePredDef → SourceItem F

-- an item, and the byte at which it begins
pub record PlacedItem (F : Type 0) : Type 0 where
  pub item : SourceItem F
  pub at : ℕ

abbrev pub BeginsWithFunction : {F : Type 0} → List (PlacedItem F) → Type 0
BeginsWithFunction [] = ⊥
BeginsWithFunction {F} (i ∷ items) = (f : F) × (i.item ≡ a_function f)

module _ {F : Type 0} (spells : (ℕ → ℕ) → F → List Lexeme → List Lexeme → Type 0) where
  abbrev pub SpellsSourceItem : (ℕ → ℕ) → SourceItem F → List Lexeme → List Lexeme → Type 0
  SpellsSourceItem place (a_function f) from rest = spells place f from rest
  SpellsSourceItem place (a_spec s) from rest = SpellsSpec s from rest
  SpellsSourceItem place (a_pred d) from rest = SpellsPred d from rest

  -- the lexemes are those of the items, one after another, each of which begins at its byte
  abbrev pub SpellsItems : (ℕ → ℕ) → List (PlacedItem F) → List Lexeme → Type 0
  SpellsItems place [] from = from ≡ []
  SpellsItems place (i ∷ items) from =
      (after : List Lexeme) × SpellsSourceItem place i.item from after × (i.at ≡ place (length from)) × SpellsItems place items after

-- The bytes are tokens and blanks, the lexemes that the tokens stand for nest no deeper than they may, no name has a '$', and the lexemes
-- are those of the items, of which a function is the first.
pub record SpellItems {F : Type 0} (is_nested : List Lexeme → Type 0) (spells : (ℕ → ℕ) → F → List Lexeme → List Lexeme → Type 0)
    (bytes : List ℕ) (items : List (PlacedItem F)) : Type 0 where
  pub tokens : List Token
  pub lexemes : List Lexeme
  pub text : AreTokensOf tokens bytes
  pub stand : StandForAll bytes tokens lexemes
  pub nested : is_nested lexemes
  pub names : IsTrue (are_source_lexemes lexemes)
  pub spelled : SpellsItems spells (byte_before tokens) items lexemes
  pub first : BeginsWithFunction items

-- ---- the source of the items

abbrev pub as_function : {F : Type 0} → SourceItem F → Option F
as_function (a_function f) = Some f
as_function _ = None

abbrev pub as_spec : {F : Type 0} → SourceItem F → Option PureSpec
as_spec (a_spec s) = Some s
as_spec _ = None

abbrev pub as_pred : {F : Type 0} → SourceItem F → Option PurePredDef
as_pred (a_pred d) = Some d
as_pred _ = None

-- its functions, its specifications and its predicates, each in the order of the text
abbrev pub source_of : {F : Type 0} → List (PlacedItem F) → PureSource F
source_of items = record {
  functions = filter_map (λ i. as_function i.item) items;
  specs = filter_map (λ i. as_spec i.item) items;
  preds = filter_map (λ i. as_pred i.item) items;
}

-- The bytes are a text of the source.
abbrev pub SpellSource : {F : Type 0} → (List Lexeme → Type 0) → ((ℕ → ℕ) → F → List Lexeme → List Lexeme → Type 0) → List ℕ → PureSource F → Type 0
SpellSource {F} is_nested spells bytes source = (items : List (PlacedItem F)) × SpellItems is_nested spells bytes items × (source_of items ≡ source)
