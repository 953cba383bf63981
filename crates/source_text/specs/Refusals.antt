-- Why a source text is refused.
use Rattle.std.specs.Prelude.{◌≡◌, ℕ, List, ◌++◌, slice_get, Some, IsTrue}
use Rattle.std.specs.List.{filter_map}
use Rattle.gil_lexer.specs.declared.forms.Token.{Token}
use Rattle.gil_lexemes.specs.declared.standing.Lexeme.{Lexeme}
use Rattle.gil_lexemes.specs.declared.stops.Stop.{Stop}
use Rattle.gil_lexemes.specs.declared.stops.Stop.TheVariants as stops
use Rattle.gil_syntax.specs.Pure.{PureParts}
use Rattle.gil_syntax.specs.Uncounted.{IsNamedButLength}
use Rattle.gil_grammar.specs.Texts.{byte_before, place_if}
use Rattle.gil_text.specs.declared.refused.Refused.{Refused}
use Rattle.gil_text.specs.declared.refused.RefusedKind.{RefusedKind}
use Rattle.gil_text.specs.declared.refused.RefusedKind.TheVariants.{Lex, Nesting, Syntax, Invalid, Memory}
use Rattle.gil_text.specs.Refusals.{AreLexemesOf, HasNoTokenAt, IsTokenPlace, IsTooDeepAt}
use Rattle.source_language.specs.Pure.{PureSource}
use Rattle.source_text.specs.Texts.{PlacedItem, SpellsItems, BeginsWithFunction, SpellItems, as_function, as_spec, as_pred, source_of}
use Rattle.source_text.specs.Vocabulary.{are_source_lexemes}

-- the kind of a refusal where a reader of lexemes stops
abbrev pub kind_of : Stop → RefusedKind
kind_of (stops.Syntax left) = Syntax
kind_of stops.Memory = Memory

-- The bytes at which the items of a source's program begin: those of the functions, then of the procedures that every program of the
-- language has besides, then of the specifications, then of the predicates.
abbrev pub places_of : {F : Type 0} → List ℕ → List (PlacedItem F) → List ℕ
places_of besides items =
    filter_map (λ i. place_if i.at (as_function i.item)) items
    ++ (besides ++ filter_map (λ i. place_if i.at (as_spec i.item)) items)
    ++ filter_map (λ i. place_if i.at (as_pred i.item)) items

module _ {F : Type 0} (is_nested : List Lexeme → Type 0) (spells : (ℕ → ℕ) → F → List Lexeme → List Lexeme → Type 0) where
  -- A text spells no tree for the first of these kinds that applies: at that byte stands no token; the token there is the first behind
  -- which they nest deeper than they may; some name has a '$', or the tokens are those of no items of which a function is the first, and
  -- a token begins at that byte, or the text ends there. Want of memory may come before any.
  abbrev pub SpellsNoTree : List ℕ → ℕ → RefusedKind → Type 0
  SpellsNoTree bytes at Lex = HasNoTokenAt bytes at
  SpellsNoTree bytes at Nesting =
      (tokens : List Token) × (lexemes : List Lexeme) × AreLexemesOf tokens lexemes bytes × IsTooDeepAt is_nested bytes tokens lexemes at
  SpellsNoTree bytes at Syntax =
      (tokens : List Token) × (lexemes : List Lexeme) × AreLexemesOf tokens lexemes bytes × is_nested lexemes
      × ((items : List (PlacedItem F)) → SpellsItems spells (byte_before tokens) items lexemes → BeginsWithFunction items
      → IsTrue (are_source_lexemes lexemes) → ⊥) × IsTokenPlace bytes tokens at
  SpellsNoTree bytes at Memory = Unit {0}
  SpellsNoTree bytes at _ = ⊥

  abbrev pub IsRefusedTree : List ℕ → Refused → Type 0
  IsRefusedTree bytes refused = SpellsNoTree bytes refused.at refused.kind

  -- A text is refused with the first of these kinds that applies: it spells no tree; or its trees' program has a fault, the number of
  -- commands aside, and the fault that is named is at the item that begins at that byte.
  abbrev pub IsRefusedFor : (PureSource F → PureParts) → List ℕ → List ℕ → ℕ → RefusedKind → Type 0
  IsRefusedFor compiled besides bytes at (Invalid kind) =
      (items : List (PlacedItem F)) × (i : ℕ) × SpellItems is_nested spells bytes items × IsNamedButLength (compiled (source_of items)) kind i
      × (slice_get (places_of besides items) i ≡ Some at)
  IsRefusedFor compiled besides bytes at kind = SpellsNoTree bytes at kind

  abbrev pub IsRefused : (PureSource F → PureParts) → List ℕ → List ℕ → Refused → Type 0
  IsRefused compiled besides bytes refused = IsRefusedFor compiled besides bytes refused.at refused.kind
