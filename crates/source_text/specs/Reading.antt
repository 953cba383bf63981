-- Reading whole texts, as functions: what the functions of a reader answer. What lexemes spell is said apart from it, and the two are
-- proved to agree.
use Rattle.std.specs.Prelude.{ℕ, zero, suc, List, [], ◌∷◌, ◌++◌, length, Option, Some, None, if◌then◌else◌}
use Rattle.gil_lexer.specs.declared.words.Word.{Word}
use Rattle.gil_lexer.specs.declared.words.Word.TheVariants as words
use Rattle.gil_lexemes.specs.declared.standing.Lexeme.{Lexeme}
use Rattle.gil_lexemes.specs.Reading.{Reading, ◌>>=◌, first_form, behind, is_word}
use Rattle.gil_grammar.specs.declared.positions.Extent.TheVariants.{Whole}
use Rattle.gil_grammar.specs.Reading.Programs.{spec_at, pred_at}
use Rattle.gil_grammar.specs.Reading.Vocabulary.{word_of}
use Rattle.source_text.specs.Texts.{SourceItem, a_function, a_spec, a_pred, PlacedItem}

-- the items that were read before, and those that are still read
abbrev pub with_items : {F : Type 0} → List (PlacedItem F) → Option (List (PlacedItem F)) → Option (List (PlacedItem F))
with_items front read = read >>= λ items. Some (front ++ items)

module _ {F : Type 0} where
  abbrev pub a_spec_at : List Lexeme → Reading (SourceItem F)
  a_spec_at ls = spec_at Whole (behind ls) >>= λ s. Some (a_spec s.0, s.1)

  abbrev pub a_pred_at : List Lexeme → Reading (SourceItem F)
  a_pred_at ls = pred_at Whole (behind ls) >>= λ d. Some (a_pred d.0, d.1)

  -- a specification or a predicate, by its word
  abbrev pub logical_by : Word → List Lexeme → Reading (SourceItem F)
  logical_by words.Spec ls = a_spec_at ls
  logical_by words.Pred ls = a_pred_at ls
  logical_by _ ls = None

  unfoldable pub logical_item_at : List Lexeme → Reading (SourceItem F)
  logical_item_at ls = word_of (first_form ls) >>= λ word. logical_by word ls

-- functions begin with a word, and are read from it on by function_at
module _ {F : Type 0} (first : Word) (function_at : (ℕ → ℕ) → List Lexeme → Reading F) (place : ℕ → ℕ) where
  abbrev pub a_function_at : List Lexeme → Reading (SourceItem F)
  a_function_at ls = function_at place ls >>= λ f. Some (a_function f.0, f.1)

  unfoldable pub item_at : List Lexeme → Reading (SourceItem F)
  item_at ls = if is_word first (first_form ls) then a_function_at ls else logical_item_at ls

  -- the items of which the lexemes consist, at most n
  unfoldable pub items_at : ℕ → List Lexeme → Option (List (PlacedItem F))
  items_at n [] = Some []
  items_at zero (l ∷ ls) = None
  items_at (suc n) (l ∷ ls) =
      item_at (l ∷ ls) >>= λ x. with_items (record { item = x.0; at = place (length (l ∷ ls)) } ∷ []) (items_at n x.1)

  -- the items of a text, of which a function is the first
  unfoldable pub source_at : List Lexeme → Option (List (PlacedItem F))
  source_at ls = if is_word first (first_form ls) then items_at (length ls) ls else None
