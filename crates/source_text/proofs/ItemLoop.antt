-- Reading the items of a text one after another, as a loop does.
use Rattle.std.proofs.Common.{◌≡◌, ℕ, zero, suc, ◌-◌, ◌+◌, ◌≤◌, ◌<◌, List, [], ◌∷◌, ◌++◌, length, Option, Some, None, refl, sym, ap, ◌∙◌, append_assoc, arith}
use Rattle.std.specs.Prelude.{option_map}
use Rattle.std.proofs.lemmas.List.{append-nil}
use Rattle.gil_lexer.specs.declared.words.Word.{Word}
use Rattle.gil_lexemes.specs.declared.standing.Lexeme.{Lexeme}
use Rattle.gil_lexemes.specs.declared.stops.Stop.{Stop}
use Rattle.gil_lexemes.specs.declared.stops.Stop.TheVariants as stops
use Rattle.gil_lexemes.specs.Reading.{Reading, Fails}
use Rattle.gil_text.specs.declared.located.Located.{Located}
use Rattle.gil_text.specs.declared.located.TextItem.{TextItem}
use Rattle.gil_text.specs.declared.located.TextItem.TheVariants as items
use Rattle.gil_text.specs.Located.{PureLocated, with_added, located_view}
use Rattle.gil_text.proofs.LocatedLemmas.{with_one, lists_push, added_seen}
use Rattle.source_text.specs.Located.{source_item_view, located_of}
use Rattle.source_text.specs.Reading.{item_at, with_items, items_at}
use Rattle.source_text.specs.Texts.{SourceItem, PlacedItem, as_function, as_spec, as_pred}

-- the lists with one item more
abbrev pub with_item : {P : Type 0} → PureLocated P → PlacedItem P → PureLocated P
with_item l i = with_one (λ j. as_function j.item) (λ j. as_spec j.item) (λ j. as_pred j.item) (λ j. j.at) l i

-- what was added is one item more
pub item_added : {F P : Type 0} (view : F → P) (l : Located F) (item : TextItem F) (at : ℕ)
    → located_view view (with_added l item at) ≡ with_item (located_view view l) (record { item = source_item_view view item; at = at })
item_added view l (items.Function f) at = added_seen view l (items.Function f) at
item_added view l (items.Spec s) at = added_seen view l (items.Spec s) at
item_added view l (items.Pred d) at = added_seen view l (items.Pred d) at

-- the lists of the items with one more
located_push : {P : Type 0} (is : List (PlacedItem P)) (i : PlacedItem P) → located_of (is ++ i ∷ []) ≡ with_item (located_of is) i
located_push {P} is i = lists_push (λ (j : PlacedItem P). as_function j.item) (λ (j : PlacedItem P). as_spec j.item) (λ (j : PlacedItem P). as_pred j.item) (λ (j : PlacedItem P). j.at) is i

module _ {F : Type 0} (first : Word) (function_at : (ℕ → ℕ) → List Lexeme → Reading F) (place : ℕ → ℕ) where
  -- some items were read, whose lists these are, and of the lexemes that are left at most n more are read
  pub record ItemsSoFar (n : ℕ) (ls : List Lexeme) (located : PureLocated F) (total : Option (List (PlacedItem F))) : Type 0 where
    pub front : List (PlacedItem F)
    pub lists : located ≡ located_of front
    pub so_far : with_items front (items_at first function_at place n ls) ≡ total

  regroup : (front : List (PlacedItem F)) (i : PlacedItem F) (read : Option (List (PlacedItem F)))
      → with_items front (with_items (i ∷ []) read) ≡ with_items (front ++ i ∷ []) read
  regroup front i (Some items) = ap Some (simp append_assoc)
  regroup front i None = refl

  pub items_go_on : (n i : ℕ) (ls after : List Lexeme) (item : SourceItem F) (located : PureLocated F) (total : Option (List (PlacedItem F))) → i < n → 0 < length ls
      → item_at first function_at place ls ≡ Some (item, after) → ItemsSoFar (n - i) ls located total
      → ItemsSoFar (n - (i + 1)) after (with_item located (record { item = item; at = place (length ls) })) total
  unfolding items_at
  items_go_on n i [] after item located total lt some read h = absurd (omega arith)
  items_go_on n i (l ∷ ls) after item located total lt some read h =
      let one : PlacedItem F = record { item = item; at = place (length (l ∷ ls)) } in
      let k : n - i ≡ suc (n - (i + 1)) = omega arith in
      let step : with_items h.front (items_at first function_at place (n - i) (l ∷ ls)) ≡ with_items (h.front ++ one ∷ []) (items_at first function_at place (n - (i + 1)) after) =
      rw (k, read) (regroup h.front one (items_at first function_at place (n - (i + 1)) after)) in
      record {
        front = h.front ++ one ∷ [];
        lists = ap (λ (p : PureLocated F). with_item p one) h.lists ∙ sym (located_push h.front one);
        so_far = sym step ∙ h.so_far;
      }

  pub items_stop : (stop : Stop) (n i : ℕ) (ls : List Lexeme) (located : PureLocated F) (total : Option (List (PlacedItem F))) → i < n → 0 < length ls
      → Fails stop (item_at first function_at place ls) → ItemsSoFar (n - i) ls located total → Fails stop (option_map located_of total)
  unfolding items_at
  items_stop stops.Memory n i ls located total lt some fails h = tt
  items_stop (stops.Syntax left) n i [] located total lt some fails h = absurd (omega arith)
  items_stop (stops.Syntax left) n i (l ∷ ls) located total lt some fails h =
      let k : n - i ≡ suc (n - (i + 1)) = omega arith in
      let none : with_items h.front (items_at first function_at place (n - i) (l ∷ ls)) ≡ None = rw (k, fails) refl in
      ap (option_map located_of) (sym h.so_far ∙ none)

  pub items_end : (n : ℕ) (ls : List Lexeme) (located : PureLocated F) (total : Option (List (PlacedItem F))) → length ls ≡ 0
      → ItemsSoFar n ls located total → option_map located_of total ≡ Some located
  unfolding items_at
  items_end zero [] located total end h =
      let whole : with_items h.front (items_at first function_at place 0 []) ≡ Some h.front = ap Some (append-nil h.front) in
      ap (option_map located_of) (sym h.so_far ∙ whole) ∙ ap Some (sym h.lists)
  items_end (suc n) [] located total end h =
      let whole : with_items h.front (items_at first function_at place (suc n) []) ≡ Some h.front = ap Some (append-nil h.front) in
      ap (option_map located_of) (sym h.so_far ∙ whole) ∙ ap Some (sym h.lists)
  items_end n (l ∷ ls) located total end h = absurd (omega arith)

  pub items_are_left : (n i : ℕ) (ls : List Lexeme) (located : PureLocated F) (total : Option (List (PlacedItem F))) → n ≤ i → 0 < length ls
      → ItemsSoFar (n - i) ls located total → option_map located_of total ≡ None
  unfolding items_at
  items_are_left n i [] located total past some h = absurd (omega arith)
  items_are_left n i (l ∷ ls) located total past some h =
      let k : n - i ≡ 0 = omega arith in
      let none : with_items h.front (items_at first function_at place (n - i) (l ∷ ls)) ≡ None = rw k refl in
      ap (option_map located_of) (sym h.so_far ∙ none)
