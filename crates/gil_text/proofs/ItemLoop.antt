-- Reading the items of a text one after another, as a loop does.
use Rattle.std.proofs.Common.{◌≡◌, ℕ, zero, suc, ◌-◌, ◌+◌, ◌≤◌, ◌<◌, List, [], ◌∷◌, ◌++◌, length, Option, Some, None, refl, sym, ap, ◌∙◌, append_assoc, arith}
use Rattle.std.specs.Prelude.{option_map}
use Rattle.std.proofs.lemmas.List.{append-nil}
use Rattle.gil_lexer.specs.declared.forms.Token.{Token}
use Rattle.gil_lexemes.specs.declared.standing.Lexeme.{Lexeme}
use Rattle.gil_lexemes.specs.declared.stops.Stop.{Stop}
use Rattle.gil_lexemes.specs.declared.stops.Stop.TheVariants as stops
use Rattle.gil_lexemes.specs.Reading.{Fails}
use Rattle.gil_syntax.specs.declared.parts.Proc.{Proc}
use Rattle.gil_syntax.specs.Pure.{PureProc}
use Rattle.gil_syntax.specs.Valid.{ProgramItem}
use Rattle.gil_syntax.specs.View.{proc_view}
use Rattle.gil_grammar.specs.Texts.{PlacedItem, byte_before, as_proc, as_spec, as_pred}
use Rattle.gil_grammar.specs.Reading.Programs.{item_at}
use Rattle.gil_grammar.specs.Reading.Texts.{with_items, items_at}
use Rattle.gil_text.specs.declared.located.Located.{Located}
use Rattle.gil_text.specs.declared.located.TextItem.{TextItem}
use Rattle.gil_text.specs.declared.located.TextItem.TheVariants as items
use Rattle.gil_text.specs.Located.{PureLocated, with_added, located_view, text_item_view, located_of}
use Rattle.gil_text.proofs.LocatedLemmas.{with_one, lists_push, added_seen}

-- the lists with one item more
abbrev pub with_item : PureLocated PureProc → PlacedItem → PureLocated PureProc
with_item l i = with_one (λ i. as_proc i.item) (λ i. as_spec i.item) (λ i. as_pred i.item) (λ i. i.at) l i

-- the lists of the items with one more
located_push : (items : List PlacedItem) (i : PlacedItem) → located_of (items ++ i ∷ []) ≡ with_item (located_of items) i
located_push items i = lists_push (λ (j : PlacedItem). as_proc j.item) (λ (j : PlacedItem). as_spec j.item) (λ (j : PlacedItem). as_pred j.item) (λ (j : PlacedItem). j.at) items i

-- what was added is one item more
pub item_added : (l : Located Proc) (item : TextItem Proc) (at : ℕ)
    → located_view proc_view (with_added l item at) ≡ with_item (located_view proc_view l) (record { item = text_item_view item; at = at })
item_added l (items.Function q) at = added_seen proc_view l (items.Function q) at
item_added l (items.Spec s) at = added_seen proc_view l (items.Spec s) at
item_added l (items.Pred d) at = added_seen proc_view l (items.Pred d) at

-- some items were read, whose lists these are, and of the lexemes that are left at most n more are read
pub record ItemsSoFar (tokens : List Token) (n : ℕ) (ls : List Lexeme) (located : PureLocated PureProc) (total : Option (List PlacedItem)) : Type 0 where
  pub front : List PlacedItem
  pub lists : located ≡ located_of front
  pub so_far : with_items front (items_at tokens n ls) ≡ total

regroup : (front : List PlacedItem) (i : PlacedItem) (read : Option (List PlacedItem)) → with_items front (with_items (i ∷ []) read) ≡ with_items (front ++ i ∷ []) read
regroup front i (Some items) = ap Some (simp append_assoc)
regroup front i None = refl

pub items_go_on : (tokens : List Token) (n i : ℕ) (ls after : List Lexeme) (item : ProgramItem) (located : PureLocated PureProc) (total : Option (List PlacedItem)) → i < n → 0 < length ls
    → item_at ls ≡ Some (item, after) → ItemsSoFar tokens (n - i) ls located total
    → ItemsSoFar tokens (n - (i + 1)) after (with_item located (record { item = item; at = byte_before tokens (length ls) })) total
unfolding items_at
items_go_on tokens n i [] after item located total lt some read h = absurd (omega arith)
items_go_on tokens n i (l ∷ ls) after item located total lt some read h =
    let one : PlacedItem = record { item = item; at = byte_before tokens (length (l ∷ ls)) } in
    let k : n - i ≡ suc (n - (i + 1)) = omega arith in
    let step : with_items h.front (items_at tokens (n - i) (l ∷ ls)) ≡ with_items (h.front ++ one ∷ []) (items_at tokens (n - (i + 1)) after) =
    rw (k, read) (regroup h.front one (items_at tokens (n - (i + 1)) after)) in
    record {
      front = h.front ++ one ∷ [];
      lists = ap (λ (p : PureLocated PureProc). with_item p one) h.lists ∙ sym (located_push h.front one);
      so_far = sym step ∙ h.so_far;
    }

pub items_stop : (stop : Stop) (tokens : List Token) (n i : ℕ) (ls : List Lexeme) (located : PureLocated PureProc) (total : Option (List PlacedItem)) → i < n → 0 < length ls
    → Fails stop (item_at ls) → ItemsSoFar tokens (n - i) ls located total → Fails stop (option_map located_of total)
unfolding items_at
items_stop stops.Memory tokens n i ls located total lt some fails h = tt
items_stop (stops.Syntax left) tokens n i [] located total lt some fails h = absurd (omega arith)
items_stop (stops.Syntax left) tokens n i (l ∷ ls) located total lt some fails h =
    let k : n - i ≡ suc (n - (i + 1)) = omega arith in
    let none : with_items h.front (items_at tokens (n - i) (l ∷ ls)) ≡ None = rw (k, fails) refl in
    ap (option_map located_of) (sym h.so_far ∙ none)

pub items_end : (tokens : List Token) (n : ℕ) (ls : List Lexeme) (located : PureLocated PureProc) (total : Option (List PlacedItem)) → length ls ≡ 0
    → ItemsSoFar tokens n ls located total → option_map located_of total ≡ Some located
unfolding items_at
items_end tokens zero [] located total end h =
    let whole : with_items h.front (items_at tokens 0 []) ≡ Some h.front = ap Some (append-nil h.front) in
    ap (option_map located_of) (sym h.so_far ∙ whole) ∙ ap Some (sym h.lists)
items_end tokens (suc n) [] located total end h =
    let whole : with_items h.front (items_at tokens (suc n) []) ≡ Some h.front = ap Some (append-nil h.front) in
    ap (option_map located_of) (sym h.so_far ∙ whole) ∙ ap Some (sym h.lists)
items_end tokens n (l ∷ ls) located total end h = absurd (omega arith)

pub items_are_left : (tokens : List Token) (n i : ℕ) (ls : List Lexeme) (located : PureLocated PureProc) (total : Option (List PlacedItem)) → n ≤ i → 0 < length ls
    → ItemsSoFar tokens (n - i) ls located total → option_map located_of total ≡ None
unfolding items_at
items_are_left tokens n i [] located total past some h = absurd (omega arith)
items_are_left tokens n i (l ∷ ls) located total past some h =
    let k : n - i ≡ 0 = omega arith in
    let none : with_items h.front (items_at tokens (n - i) (l ∷ ls)) ≡ None = rw k refl in
    ap (option_map located_of) (sym h.so_far ∙ none)
