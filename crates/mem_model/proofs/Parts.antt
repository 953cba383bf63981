-- A part of a heap is a heap, and so is the empty heap.
use Rattle.std.proofs.Common.{◌≡◌, ℕ, List, Some, None, true, false, is_some, refl, sym, ap, subst, ◌∙◌, true≢false}
use Rattle.std.specs.FinMap.{empty, get-empty}
use Rattle.gil_values.specs.Pure.{PureValue}
use Rattle.gil_values.specs.Symbols.{OccursAmong}
use Rattle.mem_model.specs.declared.keys.Key.{Key}
use Rattle.mem_model.specs.Heaps.{Heap, Holds, HasKey, IsPartOf, IsWellFormed, IsHeapBelow}
use Rattle.mem_model.specs.Keys.{key_cmp}
use Rattle.mem_model.specs.Actions.{Actions, MayAct, PartsAreHeaps}
use Rattle.mem_model.specs.Laws.{EmptyIsHeap}
use Rattle.mem_model.proofs.Joins.{value_at, has_key}

pub part_has : (g h : Heap) → IsPartOf g h → (k : Key) → HasKey g k → HasKey h k
part_has g h part k has = let at = value_at g k has in has_key h k at.0 (part k at.0 at.1)

pub part_well_formed : (g h : Heap) → IsPartOf g h → IsWellFormed h → IsWellFormed g
part_well_formed g h part w = record {
  gone_alone = λ l s gone has. w.gone_alone l s (part_has g h part _ gone) (part_has g h part _ has);
  gone_is_true = λ l v is. w.gone_is_true l v (part _ v is);
  name_lists = λ l s d names is. w.name_lists l s d names (part _ d is);
  names_listed = λ l s d names is p has. w.names_listed l s d names (part _ d is) p (part_has g h part _ has);
  bound_is_number = λ l v is. w.bound_is_number l v (part _ v is);
  cells_in_bound = λ l n i is has. w.cells_in_bound l n i (part _ _ is) (part_has g h part _ has);
  one_descriptor = λ l s t a b has also. w.one_descriptor l s t a b (part_has g h part _ has) (part_has g h part _ also);
}

pub parts_are_heaps : PartsAreHeaps
parts_are_heaps memory g h part is = record {
  subkeys = λ k has. is.subkeys k (part_has g h part k has);
  well_formed = part_well_formed g h part is.well_formed;
}

pub no_key : (k : Key) → ¬ HasKey empty k
no_key k has = true≢false (sym has ∙ ap is_some (get-empty key_cmp k))

not_held : (k : Key) (v : PureValue) → ¬ Holds empty k v
not_held k v is = no_key k (has_key empty k v is)

pub empty_is_heap : EmptyIsHeap
empty_is_heap memory = record {
  subkeys = λ k has. absurd (no_key k has);
  well_formed = record {
    gone_alone = λ l s gone has. absurd (no_key _ gone);
    gone_is_true = λ l v is. absurd (not_held _ v is);
    name_lists = λ l s d names is. absurd (not_held _ d is);
    names_listed = λ l s d names is p has. absurd (not_held _ d is);
    bound_is_number = λ l v is. absurd (not_held _ v is);
    cells_in_bound = λ l n i is has. absurd (not_held _ _ is);
    one_descriptor = λ l s t a b has also. absurd (no_key _ has);
  };
}

-- no symbol occurs in the empty heap
pub empty_is_below : (counter : ℕ) → IsHeapBelow counter empty
empty_is_below counter k v is = absurd (not_held k v is)

-- an action that takes no symbol may always be asked
pub may_without_symbol : (m : Actions) (action : List ℕ) (args : List PureValue) (h : Heap) → m.takes_symbol action ≡ false → MayAct m action None args h
may_without_symbol m action args h e = record {
  symbol_where_taken = (λ is. absurd (true≢false (sym is)), λ is. absurd (true≢false (sym is ∙ e)));
  new_in_heap = λ n is. absurd (true≢false (sym (ap is_some is)));
  new_in_arguments = λ n is. absurd (true≢false (sym (ap is_some is)));
}

-- an action that takes a symbol may be asked on the empty heap, where no symbol occurs in the arguments
pub may_on_empty : (m : Actions) (action : List ℕ) (fresh : ℕ) (args : List PureValue) (h : Heap) → h ≡ empty → m.takes_symbol action ≡ true → ((n : ℕ) → ¬ OccursAmong n args) → MayAct m action (Some fresh) args h
may_on_empty m action fresh args h bare taken none = record {
  symbol_where_taken = (λ is. taken, λ is. refl);
  new_in_heap = λ n is occurs. not_held occurs.0 occurs.1.0 (subst (λ g. Holds g occurs.0 occurs.1.0) bare occurs.1.1.0);
  new_in_arguments = λ n is. none n;
}
