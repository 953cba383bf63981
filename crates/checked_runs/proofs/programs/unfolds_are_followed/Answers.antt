use Rattle.std.proofs.Common.{◌≡◌, ◌<◌, ⊎_elim, ℕ, List, [], ◌∷◌, Bool, true, false, not, ◌&&◌, ◌||◌, zero, suc, slice_get, codes, cond, Some, None, refl, sym, ap, ◌∙◌, arith}
use Rattle.std.specs.Str.{bytes_eq}
use Rattle.std.proofs.lemmas.List.Elements.{All-nil, Contains-push_cases}
use Rattle.std.proofs.lemmas.Slice.Eq.{bytes_eq-Decides}
use Rattle.gil_syntax.specs.declared.assertions.SpecSort.TheVariants.{Sym as Symbols}
use Rattle.gil_syntax.proofs.Symbols.{none_contained}
use Rattle.gil_syntax.specs.Examples.{number}
use Rattle.gil_values.specs.Pure.{PureValue, symbol}
use Rattle.gil_values.specs.Symbols.{IsBelow}
use Rattle.gil_machine.proofs.Proper.{Below}
use Rattle.gil_machine.specs.Proper.{IsFrameBelow}
use Rattle.gil_syntax.specs.Evaluation.{Store, bind, value_of}
use Rattle.gil_syntax.specs.Pure.{PureItem, logical}
use Rattle.assert_logic.specs.Adding.{added}
use Rattle.assert_logic.specs.Sorts.{has_sort}
use Rattle.assert_logic.proofs.MatchedValues.{bind_holds, nothing_holds}
use Rattle.checked_runs.specs.Checked.{IsFactBelow}
use Rattle.checked_runs.specs.Programs.{x, cell_of, first_state, one_cell, unfolds_a_symbol}
use Rattle.checked_runs.specs.Rows.{number_value}
use Rattle.checked_runs.proofs.Cells.{held_value, is_new, cell_is_heap, cell_is_below_any}
use Rattle.checked_runs.proofs.Stores.{same_some, no_value}
use Rattle.checked_runs.proofs.programs.unfolds_are_followed.Goals as goal

abbrev with_symbol : Store
with_symbol = bind (codes "x") (symbol 0) (bind (codes "#n") (symbol 1) [])

parameter : (i : ℕ) (z : List ℕ) (w : PureValue) → slice_get (codes "x" ∷ []) i ≡ Some z → slice_get (symbol 0 ∷ []) i ≡ Some w → value_of with_symbol z ≡ Some w
parameter zero z w name value = ap (value_of with_symbol) (sym (same_some name)) ∙ value
parameter (suc i) z w name value = no_value z name

abbrev fits : List ℕ → PureValue → Bool
fits z w = (not (bytes_eq (codes "x") z) || true) && ((not (bytes_eq (codes "#n") z) || has_sort Symbols w) && ((not (bytes_eq (codes "#s") z) || has_sort Symbols w) && true))

sorted : (z : List ℕ) (w : PureValue) → value_of with_symbol z ≡ Some w → fits z w ≡ true
sorted z w = by (bytes_eq (codes "x") z) refl (bytes_eq (codes "#n") z) refl
  where
    by : (b : Bool) → bytes_eq (codes "x") z ≡ b → (d : Bool) → bytes_eq (codes "#n") z ≡ d → cond b (Some (symbol 0)) (cond d (Some (symbol 1)) None) ≡ Some w → fits z w ≡ true
    by true same d other is = ap (λ y. fits y w) (sym ((bytes_eq-Decides (codes "x") z).0 same))
    by false other true same is = (λ i. fits (sym ((bytes_eq-Decides (codes "#n") z).0 same) i) (sym (same_some is) i))
    by false other false neither is = no_value w is

symbols_below : (n : ℕ) → n < 2 → IsBelow 2 (symbol n)
symbols_below n lt m is = ⊎_elim (λ none. absurd (none_contained m none)) (λ same. omega (arith, same, lt)) (Contains-push_cases [] n m is)

pub returns-clause-new_symbol : goal.returns-clause-new_symbol
returns-clause-new_symbol c = record {
  number = 0;
  items = cell_of x (logical (codes "#n")) ∷ [];
  case = refl;
  store = with_symbol;
  ins_agree = parameter;
  outs_agree = λ i z w name value. no_value z name;
  sorts = sorted;
  counter = 2;
  next = first_state unfolds_a_symbol (symbol 0 ∷ []) (one_cell (symbol 1)) [] 2;
  adds = record {
    state = record { heap = one_cell (symbol 1); facts = [] };
    adding = record { added_is = rw (is_new (symbol 1)) refl; well_formed = cell_is_heap (symbol 1) };
    not_lower = omega arith;
    is_next = refl;
    above = record {
      heap_below = cell_is_below_any (symbol 1) 2 (omega arith) (symbols_below 1 (omega arith));
      current_below = bind_holds (Below 2) (codes "a") (symbol 0) [] (symbols_below 0 (omega arith)) (nothing_holds (Below 2));
      callers_below = All-nil (IsFrameBelow 2);
      facts_below = All-nil (IsFactBelow 2);
    };
  };
  leads = refl;
}

none_added : (store : Store) → value_of store (codes "x") ≡ Some (symbol 0) → added store (cell_of x (number 1) ∷ []) (record { heap = one_cell (number_value 1); facts = [] }) ≡ None
none_added store at = rw at (rw (held_value (number_value 1)) refl)

pub returns-clause-same_key_twice : goal.returns-clause-same_key_twice
returns-clause-same_key_twice c out u = by u.number u.items u.case u.adds.adding.added_is
  where
    by : (i : ℕ) (items : List PureItem) → slice_get ((cell_of x (number 1) ∷ []) ∷ []) i ≡ Some items → added u.store items (record { heap = one_cell (number_value 1); facts = [] }) ≡ Some u.adds.state → ⊥
    by zero items at is =
        no_value u.adds.state (sym (none_added u.store (u.ins_agree 0 (codes "x") (symbol 0) refl refl)) ∙ ap (λ xs. added u.store xs (record { heap = one_cell (number_value 1); facts = [] })) (same_some at) ∙ is)
    by (suc i) items at is = no_value items at
