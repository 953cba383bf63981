use Rattle.std.proofs.Common.{◌≡◌, ℕ, List, [], ◌∷◌, Bool, true, false, not, ◌&&◌, ◌||◌, zero, suc, slice_get, codes, cond, Some, None, inl, inr, refl, sym, ap, subst, ◌∙◌, arith}
use Rattle.std.specs.FinMap.{empty, remove}
use Rattle.std.specs.Str.{bytes_eq}
use Rattle.std.proofs.lemmas.List.Elements.{All-nil, All-cons}
use Rattle.gil_values.specs.declared.kinds.Kind.TheVariants.{Null}
use Rattle.gil_values.specs.Pure.{PureValue, boolean, kind, symbol}
use Rattle.gil_machine.proofs.Proper.{Below}
use Rattle.gil_machine.specs.Proper.{IsStoreBelow, IsFrameBelow}
use Rattle.gil_syntax.proofs.Symbols.{each-nil}
use Rattle.gil_syntax.specs.Evaluation.{bind, value_of}
use Rattle.gil_syntax.specs.Examples.{number}
use Rattle.gil_syntax.specs.Pure.{uses, PureSpec, PureParts}
use Rattle.mem_model.proofs.Parts.{empty_is_heap, empty_is_below}
use Rattle.mem_model.specs.Heaps.{Heap, IsHeapOf, IsHeapBelow}
use Rattle.mem_model.specs.declared.keys.MemoryName.TheVariants.{Record}
use Rattle.assert_logic.specs.LogicStates.{Fact}
use Rattle.assert_logic.proofs.MatchedValues.{bind_holds, nothing_holds}
use Rattle.checked_runs.specs.Checked.{Checked, IsFactBelow}
use Rattle.checked_runs.specs.Programs.{x, with_cell, returns_nothing, cell_of, p_use, loses_the_cell, tells_another_value, gives_the_cell_away, keeps_the_cell, has_it_twice, folds_it, unfolds_it, folds_a_key, folds_in_a_loop, one_cell_is_no_list, sees_a_list}
use Rattle.checked_runs.specs.Rows.{a, number_value}
use Rattle.checked_runs.proofs.Cells.{the_key, cell, held_value, none_held, is_new, is_taken, one_key, cell_is_heap, cell_is_below}
use Rattle.checked_runs.proofs.Stores.{same_some, no_value}
use Rattle.checked_runs.proofs.Traces.{next, with_heap_at_start, symbol_below, starts_with_heap}
use Rattle.checked_runs.proofs.programs.mistakes_of_heaps_are_found.Goals as goal

abbrev one : PureValue
one = number_value 1

-- the heap from which the cell was taken
abbrev rest : Heap
rest = remove (cell one) the_key

rest_is_heap : IsHeapOf Record rest
rest_is_heap = subst (IsHeapOf Record) (sym (is_taken one)) (empty_is_heap Record)

rest_is_below : IsHeapBelow 1 rest
rest_is_below = subst (IsHeapBelow 1) (sym (is_taken one)) (empty_is_below 1)

argument_below : (z : List ℕ) → IsStoreBelow 1 (bind z (symbol 0) [])
argument_below z = bind_holds (Below 1) z (symbol 0) [] symbol_below (nothing_holds (Below 1))

-- the fact p($0)
abbrev p_fact : Fact
p_fact = record { pred = codes "p"; ins = symbol 0 ∷ []; outs = [] }

pub returns-clause-leftover : goal.returns-clause-leftover
returns-clause-leftover c =
    let p : PureParts = with_cell loses_the_cell (returns_nothing ∷ []) in
    record {
      args = symbol 0 ∷ [];
      variables = [];
      steps = 0;
      state = with_heap_at_start p loses_the_cell (cell one) [];
      reached = starts_with_heap p loses_the_cell (cell one) [] (cell_is_heap one) (cell_is_below one (each-nil (Below 1))) refl (rw (is_new one) refl) tt;
      leads = rw (one_key one) refl;
    }

pub returns-clause-other_value : goal.returns-clause-other_value
returns-clause-other_value c =
    let p : PureParts = with_cell tells_another_value (returns_nothing ∷ []) in
    record {
      args = symbol 0 ∷ [];
      variables = [];
      steps = 0;
      state = with_heap_at_start p tells_another_value (cell one) [];
      reached = starts_with_heap p tells_another_value (cell one) [] (cell_is_heap one) (cell_is_below one (each-nil (Below 1))) refl (rw (is_new one) refl) tt;
      leads = rw (held_value one) refl;
    }

pub returns-clause-core_predicate : goal.returns-clause-core_predicate
returns-clause-core_predicate c = record {
  args = symbol 0 ∷ [];
  variables = [];
  steps = 0;
  state = with_heap_at_start folds_a_key keeps_the_cell (cell one) [];
  reached = starts_with_heap folds_a_key keeps_the_cell (cell one) [] (cell_is_heap one) (cell_is_below one (each-nil (Below 1))) refl (rw (is_new one) refl) tt;
  leads = refl;
}

pub returns-clause-one_level : goal.returns-clause-one_level
returns-clause-one_level c = record {
  args = symbol 0 ∷ [];
  variables = [];
  steps = 0;
  state = with_heap_at_start one_cell_is_no_list sees_a_list (cell (kind Null)) [];
  reached = starts_with_heap one_cell_is_no_list sees_a_list (cell (kind Null)) [] (cell_is_heap (kind Null)) (cell_is_below (kind Null) (each-nil (Below 1))) refl (rw (is_new (kind Null)) refl) tt;
  leads = rw (held_value (kind Null)) refl;
}

-- ---- a fold

pub returns-clause-folded : goal.returns-clause-folded
returns-clause-folded c =
    let s : PureSpec = has_it_twice (cell_of a (number 1) ∷ []) in
    let first = with_heap_at_start folds_it s (cell one) [] in
    let second : Checked = record first { machine = record first.machine { current = record first.machine.current { next = 1 }; heap = rest }; facts = p_fact ∷ [] } in
    record {
      args = symbol 0 ∷ [];
      variables = [];
      steps = 1;
      state = second;
      reached = (first, (starts_with_heap folds_it s (cell one) [] (cell_is_heap one) (cell_is_below one (each-nil (Below 1))) refl (rw (is_new one) refl) tt, rw (held_value one) refl));
      leads = rw (is_taken one) (rw (none_held one the_key) refl);
    }

-- ---- an unfold

parameter : (i : ℕ) (z : List ℕ) (w : PureValue) → slice_get (codes "x" ∷ []) i ≡ Some z → slice_get (symbol 0 ∷ []) i ≡ Some w → value_of (bind (codes "x") (symbol 0) []) z ≡ Some w
parameter zero z w name value = ap (value_of (bind (codes "x") (symbol 0) [])) (sym (same_some name)) ∙ value
parameter (suc i) z w name value = no_value z name

any_sort : (z : List ℕ) (w : PureValue) → value_of (bind (codes "x") (symbol 0) []) z ≡ Some w → ((not (bytes_eq (codes "x") z) || true) && true) ≡ true
any_sort z w is = by (bytes_eq (codes "x") z)
  where
    by : (b : Bool) → ((not b || true) && true) ≡ true
    by true = refl
    by false = refl

pub returns-clause-unfolded : goal.returns-clause-unfolded
returns-clause-unfolded c =
    let s : PureSpec = has_it_twice (uses (p_use a) ∷ []) in
    let first = with_heap_at_start unfolds_it s empty (p_fact ∷ []) in
    let added : Checked = record first { machine = record first.machine { heap = cell one }; facts = [] } in
    let second : Checked = record added { machine = record added.machine { current = record first.machine.current { next = 1 } } } in
    record {
      args = symbol 0 ∷ [];
      variables = [];
      steps = 1;
      state = second;
      reached = (
        first,
        (
          starts_with_heap unfolds_it s empty (p_fact ∷ []) (empty_is_heap Record) (empty_is_below 1) refl refl (((symbol_below, tt), tt), tt),
          record {
            number = 0;
            items = cell_of x (number 1) ∷ [];
            case = refl;
            store = bind (codes "x") (symbol 0) [];
            ins_agree = parameter;
            outs_agree = λ i z w name value. no_value z name;
            sorts = any_sort;
            counter = 1;
            next = added;
            adds = record {
              state = record { heap = cell one; facts = [] };
              adding = record { added_is = rw (is_new one) refl; well_formed = cell_is_heap one };
              not_lower = omega arith;
              is_next = refl;
              above = record {
                heap_below = cell_is_below one (each-nil (Below 1));
                current_below = argument_below (codes "a");
                callers_below = All-nil (IsFrameBelow 1);
                facts_below = All-nil (IsFactBelow 1);
              };
            };
            leads = refl;
          },
        ),
      );
      leads = rw (held_value one) (rw (is_taken one) (rw (none_held one the_key) refl));
    }

-- ---- a call

agrees : (i : ℕ) (z : List ℕ) (w : PureValue) → slice_get (codes "a" ∷ []) i ≡ Some z → slice_get (symbol 0 ∷ []) i ≡ Some w → value_of (bind (codes "a") (symbol 0) (bind (codes "ret") one [])) z ≡ Some w
agrees zero z w name value = ap (value_of (bind (codes "a") (symbol 0) (bind (codes "ret") one []))) (sym (same_some name)) ∙ value
agrees (suc i) z w name value = no_value z name

stays : (z : List ℕ) (w : PureValue) → value_of (bind (codes "a") (symbol 0) []) z ≡ Some w → value_of (bind (codes "a") (symbol 0) (bind (codes "ret") one [])) z ≡ Some w
stays z w = by (bytes_eq (codes "a") z)
  where
    by : (b : Bool) → cond b (Some (symbol 0)) None ≡ Some w → cond b (Some (symbol 0)) (value_of (bind (codes "ret") one []) z) ≡ Some w
    by true is = is
    by false is = no_value w is

of_any_sort : (z : List ℕ) (w : PureValue) → value_of (bind (codes "a") (symbol 0) (bind (codes "ret") one [])) z ≡ Some w → ((not (bytes_eq (codes "a") z) || true) && true) ≡ true
of_any_sort z w is = by (bytes_eq (codes "a") z)
  where
    by : (b : Bool) → ((not b || true) && true) ≡ true
    by true = refl
    by false = refl

pub returns-clause-given_away : goal.returns-clause-given_away
returns-clause-given_away c =
    let first = with_heap_at_start gives_the_cell_away keeps_the_cell (cell one) [] in
    let second : Checked = record first { machine = record first.machine { current = record first.machine.current { next = 1; store = bind (codes "x") one first.machine.current.store }; heap = rest } } in
    record {
      args = symbol 0 ∷ [];
      variables = [];
      steps = 1;
      state = second;
      reached = (
        first,
        (
          starts_with_heap gives_the_cell_away keeps_the_cell (cell one) [] (cell_is_heap one) (cell_is_below one (each-nil (Below 1))) refl (rw (is_new one) refl) tt,
          rw (held_value one) (inl (record {
            number = 0;
            items = [];
            is_post = refl;
            result = one;
            store = bind (codes "a") (symbol 0) (bind (codes "ret") one []);
            is_store = record { parameters = agrees; variables_stay = stays; result = refl; sorts = of_any_sort };
            state = record { heap = rest; facts = [] };
            adding = record { added_is = refl; well_formed = rest_is_heap };
            counter = 1;
            not_lower = omega arith;
            below = record {
              heap_below = rest_is_below;
              current_below = argument_below (codes "a");
              callers_below = All-cons (IsFrameBelow 1) _ [] (argument_below (codes "a")) (All-nil (IsFrameBelow 1));
              facts_below = All-nil (IsFactBelow 1);
            };
            result_below = each-nil (Below 1);
            leads = refl;
          })),
        ),
      );
      leads = rw (is_taken one) (rw (none_held one the_key) refl);
    }

-- ---- a loop

pub returns-clause-remainder : goal.returns-clause-remainder
returns-clause-remainder c =
    let first = with_heap_at_start folds_in_a_loop keeps_the_cell (cell one) [] in
    let second = next folds_in_a_loop first in
    let passed : Checked = record second { passed = (record { at = 1; remainder = record { heap = cell one; facts = [] }; unlisted = bind (codes "a") (symbol 0) [] } ∷ []) ∷ [] } in
    let third : Checked = record passed { machine = record second.machine { current = record second.machine.current { next = 2 } } } in
    let fourth = next folds_in_a_loop third in
    let fifth : Checked = record fourth { machine = record fourth.machine { current = record fourth.machine.current { next = 5 }; heap = rest }; facts = p_fact ∷ [] } in
    let sixth = next folds_in_a_loop fifth in
    let seventh = next folds_in_a_loop sixth in
    record {
      args = symbol 0 ∷ [];
      variables = [];
      steps = 6;
      state = seventh;
      reached = (
        sixth,
        (
          (
            fifth,
            (
              (
                fourth,
                (
                  (
                    third,
                    (
                      (
                        second,
                        (
                          (first, (starts_with_heap folds_in_a_loop keeps_the_cell (cell one) [] (cell_is_heap one) (cell_is_below one (each-nil (Below 1))) refl (rw (is_new one) refl) tt, refl)),
                          record {
                            store = second.machine.current.store;
                            listed_have_values = refl;
                            others_stay = λ z. refl;
                            names = second.machine.current.store;
                            known_stay = λ z w is. is;
                            sorts = λ z w is. refl;
                            counter = 1;
                            next = passed;
                            adds = record {
                              state = record { heap = cell one; facts = [] };
                              adding = record { added_is = refl; well_formed = cell_is_heap one };
                              not_lower = omega arith;
                              is_next = refl;
                              above = record {
                                heap_below = cell_is_below one (each-nil (Below 1));
                                current_below = bind_holds (Below 1) (codes "b") (boolean true) (bind (codes "a") (symbol 0) []) (each-nil (Below 1)) (argument_below (codes "a"));
                                callers_below = All-nil (IsFrameBelow 1);
                                facts_below = All-nil (IsFactBelow 1);
                              };
                            };
                            leads = refl;
                          },
                        ),
                      ),
                      refl,
                    ),
                  ),
                  rw (held_value one) refl,
                ),
              ),
              refl,
            ),
          ),
          refl,
        ),
      );
      leads = inr (λ same. no_facts p_fact [] same.same_facts, refl);
    }
  where
    no_facts : (f : Fact) (fs : List Fact) → ◌≡◌ {A = List Fact} (f ∷ fs) [] → ⊥
    no_facts f fs is = absurd (cc)
