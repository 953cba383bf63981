use Rattle.std.proofs.Common.{◌≡◌, ◌<◌, ℕ, List, [], ◌∷◌, Bool, true, false, not, ◌&&◌, ◌||◌, zero, suc, slice_get, codes, cond, Some, None, inl, ⊎_elim, refl, sym, ap, ◌∙◌, arith}
use Rattle.std.specs.Str.{bytes_eq}
use Rattle.std.proofs.lemmas.List.Elements.{All-nil, All-cons, Contains-push_cases}
use Rattle.gil_values.specs.Pure.{PureValue, boolean, symbol}
use Rattle.gil_values.specs.Symbols.{OccursIn, IsBelow}
use Rattle.gil_machine.proofs.Proper.{Below}
use Rattle.gil_machine.specs.Proper.{IsStoreBelow, IsFrameBelow}
use Rattle.gil_syntax.proofs.Symbols.{each-nil, none_contained}
use Rattle.gil_syntax.specs.Pure.{pure}
use Rattle.gil_syntax.specs.Evaluation.{bind, value_of}
use Rattle.mem_model.proofs.Parts.{empty_is_heap, empty_is_below}
use Rattle.mem_model.specs.declared.keys.MemoryName.TheVariants.{Record}
use Rattle.assert_logic.specs.LogicStates.{nothing}
use Rattle.assert_logic.proofs.MatchedValues.{bind_holds, nothing_holds}
use Rattle.checked_runs.specs.Checked.{Checked, IsFactBelow}
use Rattle.checked_runs.specs.Programs.{x, same, tells_the_argument, changes_its_argument, tells_one, believes_a_false_one, tells_nothing, gives_any_argument, tells_zero, reads_the_first_post, of_no_argument, gets_its_symbol_back, tells_true, even_and_odd}
use Rattle.checked_runs.specs.Rows.{ret, number_value}
use Rattle.checked_runs.proofs.Stores.{same_some, no_value}
use Rattle.checked_runs.proofs.Traces.{at_start, starts, next, one_number, with_result}
use Rattle.checked_runs.proofs.programs.mistakes_of_calls_are_found.Goals as goal

pub returns-clause-current_values : goal.returns-clause-current_values
returns-clause-current_values c =
    let first = at_start changes_its_argument tells_the_argument (number_value 1 ∷ []) [] in
    record {
      args = number_value 1 ∷ [];
      variables = [];
      steps = 1;
      state = next changes_its_argument first;
      reached = (first, (starts changes_its_argument tells_the_argument (number_value 1 ∷ []) [] refl (one_number 1) refl tt, refl));
      leads = refl;
    }

pub returns-clause-false_specification : goal.returns-clause-false_specification
returns-clause-false_specification c = record {
  args = [];
  variables = [];
  steps = 0;
  state = at_start believes_a_false_one (tells_one (codes "g")) [] [];
  reached = starts believes_a_false_one (tells_one (codes "g")) [] [] refl tt refl tt;
  leads = refl;
}

pub returns-clause-depends : goal.returns-clause-depends
returns-clause-depends c = record {
  args = [];
  variables = [];
  steps = 0;
  state = at_start believes_a_false_one (tells_one (codes "f")) [] [];
  reached = starts believes_a_false_one (tells_one (codes "f")) [] [] refl tt refl tt;
  is_used = refl;
}

pub returns-clause-sorts : goal.returns-clause-sorts
returns-clause-sorts c = record {
  args = boolean true ∷ [];
  variables = [];
  steps = 0;
  state = at_start gives_any_argument tells_nothing (boolean true ∷ []) [];
  reached = starts gives_any_argument tells_nothing (boolean true ∷ []) [] refl (each-nil (Below 0), tt) refl tt;
  leads = refl;
}

-- ---- a result that a postcondition allows

parameter : (v r : PureValue) (i : ℕ) (z : List ℕ) (w : PureValue) → slice_get (codes "x" ∷ []) i ≡ Some z → slice_get (v ∷ []) i ≡ Some w → value_of (with_result v r) z ≡ Some w
parameter v r zero z w name value = ap (value_of (with_result v r)) (sym (same_some name)) ∙ value
parameter v r (suc i) z w name value = no_value z name

stays : (v r : PureValue) (z : List ℕ) (w : PureValue) → value_of (bind (codes "x") v []) z ≡ Some w → value_of (with_result v r) z ≡ Some w
stays v r z w = by (bytes_eq (codes "x") z)
  where
    by : (b : Bool) → cond b (Some v) None ≡ Some w → cond b (Some v) (value_of (bind (codes "ret") r []) z) ≡ Some w
    by true is = is
    by false is = no_value w is

any_sort : (v r : PureValue) (z : List ℕ) (w : PureValue) → value_of (with_result v r) z ≡ Some w → ((not (bytes_eq (codes "x") z) || true) && true) ≡ true
any_sort v r z w is = by (bytes_eq (codes "x") z)
  where
    by : (b : Bool) → ((not b || true) && true) ≡ true
    by true = refl
    by false = refl

one_bound : (k : ℕ) (z : List ℕ) (v : PureValue) → IsBelow k v → IsStoreBelow k (bind z v [])
one_bound k z v below = bind_holds (Below k) z v [] below (nothing_holds (Below k))

one_below : (k : ℕ) → 0 < k → IsBelow k (symbol 0)
one_below k lt m is = let only = only_zero m is in omega (arith, only, lt)
  where
    only_zero : (m : ℕ) → OccursIn m (symbol 0) → 0 ≡ m
    only_zero m is = ⊎_elim (λ none. absurd (none_contained m none)) (λ same. same) (Contains-push_cases [] 0 m is)

pub returns-clause-other_post : goal.returns-clause-other_post
returns-clause-other_post c =
    let first = at_start reads_the_first_post tells_zero (number_value 1 ∷ []) [] in
    let second : Checked = record first {
      machine = record first.machine { current = record first.machine.current { next = 1; store = bind (codes "y") (number_value 1) first.machine.current.store } };
    } in
    record {
      args = number_value 1 ∷ [];
      variables = [];
      steps = 1;
      state = second;
      reached = (
        first,
        (
          starts reads_the_first_post tells_zero (number_value 1 ∷ []) [] refl (one_number 1) refl tt,
          inl (record {
            number = 1;
            items = pure (same ret x) ∷ [];
            is_post = refl;
            result = number_value 1;
            store = with_result (number_value 1) (number_value 1);
            is_store = record { parameters = parameter (number_value 1) (number_value 1); variables_stay = stays (number_value 1) (number_value 1); result = refl; sorts = any_sort (number_value 1) (number_value 1) };
            state = nothing;
            adding = record { added_is = refl; well_formed = empty_is_heap Record };
            counter = 0;
            not_lower = omega arith;
            below = record {
              heap_below = empty_is_below 0;
              current_below = one_bound 0 (codes "x") (number_value 1) (each-nil (Below 0));
              callers_below = All-cons (IsFrameBelow 0) _ [] (one_bound 0 (codes "x") (number_value 1) (each-nil (Below 0))) (All-nil (IsFrameBelow 0));
              facts_below = All-nil (IsFactBelow 0);
            };
            result_below = each-nil (Below 0);
            leads = refl;
          }),
        ),
      );
      leads = refl;
    }

pub returns-clause-symbol_of_caller : goal.returns-clause-symbol_of_caller
returns-clause-symbol_of_caller c =
    let first = at_start gets_its_symbol_back of_no_argument [] [] in
    let second = next gets_its_symbol_back first in
    let third : Checked = record second {
      machine = record second.machine { current = record second.machine.current { next = 2; store = bind (codes "y") (symbol 0) second.machine.current.store } };
    } in
    let fourth = next gets_its_symbol_back third in
    record {
      args = [];
      variables = [];
      steps = 3;
      state = fourth;
      reached = (
        third,
        (
          (
            second,
            (
              (first, (starts gets_its_symbol_back of_no_argument [] [] refl tt refl tt, refl)),
              inl (record {
                number = 0;
                items = [];
                is_post = refl;
                result = symbol 0;
                store = with_result (symbol 0) (symbol 0);
                is_store = record { parameters = parameter (symbol 0) (symbol 0); variables_stay = stays (symbol 0) (symbol 0); result = refl; sorts = any_sort (symbol 0) (symbol 0) };
                state = nothing;
                adding = record { added_is = refl; well_formed = empty_is_heap Record };
                counter = 1;
                not_lower = omega arith;
                below = record {
                  heap_below = empty_is_below 1;
                  current_below = one_bound 1 (codes "x") (symbol 0) (one_below 1 (omega arith));
                  callers_below = All-cons (IsFrameBelow 1) _ [] (one_bound 1 (codes "s") (symbol 0) (one_below 1 (omega arith))) (All-nil (IsFrameBelow 1));
                  facts_below = All-nil (IsFactBelow 1);
                };
                result_below = one_below 1 (omega arith);
                leads = refl;
              }),
            ),
          ),
          refl,
        ),
      );
      leads = refl;
    }

pub returns-clause-odd : goal.returns-clause-odd
returns-clause-odd c =
    let first = at_start even_and_odd (tells_true (codes "odd")) (number_value 0 ∷ []) [] in
    record {
      args = number_value 0 ∷ [];
      variables = [];
      steps = 1;
      state = next even_and_odd first;
      reached = (first, (starts even_and_odd (tells_true (codes "odd")) (number_value 0 ∷ []) [] refl (one_number 0) refl tt, refl));
      leads = refl;
    }

pub returns-clause-even_depends : goal.returns-clause-even_depends
returns-clause-even_depends c =
    let first = at_start even_and_odd (tells_true (codes "even")) (number_value 1 ∷ []) [] in
    let second = next even_and_odd first in
    record {
      args = number_value 1 ∷ [];
      variables = [];
      steps = 2;
      state = next even_and_odd second;
      reached = (second, ((first, (starts even_and_odd (tells_true (codes "even")) (number_value 1 ∷ []) [] refl (one_number 1) refl tt, refl)), refl));
      is_used = refl;
    }
