use Rattle.std.proofs.Common.{◌≡◌, ℕ, ◌+◌, [], ◌∷◌, ◌++◌, true, false, List, Bool, All, codes, Option, Some, None, inr, refl, sym, ap, true≢false, arith}
use Rattle.std.proofs.lemmas.List.Elements.{All-nil, All-cons}
use Rattle.gil_values.specs.Pure.{PureValue}
use Rattle.gil_values.specs.Equality.{same_value}
use Rattle.gil_machine.proofs.Proper.{Below}
use Rattle.gil_machine.specs.Proper.{IsStoreBelow, IsFrameBelow}
use Rattle.gil_syntax.proofs.Symbols.{each-nil}
use Rattle.gil_syntax.specs.Evaluation.{Store, bind}
use Rattle.gil_syntax.specs.Pure.{PureSpec, PureParts}
use Rattle.mem_model.proofs.Parts.{empty_is_heap, empty_is_below}
use Rattle.mem_model.specs.Actions.{no_memory}
use Rattle.mem_model.specs.declared.keys.MemoryName.TheVariants.{Record}
use Rattle.assert_logic.specs.LogicStates.{nothing}
use Rattle.assert_logic.specs.Sorts.{HasSorts}
use Rattle.assert_logic.proofs.MatchedValues.{bind_holds, nothing_holds}
use Rattle.checked_runs.specs.Checked.{Checked, IsFactBelow, goes_on_to, with_logic, moved, variables_in, logicals_in, has_all, unlisted_in, AreSame, at_invariant, PassesFirst}
use Rattle.checked_runs.specs.Programs.{of_no_argument, fails_at_one, lists_without_value, passes_in_two_calls, of_a_number, counts_without_listing}
use Rattle.checked_runs.specs.Rows.{number_value}
use Rattle.checked_runs.proofs.Traces.{at_start, entered, starts, next, one_number}
use Rattle.checked_runs.proofs.programs.mistakes_of_invariants_are_found.Goals as goal

-- the state after the first visit of an invariant that says nothing, with these values of program variables
abbrev visited : PureParts → PureSpec → List PureValue → List (List ℕ) → Store → Checked → Checked
visited p s args xs store c =
    let there : Checked = with_logic nothing c.machine.counter (at_invariant p Record no_memory (entered s args) xs nothing store c) in
    moved there (record there.machine { current = record there.machine.current { next = there.machine.current.next + 1 } })

first_visit : (p : PureParts) (s : PureSpec) (args : List PureValue) (xs : List (List ℕ)) (store : Store) (c : Checked) → has_all xs store ≡ true → AreSame (unlisted_in xs store) (unlisted_in xs c.machine.current.store) → HasSorts (logicals_in c.machine.callers (entered s args) ++ []) (store ++ variables_in c.machine.callers (entered s args))
    → IsStoreBelow c.machine.counter store → All (IsFrameBelow c.machine.counter) c.machine.callers → PassesFirst p Record no_memory (entered s args) xs [] [] nothing c (goes_on_to (visited p s args xs store c))
first_visit p s args xs store c has same sorts below callers = record {
  store = store;
  listed_have_values = has;
  others_stay = same;
  names = store ++ variables_in c.machine.callers (entered s args);
  known_stay = λ x v is. is;
  sorts = sorts;
  counter = c.machine.counter;
  next = with_logic nothing c.machine.counter (at_invariant p Record no_memory (entered s args) xs nothing store c);
  adds = record {
    state = nothing;
    adding = record { added_is = refl; well_formed = empty_is_heap Record };
    not_lower = omega arith;
    is_next = refl;
    above = record { heap_below = empty_is_below c.machine.counter; current_below = below; callers_below = callers; facts_below = All-nil (IsFactBelow c.machine.counter) };
  };
  leads = refl;
}

number_below : (z : List ℕ) (v : ℕ) (s : Store) → IsStoreBelow 0 s → IsStoreBelow 0 (bind z (number_value v) s)
number_below z v s below = bind_holds (Below 0) z (number_value v) s (each-nil (Below 0)) below

abbrev is_zero : Option PureValue → Bool
is_zero (Some v) = same_value v (number_value 0)
is_zero None = false

pub returns-clause-unset : goal.returns-clause-unset
returns-clause-unset c = record {
  args = [];
  variables = [];
  steps = 0;
  state = at_start lists_without_value of_no_argument [] [];
  reached = starts lists_without_value of_no_argument [] [] refl tt refl tt;
  leads = refl;
}

pub returns-clause-unlisted : goal.returns-clause-unlisted
returns-clause-unlisted c =
    let p : PureParts = fails_at_one [] in
    let first = at_start p of_no_argument [] [] in
    let second = next p first in
    let third = visited p of_no_argument [] [] second.machine.current.store second in
    let fourth = next p third in
    let fifth = next p fourth in
    let sixth = next p fifth in
    record {
      args = [];
      variables = [];
      steps = 5;
      state = sixth;
      reached = (fifth, ((fourth, ((third, ((second, ((first, (starts p of_no_argument [] [] refl tt refl tt, refl)), first_visit p of_no_argument [] [] second.machine.current.store second refl (λ x. refl) (λ x v is. refl) (number_below (codes "i") 0 [] (nothing_holds (Below 0))) (All-nil (IsFrameBelow 0)))), refl)), refl)), refl));
      leads = inr (λ same. true≢false (sym (ap is_zero (same.same_values (codes "i")))), refl);
    }

pub returns-clause-listed : goal.returns-clause-listed
returns-clause-listed c =
    let p : PureParts = fails_at_one (codes "i" ∷ []) in
    let first = at_start p of_no_argument [] [] in
    let second = next p first in
    let third = visited p of_no_argument [] (codes "i" ∷ []) (bind (codes "i") (number_value 1) []) second in
    record {
      args = [];
      variables = [];
      steps = 3;
      state = next p third;
      reached = (third, ((second, ((first, (starts p of_no_argument [] [] refl tt refl tt, refl)), first_visit p of_no_argument [] (codes "i" ∷ []) (bind (codes "i") (number_value 1) []) second refl (λ x. refl) (λ x v is. refl) (number_below (codes "i") 1 [] (nothing_holds (Below 0))) (All-nil (IsFrameBelow 0)))), refl));
      leads = refl;
    }

pub returns-clause-other_call : goal.returns-clause-other_call
returns-clause-other_call c =
    let p : PureParts = passes_in_two_calls in
    let first = at_start p of_no_argument [] [] in
    let second = next p first in
    let third = visited p of_no_argument [] [] [] second in
    let fourth = next p third in
    let fifth = next p fourth in
    let sixth = visited p of_no_argument [] [] [] fifth in
    record {
      args = [];
      variables = [];
      steps = 6;
      state = next p sixth;
      reached = (sixth, ((fifth, ((fourth, ((third, ((second, ((first, (starts p of_no_argument [] [] refl tt refl tt, refl)), first_visit p of_no_argument [] [] [] second refl (λ x. refl) (λ x v is. refl) (nothing_holds (Below 0)) (All-cons (IsFrameBelow 0) _ [] (nothing_holds (Below 0)) (All-nil (IsFrameBelow 0))))), refl)), refl)), first_visit p of_no_argument [] [] [] fifth refl (λ x. refl) (λ x v is. refl) (nothing_holds (Below 0)) (All-cons (IsFrameBelow 0) _ [] (number_below (codes "x") 0 [] (nothing_holds (Below 0))) (All-nil (IsFrameBelow 0))))), refl));
      leads = refl;
    }

pub returns-clause-counter : goal.returns-clause-counter
returns-clause-counter c =
    let p : PureParts = counts_without_listing in
    let first = at_start p of_a_number (number_value 1 ∷ []) [] in
    let second = next p first in
    let third = visited p of_a_number (number_value 1 ∷ []) [] second.machine.current.store second in
    let fourth = next p third in
    let fifth = next p fourth in
    let sixth = next p fifth in
    record {
      args = number_value 1 ∷ [];
      variables = [];
      steps = 5;
      state = sixth;
      reached = (fifth, ((fourth, ((third, ((second, ((first, (starts p of_a_number (number_value 1 ∷ []) [] refl (one_number 1) refl tt, refl)), first_visit p of_a_number (number_value 1 ∷ []) [] second.machine.current.store second refl (λ x. refl) (λ x v is. refl) (number_below (codes "i") 0 (bind (codes "n") (number_value 1) []) (number_below (codes "n") 1 [] (nothing_holds (Below 0)))) (All-nil (IsFrameBelow 0)))), refl)), refl)), refl));
      leads = inr (λ same. true≢false (sym (ap is_zero (same.same_values (codes "i")))), refl);
    }
