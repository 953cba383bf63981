use Rattle.std.proofs.Common.{◌≡◌, ℕ, [], ◌∷◌, true, false, not, ◌&&◌, ◌||◌, zero, suc, List, Bool, slice_get, codes, Some, refl, sym, ap, ◌∙◌, arith}
use Rattle.std.specs.Str.{bytes_eq}
use Rattle.std.proofs.lemmas.List.Elements.{All-nil}
use Rattle.gil_values.specs.Pure.{PureValue}
use Rattle.gil_machine.proofs.Proper.{Below}
use Rattle.gil_machine.specs.Proper.{IsFrameBelow}
use Rattle.gil_syntax.proofs.Symbols.{each-nil}
use Rattle.gil_syntax.specs.Evaluation.{bind, value_of}
use Rattle.mem_model.proofs.Parts.{empty_is_heap, empty_is_below}
use Rattle.mem_model.specs.declared.keys.MemoryName.TheVariants.{Record}
use Rattle.assert_logic.specs.LogicStates.{Fact, nothing}
use Rattle.assert_logic.proofs.MatchedValues.{bind_holds, nothing_holds}
use Rattle.checked_runs.specs.Checked.{Checked, IsFactBelow}
use Rattle.checked_runs.specs.Programs.{x, gives_zero, reads_the_first_case, makes_p, assumes_what_it_shows, of_two, two_of_one, with_q, wants_the_second_fact, wants_the_second_case, of_no_argument, asserts_the_false, asserts_of_no_value}
use Rattle.checked_runs.specs.Rows.{equals, number_value}
use Rattle.checked_runs.proofs.Stores.{same_some, no_value}
use Rattle.checked_runs.proofs.Traces.{at_start, starts, next, one_number}
use Rattle.checked_runs.proofs.programs.mistakes_of_assertions_are_found.Goals as goal

-- ---- a case

parameter : (i : ℕ) (z : List ℕ) (w : PureValue) → slice_get (codes "x" ∷ []) i ≡ Some z → slice_get (number_value 1 ∷ []) i ≡ Some w → value_of (bind (codes "x") (number_value 1) []) z ≡ Some w
parameter zero z w name value = ap (value_of (bind (codes "x") (number_value 1) [])) (sym (same_some name)) ∙ value
parameter (suc i) z w name value = no_value z name

any_sort : (z : List ℕ) (w : PureValue) → value_of (bind (codes "x") (number_value 1) []) z ≡ Some w → ((not (bytes_eq (codes "x") z) || true) && true) ≡ true
any_sort z w is = by (bytes_eq (codes "x") z)
  where
    by : (b : Bool) → ((not b || true) && true) ≡ true
    by true = refl
    by false = refl

pub returns-clause-other_case : goal.returns-clause-other_case
returns-clause-other_case c =
    let first = at_start reads_the_first_case gives_zero (number_value 1 ∷ []) (record { pred = codes "p"; ins = number_value 1 ∷ []; outs = [] } ∷ []) in
    let added : Checked = record first { facts = [] } in
    let second : Checked = record added { machine = record first.machine { current = record first.machine.current { next = 1 } } } in
    record {
      args = number_value 1 ∷ [];
      variables = [];
      steps = 1;
      state = second;
      reached = (
        first,
        (
          starts reads_the_first_case gives_zero (number_value 1 ∷ []) (record { pred = codes "p"; ins = number_value 1 ∷ []; outs = [] } ∷ []) refl (one_number 1) refl ((one_number 1, tt), tt),
          record {
            number = 1;
            items = equals x 1 ∷ [];
            case = refl;
            store = bind (codes "x") (number_value 1) [];
            ins_agree = parameter;
            outs_agree = λ i z w name value. no_value z name;
            sorts = any_sort;
            counter = 0;
            next = added;
            adds = record {
              state = nothing;
              adding = record { added_is = refl; well_formed = empty_is_heap Record };
              not_lower = omega arith;
              is_next = refl;
              above = record {
                heap_below = empty_is_below 0;
                current_below = bind_holds (Below 0) (codes "a") (number_value 1) [] (each-nil (Below 0)) (nothing_holds (Below 0));
                callers_below = All-nil (IsFrameBelow 0);
                facts_below = All-nil (IsFactBelow 0);
              };
            };
            leads = refl;
          },
        ),
      );
      leads = refl;
    }

pub returns-clause-deeper : goal.returns-clause-deeper
returns-clause-deeper c = record {
  args = number_value 0 ∷ [];
  variables = [];
  steps = 0;
  state = at_start assumes_what_it_shows makes_p (number_value 0 ∷ []) [];
  reached = starts assumes_what_it_shows makes_p (number_value 0 ∷ []) [] refl (one_number 0) refl tt;
  leads = refl;
}

pub returns-clause-two_facts : goal.returns-clause-two_facts
returns-clause-two_facts c =
    let f : Fact = record { pred = codes "p"; ins = number_value 0 ∷ []; outs = [] } in
    let first = at_start two_of_one of_two (number_value 0 ∷ number_value 0 ∷ []) (f ∷ f ∷ []) in
    record {
      args = number_value 0 ∷ number_value 0 ∷ [];
      variables = [];
      steps = 1;
      state = next two_of_one first;
      reached = (first, (starts two_of_one of_two (number_value 0 ∷ number_value 0 ∷ []) (f ∷ f ∷ []) refl (each-nil (Below 0), one_number 0) refl ((one_number 0, tt), ((one_number 0, tt), tt)), refl));
      leads = refl;
    }

pub returns-clause-first_fact : goal.returns-clause-first_fact
returns-clause-first_fact c =
    let zero_fact : Fact = record { pred = codes "q"; ins = number_value 0 ∷ []; outs = number_value 0 ∷ [] } in
    let one_fact : Fact = record { pred = codes "q"; ins = number_value 0 ∷ []; outs = number_value 1 ∷ [] } in
    record {
      args = number_value 0 ∷ [];
      variables = [];
      steps = 0;
      state = at_start (with_q wants_the_second_fact) wants_the_second_fact (number_value 0 ∷ []) (zero_fact ∷ one_fact ∷ []);
      reached = starts (with_q wants_the_second_fact) wants_the_second_fact (number_value 0 ∷ []) (zero_fact ∷ one_fact ∷ []) refl (one_number 0) refl ((one_number 0, one_number 0), ((one_number 0, one_number 1), tt));
      leads = refl;
    }

pub returns-clause-first_case : goal.returns-clause-first_case
returns-clause-first_case c = record {
  args = number_value 0 ∷ [];
  variables = [];
  steps = 0;
  state = at_start (with_q wants_the_second_case) wants_the_second_case (number_value 0 ∷ []) [];
  reached = starts (with_q wants_the_second_case) wants_the_second_case (number_value 0 ∷ []) [] refl (one_number 0) refl tt;
  leads = refl;
}

pub returns-clause-asserted : goal.returns-clause-asserted
returns-clause-asserted c = record {
  args = [];
  variables = [];
  steps = 0;
  state = at_start asserts_the_false of_no_argument [] [];
  reached = starts asserts_the_false of_no_argument [] [] refl tt refl tt;
  leads = refl;
}

pub returns-clause-no_value : goal.returns-clause-no_value
returns-clause-no_value c = record {
  args = [];
  variables = [];
  steps = 0;
  state = at_start asserts_of_no_value of_no_argument [] [];
  reached = starts asserts_of_no_value of_no_argument [] [] refl tt refl tt;
  leads = refl;
}
