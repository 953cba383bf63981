use Rattle.std.proofs.Common.{List, [], ◌∷◌, Bool, true, false, codes, inr, refl, sym, ap, true≢false, arith}
use Rattle.std.specs.FinMap.{empty, remove}
use Rattle.std.proofs.lemmas.List.Elements.{All-nil}
use Rattle.gil_values.specs.declared.kinds.Kind.TheVariants.{Null}
use Rattle.gil_values.specs.Pure.{PureValue, boolean, kind, symbol}
use Rattle.gil_machine.proofs.Proper.{Below}
use Rattle.gil_machine.specs.Proper.{IsFrameBelow}
use Rattle.gil_syntax.proofs.Symbols.{each-nil}
use Rattle.gil_syntax.specs.Evaluation.{bind}
use Rattle.gil_syntax.specs.Examples.{number}
use Rattle.mem_model.proofs.Parts.{empty_is_heap, empty_is_below}
use Rattle.mem_model.specs.declared.keys.MemoryName.TheVariants.{Record}
use Rattle.assert_logic.specs.LogicStates.{Fact}
use Rattle.assert_logic.proofs.MatchedValues.{EachFactHolds, bind_holds, nothing_holds}
use Rattle.checked_runs.specs.Checked.{Checked}
use Rattle.checked_runs.specs.Programs.{x, cell_of, p_fact, one_cell, draws_a_side, tells_one_side, moves_a_fact, of_two_facts, folds_two_of_one_name, of_any_two}
use Rattle.checked_runs.specs.Rows.{number_value}
use Rattle.checked_runs.proofs.Cells.{the_key, held_value, is_new, cell_is_heap, cell_is_below}
use Rattle.checked_runs.proofs.Parts.{facts_below}
use Rattle.checked_runs.proofs.Stores.{no_value}
use Rattle.gil_machine.specs.Run.{start}
use Rattle.checked_runs.proofs.Traces.{at_start, starts, starts_at, next, one_number, symbol_below, any_sort_of_x, parameter_x}
use Rattle.checked_runs.proofs.programs.draws_and_folds_are_followed.Goals as goal

pub returns-clause-deeper : goal.returns-clause-deeper
returns-clause-deeper c = rw (held_value (kind Null)) refl

pub returns-clause-draw : goal.returns-clause-draw
returns-clause-draw c =
    let first = at_start draws_a_side tells_one_side [] [] in
    let second : Checked = record first { machine = record first.machine { current = record first.machine.current { next = 1; store = bind (codes "x") (boolean true) [] }; draws = 1 } } in
    record {
      args = [];
      variables = [];
      steps = 2;
      state = next draws_a_side second;
      reached = (second, ((first, (starts draws_a_side tells_one_side [] [] refl tt refl tt, (boolean true, (refl, refl)))), refl));
      leads = refl;
    }

pub returns-clause-two_values : goal.returns-clause-two_values
returns-clause-two_values c = record {
  args = number_value 0 ∷ number_value 1 ∷ [];
  variables = [];
  steps = 0;
  state = at_start folds_two_of_one_name of_any_two (number_value 0 ∷ number_value 1 ∷ []) [];
  reached = starts folds_two_of_one_name of_any_two (number_value 0 ∷ number_value 1 ∷ []) [] refl (each-nil (Below 0), one_number 1) refl tt;
  leads = refl;
}

-- whether the first fact is of a symbol
abbrev is_symbol : List PureValue → Bool
is_symbol (symbol n ∷ vs) = true
is_symbol _ = false

abbrev starts_with_symbol : List Fact → Bool
starts_with_symbol (f ∷ fs) = is_symbol f.ins
starts_with_symbol [] = false

pub returns-clause-order : goal.returns-clause-order
returns-clause-order c =
    let args : List PureValue = symbol 0 ∷ number_value 0 ∷ [] in
    let both : List Fact = p_fact (symbol 0) ∷ p_fact (number_value 0) ∷ [] in
    let both_below : EachFactHolds (Below 1) both = (((symbol_below, tt), tt), (((each-nil (Below 1), tt), tt), tt)) in
    let first : Checked = record { machine = start moves_a_fact (codes "f") args empty 1; facts = both; passed = [] ∷ [] } in
    let second = next moves_a_fact first in
    let store_below = bind_holds (Below 1) (codes "b") (boolean true) (bind (codes "a") (symbol 0) (bind (codes "y") (number_value 0) [])) (each-nil (Below 1)) (bind_holds (Below 1) (codes "a") (symbol 0) (bind (codes "y") (number_value 0) []) symbol_below (bind_holds (Below 1) (codes "y") (number_value 0) [] (each-nil (Below 1)) (nothing_holds (Below 1)))) in
    let passed : Checked = record second { passed = (record { at = 1; remainder = record { heap = empty; facts = both }; unlisted = first.machine.current.store } ∷ []) ∷ [] } in
    let third : Checked = record passed { machine = record second.machine { current = record second.machine.current { next = 2 } } } in
    let fourth = next moves_a_fact third in
    let unfolded : Checked = record fourth { machine = record fourth.machine { heap = one_cell (number_value 1) }; facts = p_fact (number_value 0) ∷ [] } in
    let fifth : Checked = record unfolded { machine = record unfolded.machine { current = record fourth.machine.current { next = 5 } } } in
    let sixth : Checked = record fifth {
      machine = record fifth.machine { current = record fifth.machine.current { next = 6 }; heap = remove (one_cell (number_value 1)) the_key };
      facts = p_fact (number_value 0) ∷ p_fact (symbol 0) ∷ [];
    } in
    let seventh = next moves_a_fact sixth in
    let eighth = next moves_a_fact seventh in
    record {
      args = args;
      variables = [];
      steps = 7;
      state = eighth;
      reached = (
        seventh,
        (
          (
            sixth,
            (
              (
                fifth,
                (
                  (
                    fourth,
                    (
                      (
                        third,
                        (
                          (
                            second,
                            (
                              (first, (starts_at moves_a_fact of_two_facts args empty both 1 (empty_is_heap Record) (empty_is_below 1) refl (symbol_below, (each-nil (Below 1), tt)) refl both_below, refl)),
                              record {
                                store = second.machine.current.store;
                                listed_have_values = refl;
                                others_stay = λ z. refl;
                                names = second.machine.current.store;
                                known_stay = λ z w is. is;
                                sorts = λ z w is. refl;
                                counter = 1;
                                next = passed;
                                adds = record {
                                  state = record { heap = empty; facts = both };
                                  adding = record { added_is = refl; well_formed = empty_is_heap Record };
                                  not_lower = omega arith;
                                  is_next = refl;
                                  above = record { heap_below = empty_is_below 1; current_below = store_below; callers_below = All-nil (IsFrameBelow 1); facts_below = facts_below 1 both both_below };
                                };
                                leads = refl;
                              },
                            ),
                          ),
                          refl,
                        ),
                      ),
                      record {
                        number = 0;
                        items = cell_of x (number 1) ∷ [];
                        case = refl;
                        store = bind (codes "x") (symbol 0) [];
                        ins_agree = parameter_x (symbol 0);
                        outs_agree = λ i z w name value. no_value z name;
                        sorts = any_sort_of_x (symbol 0);
                        counter = 1;
                        next = unfolded;
                        adds = record {
                          state = record { heap = one_cell (number_value 1); facts = p_fact (number_value 0) ∷ [] };
                          adding = record { added_is = rw (is_new (number_value 1)) refl; well_formed = cell_is_heap (number_value 1) };
                          not_lower = omega arith;
                          is_next = refl;
                          above = record {
                            heap_below = cell_is_below (number_value 1) (each-nil (Below 1));
                            current_below = store_below;
                            callers_below = All-nil (IsFrameBelow 1);
                            facts_below = facts_below 1 (p_fact (number_value 0) ∷ []) (((each-nil (Below 1), tt), tt), tt);
                          };
                        };
                        leads = refl;
                      },
                    ),
                  ),
                  rw (held_value (number_value 1)) refl,
                ),
              ),
              refl,
            ),
          ),
          refl,
        ),
      );
      leads = inr (λ same. true≢false (sym (ap starts_with_symbol same.same_facts)), refl);
    }
