-- Evaluation and runs where numbers have 128 bits: evaluation has one more fault, a result that leaves them, and a run may
-- come to a number that it can't hold.
use Rattle.std.specs.Prelude.{ℕ, zero, suc, ◌^◌, pos, neg_ℤ, int_le, int_lt, List, [], ◌∷◌, Bool, true, false, ◌&&◌, if◌then◌else◌, Option, Some, None, Result, Ok, Err}
use Rattle.std.specs.Option.{option_and_then}
use Rattle.gil_values.specs.declared.places.Place.{Place}
use Rattle.gil_values.specs.Pure.{PureValue, integer, list, from_list as list_elements}
use Rattle.gil_values.specs.Operators.{Fault, unset_variable, Outcome, unary, binary}
use Rattle.gil_syntax.specs.Pure.{PureExpr, literal, name, logical, list_of, unary_of, binary_of, PureExprs, no_exprs, expr_and, from_list, PureCommand, assign, call, act, usym, isym, ifgoto, return, fail, throw, vanish, fold_use, unfold_use, assert_that, loop_invariant, PureNumberedCommand, PureParts}
use Rattle.gil_syntax.specs.Evaluation.{Store, value_of}
use Rattle.mem_model.specs.Heaps.{Heap}
use Rattle.mem_model.specs.Actions.{Actions}
use Rattle.gil_machine.specs.State.{State, Step, goes_on, ends, End, end_at, cut, told_end}
use Rattle.gil_machine.specs.Step.{command_at, step}
use Rattle.gil_machine.specs.Run.{start}

-- ---- expressions

-- a fault of the operator table, or a result that leaves 128 bits
pub data HeldFault : Type 0 where
  of_table : Fault → HeldFault
  too_wide : HeldFault

abbrev pub HeldOutcome : Type 0
HeldOutcome = Result PureValue HeldFault

abbrev pub HeldOutcomes : Type 0
HeldOutcomes = Result (List PureValue) HeldFault

-- from -2^127 to 2^127 - 1
abbrev pub is_held : PureValue → Bool
is_held (integer n) = int_le (neg_ℤ (pos (2 ^ 127))) n && int_lt n (pos (2 ^ 127))
is_held _ = true

-- what an operator gives, where it can be held
abbrev pub held : Outcome → HeldOutcome
held (Ok v) = if is_held v then Ok v else Err too_wide
held (Err fault) = Err (of_table fault)

abbrev pub held_or_unset : Option PureValue → HeldOutcome
held_or_unset (Some v) = Ok v
held_or_unset None = Err (of_table unset_variable)

abbrev pub after_held : HeldOutcome → (PureValue → HeldOutcome) → HeldOutcome
after_held (Ok v) go_on = go_on v
after_held (Err fault) go_on = Err fault

-- a first value and the values after it: the first fault counts
abbrev pub both_held : HeldOutcome → HeldOutcomes → HeldOutcomes
both_held (Ok v) (Ok vs) = Ok (v ∷ vs)
both_held (Ok v) (Err fault) = Err fault
both_held (Err fault) rest = Err fault

abbrev pub as_held_list : HeldOutcomes → HeldOutcome
as_held_list (Ok vs) = Ok (list (list_elements vs))
as_held_list (Err fault) = Err fault

-- the value of an expression, left to right, or the first fault; a result of an operator that leaves 128 bits is one
abbrev mutual
  pub evaluate_held : PureExpr → Store → HeldOutcome
  evaluate_held (literal v) s = Ok v
  evaluate_held (name x) s = held_or_unset (value_of s x)
  evaluate_held (logical x) s = held_or_unset (value_of s x)
  evaluate_held (list_of es) s = as_held_list (evaluate_held_elements es s)
  evaluate_held (unary_of op e) s = after_held (evaluate_held e s) (λ v. held (unary op v))
  evaluate_held (binary_of op d e) s = after_held (evaluate_held d s) (λ v. after_held (evaluate_held e s) (λ w. held (binary op v w)))

  pub evaluate_held_elements : PureExprs → Store → HeldOutcomes
  evaluate_held_elements no_exprs s = Ok []
  evaluate_held_elements (expr_and e es) s = both_held (evaluate_held e s) (evaluate_held_elements es s)

abbrev pub evaluate_all_held : List PureExpr → Store → HeldOutcomes
evaluate_all_held es s = evaluate_held_elements (from_list es) s

abbrev pub is_too_wide : {X : Type 0} → Result X HeldFault → Bool
is_too_wide (Err too_wide) = true
is_too_wide _ = false

-- ---- runs

-- the expressions that a command evaluates, in order; those of logic commands never are
abbrev pub evaluated_by : PureCommand → List PureExpr
evaluated_by (assign x e) = e ∷ []
evaluated_by (call x e es handler) = e ∷ es
evaluated_by (act x a es) = es
evaluated_by (usym x) = []
evaluated_by (isym x k) = []
evaluated_by (ifgoto e i) = e ∷ []
evaluated_by (return e) = e ∷ []
evaluated_by (fail e) = e ∷ []
evaluated_by (throw e) = e ∷ []
evaluated_by vanish = []
evaluated_by (fold_use u) = []
evaluated_by (unfold_use u) = []
evaluated_by (assert_that items) = []
evaluated_by (loop_invariant xs ps items) = []

-- the place of a command where a result leaves 128 bits before any fault
abbrev pub number_in : PureNumberedCommand → State → Option Place
number_in c s =
    if is_too_wide (evaluate_all_held (evaluated_by c.command) s.current.store)
    then Some (record { proc = s.current.procedure; at = c.at })
    else None

-- the same at the command at which a state stands
abbrev pub number_at : PureParts → State → Option Place
number_at p s = option_and_then (λ c. number_in c s) (command_at p s.current)

-- a run ends as runs do, or at a number that can't be held, with the heap that stands then
pub data HeldEnd : Type 0 where
  ended : End → HeldEnd
  number : Place → Heap → HeldEnd

-- how a report tells it: a throw that no handler takes is a failure
abbrev pub told_held : HeldEnd → HeldEnd
told_held (ended e) = ended (told_end e)
told_held (number place h) = number place h

abbrev pub number_or : Option Place → State → HeldEnd → HeldEnd
number_or (Some place) s rest = number place s.heap
number_or None s rest = rest

abbrev pub after_held_step : Step → (State → HeldEnd) → HeldEnd
after_held_step (goes_on s) go_on = go_on s
after_held_step (ends e) go_on = ended e

module _ (p : PureParts) (m : Actions) (inputs : List PureValue) where
  -- at most so many steps from a state
  abbrev pub held_run : ℕ → State → HeldEnd
  held_run zero s = ended (end_at s cut)
  held_run (suc n) s = number_or (number_at p s) s (after_held_step (step p m inputs s) (held_run n))

-- the run of the procedure f within n steps
abbrev pub held_run_of : PureParts → Actions → List ℕ → List PureValue → Heap → ℕ → List PureValue → ℕ → HeldEnd
held_run_of p m f args h counter inputs n = held_run p m inputs n (start p f args h counter)
