-- What is chosen at a step: the side that a guard takes, and what an action comes to.
use Rattle.std.specs.Prelude.{ℕ, zero, suc, List, [], ◌∷◌, true, false, Option, Some, None, Ok, Err}
use Rattle.std.specs.Option.{option_and_then, option_map}
use Rattle.gil_values.specs.Pure.{PureValue, boolean}
use Rattle.gil_values.specs.Operators.{Outcome}
use Rattle.gil_syntax.specs.Pure.{PureCommand, assign, call, act, usym, isym, ifgoto, return, fail, throw, vanish, fold_use, unfold_use, assert_that, loop_invariant, PureParts}
use Rattle.gil_syntax.specs.Evaluation.{Outcomes, evaluate, evaluate_all}
use Rattle.mem_model.specs.declared.keys.Key.{Key}
use Rattle.mem_model.specs.Pure.{PureOutcome, done, failed, miss}
use Rattle.mem_model.specs.Actions.{Actions, ActionResult}
use Rattle.gil_machine.specs.State.{State, Step, goes_on, ends}
use Rattle.gil_machine.specs.Step.{action_result, command_at, step}

-- what depends on a value, and on the values of a list, where there are any
abbrev pub of_value : {X : Type 0} → (PureValue → Option X) → Outcome → Option X
of_value f (Ok v) = f v
of_value f (Err fault) = None

abbrev pub of_values : {X : Type 0} → (List PureValue → Option X) → Outcomes → Option X
of_values f (Ok vs) = f vs
of_values f (Err fault) = None

-- 0 for a guard that is false, 1 for one that is true
abbrev pub guard_choice : PureValue → Option ℕ
guard_choice (boolean false) = Some 0
guard_choice (boolean true) = Some 1
guard_choice _ = None

-- 0 for an action that is done, 1 for one that fails, 2 for one that misses
abbrev pub outcome_choice : PureOutcome → ℕ
outcome_choice (done v) = 0
outcome_choice (failed v) = 1
outcome_choice (miss k) = 2

abbrev pub missed_key : PureOutcome → Option Key
missed_key (done v) = None
missed_key (failed v) = None
missed_key (miss k) = Some k

module _ (p : PureParts) (m : Actions) where
  -- what the action of a command makes of the heap, where the command is an action whose arguments have values
  abbrev pub result_of : PureCommand → State → Option ActionResult
  result_of (assign x e) s = None
  result_of (call x e es handler) s = None
  result_of (act x a es) s = of_values (λ args. Some (action_result (m.takes_symbol a) m a args s)) (evaluate_all es s.current.store)
  result_of (usym x) s = None
  result_of (isym x k) s = None
  result_of (ifgoto e i) s = None
  result_of (return e) s = None
  result_of (fail e) s = None
  result_of (throw e) s = None
  result_of vanish s = None
  result_of (fold_use u) s = None
  result_of (unfold_use u) s = None
  result_of (assert_that items) s = None
  result_of (loop_invariant xs ps items) s = None

  abbrev pub choice_of : PureCommand → State → Option ℕ
  choice_of (assign x e) s = None
  choice_of (call x e es handler) s = None
  choice_of (act x a es) s = option_map (λ r. outcome_choice r.outcome) (result_of (act x a es) s)
  choice_of (usym x) s = None
  choice_of (isym x k) s = None
  choice_of (ifgoto e i) s = of_value guard_choice (evaluate e s.current.store)
  choice_of (return e) s = None
  choice_of (fail e) s = None
  choice_of (throw e) s = None
  choice_of vanish s = None
  choice_of (fold_use u) s = None
  choice_of (unfold_use u) s = None
  choice_of (assert_that items) s = None
  choice_of (loop_invariant xs ps items) s = None

  -- the same at the command at which a state stands
  abbrev pub result_at : State → Option ActionResult
  result_at s = option_and_then (λ c. result_of c.command s) (command_at p s.current)

  -- the key that is missed there
  abbrev pub miss_at : State → Option Key
  miss_at s = option_and_then (λ r. missed_key r.outcome) (result_at s)

  -- the choice that is made there: at a guard that is a boolean, and at an action whose arguments have values
  abbrev pub choice_at : State → Option ℕ
  choice_at s = option_and_then (λ c. choice_of c.command s) (command_at p s.current)

abbrev pub with_choice : Option ℕ → List ℕ → List ℕ
with_choice (Some c) later = c ∷ later
with_choice None later = later

abbrev pub later_choices : Step → (State → List ℕ) → List ℕ
later_choices (goes_on s) go_on = go_on s
later_choices (ends e) go_on = []

module _ (p : PureParts) (m : Actions) (inputs : List PureValue) where
  -- the choices of the first steps, up to a number or to an end
  abbrev pub choices : ℕ → State → List ℕ
  choices zero s = []
  choices (suc k) s = with_choice (choice_at p m s) (later_choices (step p m inputs s) (choices k))
