-- What the statements of a source language start from and come to, the same for every language, but for `choose`, which is of languages
-- whose conditions are booleans. What a statement does with them is said in each language.
use Rattle.std.specs.Prelude.{ℕ, zero, suc, ◌+◌, List, true, false, if◌then◌else◌, slice_get, Option, Some, None, Ok, Err, codes}
use Rattle.gil_values.specs.declared.kinds.Kind.{Kind}
use Rattle.gil_values.specs.declared.kinds.Kind.TheVariants.{Null}
use Rattle.gil_values.specs.declared.places.Place.{Place}
use Rattle.gil_values.specs.Pure.{PureValue, boolean, text, symbol, kind, kind_of}
use Rattle.gil_values.specs.Equality.{same_kind}
use Rattle.gil_values.specs.Operators.{fault_text, Outcome}
use Rattle.gil_syntax.specs.Evaluation.{Store, bind, Outcomes}
use Rattle.mem_model.specs.Heaps.{Heap}
use Rattle.mem_model.specs.Pure.{PureOutcome, done, failed as action_failed, miss}
use Rattle.mem_model.specs.Actions.{ActionResult}
use Rattle.gil_machine.specs.State.{Ending, returned, threw, failed, no_input, bad_input, End}

-- What a statement starts from: the values of the variables of its function, the heap, the counter, which is the number of
-- the next new symbol, and how many inputs were drawn.
pub record Situation : Type 0 where
  pub store : Store
  pub heap : Heap
  pub counter : ℕ
  pub draws : ℕ

-- What a statement comes to: the statement after it follows, its function returns a value, it throws a value at a place, the run is
-- over, or more turns of a loop or deeper calls are needed than are allowed.
pub data Completion : Type 0 where
  normal : Situation → Completion
  returns : PureValue → Situation → Completion
  throws : PureValue → Place → Situation → Completion
  over : End → Completion
  unfinished : Completion

-- what follows a statement
abbrev pub then_do : Completion → (Situation → Completion) → Completion
then_do (normal s) go_on = go_on s
then_do (returns v s) go_on = returns v s
then_do (throws v here s) go_on = throws v here s
then_do (over e) go_on = over e
then_do unfinished go_on = unfinished

-- what follows where a value is thrown; a failure is handled by nobody
abbrev pub handled_by : Completion → (PureValue → Situation → Completion) → Completion
handled_by (normal s) handler = normal s
handled_by (returns v s) handler = returns v s
handled_by (throws v here s) handler = handler v s
handled_by (over e) handler = over e
handled_by unfinished handler = unfinished

-- the run is over here
abbrev pub end_of : Ending → Situation → End
end_of ending s = record { ending = ending; heap = s.heap; counter = s.counter; draws = s.draws }

abbrev pub fails : PureValue → Place → Situation → Completion
fails v here s = over (end_of (failed v here) s)

-- the variable has the value from here on
abbrev pub sets : List ℕ → PureValue → Situation → Situation
sets x v s = record s { store = bind x v s.store }

-- what is done with the value of an expression; where it has none, the statement fails with the fault's text
abbrev pub with_value : Outcome → Place → Situation → (PureValue → Completion) → Completion
with_value (Ok v) here s go_on = go_on v
with_value (Err f) here s go_on = fails (text (fault_text f)) here s

abbrev pub with_values : Outcomes → Place → Situation → (List PureValue → Completion) → Completion
with_values (Ok vs) here s go_on = go_on vs
with_values (Err f) here s go_on = fails (text (fault_text f)) here s

-- the first where the condition is true, the second where it is false; a condition must be a boolean
abbrev pub choose : PureValue → Place → (Situation → Completion) → (Situation → Completion) → Situation → Completion
choose (boolean true) here on off s = on s
choose (boolean false) here on off s = off s
choose _ here on off s = fails (text (codes "type")) here s

-- what is done with the value that an action of the memory is done with; a failure fails with its value, and a miss with
-- "missing"
abbrev pub with_outcome : PureOutcome → Place → Situation → (PureValue → Situation → Completion) → Completion
with_outcome (done v) here s go_on = go_on v s
with_outcome (action_failed v) here s go_on = fails v here s
with_outcome (miss k) here s go_on = fails (text (codes "missing")) here s

abbrev pub after_action : ActionResult → Place → Situation → (PureValue → Situation → Completion) → Completion
after_action r here s go_on = with_outcome r.outcome here (record s { heap = r.heap }) go_on

-- the next input, which must be there and have the kind; s is the situation in which the draw is counted, from 1
abbrev pub input_of : Option PureValue → List ℕ → Kind → Situation → Completion
input_of None x k s = over (end_of (no_input s.draws) s)
input_of (Some v) x k s = if same_kind (kind_of v) k then normal (sets x v s) else over (end_of (bad_input s.draws) s)

abbrev pub draws_input : List PureValue → List ℕ → Kind → Situation → Completion
draws_input inputs x k s = input_of (slice_get inputs s.draws) x k (record s { draws = s.draws + 1 })

-- a symbol that was not there before
abbrev pub new_symbol : List ℕ → Situation → Situation
new_symbol x s = sets x (symbol s.counter) (record s { counter = s.counter + 1 })

-- What the test of a loop comes to from a situation, from what is done with its value, and where it leads. A test may also fail, do
-- actions, or be unfinished.
abbrev pub Test : Type 0
Test = Situation → (PureValue → Situation → Completion) → Completion

-- A loop that is tested at most so many times: before each turn, and where the value is false, what follows the loop follows. Where
-- conditions are other values than booleans, the test goes on with a boolean.
abbrev pub turns : ℕ → Test → Place → (Situation → Completion) → Situation → Completion
turns zero test here body s = unfinished
turns (suc n) test here body s =
    test s (λ v t. choose v here (λ u. then_do (body u) (turns n test here body)) (λ u. normal u) t)

-- the test that is the value of an expression
abbrev pub value_test : (Situation → Outcome) → Place → Test
value_test value here s go_on = with_value (value s) here s (λ v. go_on v s)

-- What is done with the value that a function returns, or with one that it throws, from what its body comes to. A function that ends
-- without a return returns Null.
abbrev pub after_body : Completion → (PureValue → Situation → Completion) → (PureValue → Place → Situation → Completion) → Completion
after_body (normal s) go_on thrown = go_on (kind Null) s
after_body (returns v s) go_on thrown = go_on v s
after_body (throws v here s) go_on thrown = thrown v here s
after_body (over e) go_on thrown = over e
after_body unfinished go_on thrown = unfinished

-- back in the caller, whose variables are as they were before the call, but for the one that gets the result
abbrev pub back_in : Situation → List ℕ → PureValue → Situation → Completion
back_in caller x v s = normal (record s { store = bind x v caller.store })

-- the caller hands on what is thrown, and its variables are as they were before the call
abbrev pub thrown_in : Situation → PureValue → Place → Situation → Completion
thrown_in caller v here s = throws v here (record s { store = caller.store })

-- the end of a run that begins with a function, if it has one
abbrev pub returned_from_entry : PureValue → Situation → Completion
returned_from_entry v s = over (end_of (returned v) s)

abbrev pub thrown_from_entry : PureValue → Place → Situation → Completion
thrown_from_entry v here s = over (end_of (threw v here) s)

abbrev pub end_if_over : Completion → Option End
end_if_over (normal s) = None
end_if_over (returns v s) = None
end_if_over (throws v here s) = None
end_if_over (over e) = Some e
end_if_over unfinished = None
