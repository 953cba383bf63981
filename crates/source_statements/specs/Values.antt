-- Inputs and results of calls that are handed on as values, and calls of values.
use Rattle.std.specs.Prelude.{◌+◌, List, length, ◌==◌, slice_get, if◌then◌else◌, Option, Some, None, codes}
use Rattle.gil_values.specs.declared.kinds.Kind.{Kind}
use Rattle.gil_values.specs.declared.places.Place.{Place}
use Rattle.gil_values.specs.Equality.{same_kind}
use Rattle.gil_values.specs.Pure.{PureValue, procedure, text, kind_of}
use Rattle.gil_machine.specs.State.{no_input, bad_input}
use Rattle.source_language.specs.Calls.{Calls}
use Rattle.source_language.specs.Completions.{Situation, Completion, over, end_of, fails, after_body, thrown_in}
use Rattle.source_language.specs.Pure.{PureFunction, find_function}

-- what is done with a value, from a situation on
abbrev pub Continuation : Type 0
Continuation = PureValue → Situation → Completion

-- the next input, which must be there and have the kind; s is the situation in which the draw is counted, from 1
abbrev pub input_value : Option PureValue → Kind → Situation → Continuation → Completion
input_value None k s go = over (end_of (no_input s.draws) s)
input_value (Some v) k s go = if same_kind (kind_of v) k then go v s else over (end_of (bad_input s.draws) s)

abbrev pub draws_value : List PureValue → Kind → Situation → Continuation → Completion
draws_value inputs k s go = input_value (slice_get inputs s.draws) k (record s { draws = s.draws + 1 }) go

module _ {B : Type 0} where
  -- the function that a value is, if it is one of the program
  abbrev pub function_of : List (PureFunction B) → PureValue → Option (PureFunction B)
  function_of functions (procedure f) = find_function functions f
  function_of functions _ = None

  -- back in the caller, whose variables are as they were before the call
  abbrev pub call_function : Calls B → Option (PureFunction B) → List PureValue → Place → Situation → Continuation → Completion
  call_function calls None args here s go = fails (text (codes "proc")) here s
  call_function calls (Some f) args here s go =
      if length args == length f.params then after_body (calls f args s) (λ v t. go v (record t { store = s.store })) (thrown_in s)
      else fails (text (codes "arity")) here s

  -- a call of a value, which must be a function of the program with as many parameters as there are arguments
  abbrev pub call_value : List (PureFunction B) → Calls B → PureValue → List PureValue → Place → Situation → Continuation → Completion
  call_value functions calls f args here s go = call_function calls (function_of functions f) args here s go
