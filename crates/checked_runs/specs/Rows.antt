-- A small program, for the rows that show what each step of a checked run leads to.
use Rattle.std.specs.Prelude.{ℕ, ◌+◌, pos, List, [], ◌∷◌, codes, true}
use Rattle.std.specs.FinMap.{empty, from_entries}
use Rattle.gil_values.specs.declared.operators.BinOp.TheVariants.{Equal}
use Rattle.gil_values.specs.Pure.{PureValue, integer, boolean}
use Rattle.gil_syntax.specs.declared.assertions.Param.{Param}
use Rattle.gil_syntax.specs.declared.assertions.SpecSort.{SpecSort}
use Rattle.gil_syntax.specs.declared.assertions.SpecSort.TheVariants.{Any, Int as Numbers}
use Rattle.gil_syntax.specs.Examples.{number, proc_of}
use Rattle.gil_syntax.specs.Pure.{PureExpr, name, binary_of, PurePredUse, PureItem, pure, PureCommand, return, PureSpec, PurePredDef, PureParts}
use Rattle.gil_syntax.specs.Evaluation.{bind}
use Rattle.mem_model.specs.declared.keys.MemoryName.TheVariants.{Record}
use Rattle.mem_model.specs.declared.keys.Sub.TheVariants.{Gone}
use Rattle.mem_model.specs.Actions.{no_memory}
use Rattle.mem_model.specs.Heaps.{Heap}
use Rattle.mem_model.specs.Keys.{key}
use Rattle.gil_machine.specs.State.{Frame}
use Rattle.gil_machine.specs.Step.{first_frame}
use Rattle.assert_logic.specs.LogicStates.{Fact, nothing}
use Rattle.checked_runs.specs.Checked.{Passed, Checked, Outcome, Entry, Leads}

abbrev pub param : List ℕ → SpecSort → Param
param x sort = record { name = x; sort = sort }

abbrev pub equals : PureExpr → ℕ → PureItem
equals e n = pure (binary_of Equal e (number n))

abbrev pub a : PureExpr
a = name (codes "a")

abbrev pub ret : PureExpr
ret = name (codes "ret")

-- q(a; v)
abbrev pub q_of : ℕ → ℕ → PurePredUse
q_of n v = record { pred = codes "q"; ins = number n ∷ []; outs = number v ∷ [] }

-- pred q(x; v) [] { (v = 0) } { (v = 1) }
abbrev pub zero_or_one : PurePredDef
zero_or_one = record {
  name = codes "q";
  ins = param (codes "x") Any ∷ [];
  outs = param (codes "v") Any ∷ [];
  logicals = [];
  cases = (equals (name (codes "v")) 0 ∷ []) ∷ (equals (name (codes "v")) 1 ∷ []) ∷ [];
}

-- spec f(a) [] { emp } { (ret = a) } throw { (ret = 7) }
abbrev pub returns_its_argument : PureSpec
returns_its_argument = record {
  name = codes "f";
  params = param (codes "a") Any ∷ [];
  logicals = [];
  pre = [];
  posts = (pure (binary_of Equal ret a) ∷ []) ∷ [];
  errors = (equals ret 7 ∷ []) ∷ [];
}

-- spec g(x: int) [] { (x = 3) } { emp }
abbrev pub asks_for_three : PureSpec
asks_for_three = record {
  name = codes "g";
  params = param (codes "x") Numbers ∷ [];
  logicals = [];
  pre = equals (name (codes "x")) 3 ∷ [];
  posts = [] ∷ [];
  errors = [];
}

-- proc f(a) { COMMAND; return a; } proc g(x) { return x; } proc h(x) { return x; }, with these specifications and this predicate
abbrev pub with_command : PureCommand → PureParts
with_command c = record {
  procs = proc_of (codes "f") (codes "a" ∷ []) (c ∷ return a ∷ []) ∷ proc_of (codes "g") (codes "x" ∷ []) (return (name (codes "x")) ∷ [])
      ∷ proc_of (codes "h") (codes "x" ∷ []) (return (name (codes "x")) ∷ []) ∷ [];
  specs = returns_its_argument ∷ asks_for_three ∷ [];
  preds = zero_or_one ∷ [];
}

abbrev pub number_value : ℕ → PureValue
number_value n = integer (pos n)

-- f was called with the number 5
abbrev pub entered_with_five : Entry
entered_with_five = record { spec = returns_its_argument; args = number_value 5 ∷ []; variables = [] }

-- the frame of f stands at its first command, and a has the value
abbrev pub frame_with : PureValue → Frame
frame_with v = first_frame (codes "f") (codes "a" ∷ []) (v ∷ [])

abbrev pub state_with : PureValue → Heap → List Fact → List Passed → Checked
state_with v h facts passed = record {
  machine = record { current = frame_with v; callers = []; heap = h; counter = 9; draws = 0 };
  facts = facts;
  passed = passed ∷ [];
}

abbrev pub at_five : Checked
at_five = state_with (number_value 5) empty [] []

-- the fact q(0; 1)
abbrev pub fact_q : Fact
fact_q = record { pred = codes "q"; ins = number_value 0 ∷ []; outs = number_value 1 ∷ [] }

-- a location that is gone
abbrev pub gone_heap : Heap
gone_heap = from_entries ((key 3 Gone, boolean true) ∷ [])

-- the step of a state at this command may lead to this outcome
abbrev pub LeadsTo : PureCommand → Checked → Outcome → Type 0
LeadsTo command c out = Leads (with_command command) Record no_memory entered_with_five c out

-- the machine's state at the next command
abbrev pub at_next : Checked → Checked
at_next c = record c { machine = record c.machine { current = record c.machine.current { next = c.machine.current.next + 1 } } }

-- the invariant of the first command was passed with nothing left over, when a had this value
abbrev pub passed_with : PureValue → Passed
passed_with v = record { at = 0; remainder = nothing; unlisted = bind (codes "a") v [] }

-- y was drawn
abbrev pub drawn : ℕ → Checked
drawn n = record at_five {
  machine = record at_five.machine {
    current = record (frame_with (number_value 5)) { next = 1; store = bind (codes "y") (number_value n) (frame_with (number_value 5)).store };
    draws = 1;
  };
}

-- the invariant of the first command, which lists a, was passed with nothing left over
abbrev pub passed_listing_a : Passed
passed_listing_a = record { at = 0; remainder = nothing; unlisted = [] }

-- y got the result of a call
abbrev pub called : ℕ → Checked
called n = record (drawn n) { machine = record (drawn n).machine { draws = 0 } }
