-- Small predicates, assertions and states, for the rows that show what matching does.
use Rattle.std.specs.Prelude.{ℕ, pos, List, [], ◌∷◌, codes, Option, Some, None}
use Rattle.std.specs.FinMap.{from_entries}
use Rattle.std.specs.Option.{option_map}
use Rattle.gil_values.specs.declared.kinds.Kind.TheVariants.{Null}
use Rattle.gil_values.specs.declared.operators.BinOp.TheVariants.{Add, Equal, LessOrEqual}
use Rattle.gil_values.specs.Pure.{PureValue, integer, text, kind}
use Rattle.gil_syntax.specs.declared.assertions.Param.{Param}
use Rattle.gil_syntax.specs.declared.assertions.SpecSort.TheVariants.{Any}
use Rattle.gil_syntax.specs.Examples.{number}
use Rattle.gil_syntax.specs.Pure.{PureExpr, literal, name, logical, binary_of, PureItem, pure, uses, PureSpec, PurePredDef}
use Rattle.gil_syntax.specs.Evaluation.{Store, bind}
use Rattle.mem_model.specs.declared.keys.MemoryName.TheVariants.{Record}
use Rattle.mem_model.specs.declared.keys.Sub.TheVariants.{Name}
use Rattle.mem_model.specs.Keys.{key}
use Rattle.assert_logic.specs.declared.checking.ModeKind.{ModeKind}
use Rattle.assert_logic.specs.LogicStates.{Fact, LogicState, nothing}
use Rattle.assert_logic.specs.Matching.{Matching, matched, stops, Taken, CaseMatch, match_assertion}
use Rattle.assert_logic.specs.Modes.{precondition, postcondition, logic_command, assertion_fault}

abbrev pub any : List ℕ → Param
any x = record { name = x; sort = Any }

abbrev pub x : PureExpr
x = name (codes "x")

abbrev pub of_v : PureExpr
of_v = logical (codes "#v")

abbrev pub of_w : PureExpr
of_w = logical (codes "#w")

abbrev pub equals : PureExpr → ℕ → PureItem
equals e n = pure (binary_of Equal e (number n))

-- q(x; OUT)
abbrev pub q_of : PureExpr → PureItem
q_of out = uses (record { pred = codes "q"; ins = x ∷ []; outs = out ∷ [] })

-- pred q(x; v) [] { (v = 0) } { (v = 1) }
abbrev pub zero_or_one : PurePredDef
zero_or_one = record {
  name = codes "q";
  ins = any (codes "x") ∷ [];
  outs = any (codes "v") ∷ [];
  logicals = [];
  cases = (equals (name (codes "v")) 0 ∷ []) ∷ (equals (name (codes "v")) 1 ∷ []) ∷ [];
}

abbrev pub r_of : PureExpr → PureItem
r_of e = uses (record { pred = codes "r"; ins = e ∷ []; outs = [] })

-- pred r(x;) [] { q(x; 1) }
abbrev pub above_it : PurePredDef
above_it = record {
  name = codes "r";
  ins = any (codes "x") ∷ [];
  outs = [];
  logicals = [];
  cases = (q_of (number 1) ∷ []) ∷ [];
}

abbrev pub null : PureValue
null = kind Null

-- prop(l, "next"; OUT)
abbrev pub next_of : PureExpr → PureExpr → PureItem
next_of l out = uses (record { pred = codes "prop"; ins = l ∷ literal (text (codes "next")) ∷ []; outs = out ∷ [] })

abbrev pub list_at : PureExpr → PureItem
list_at l = uses (record { pred = codes "list"; ins = l ∷ []; outs = [] })

-- pred list(x;) [#n] { (x = Null) } { prop(x, "next"; #n) * list(#n;) }
abbrev pub linked_list : PurePredDef
linked_list = record {
  name = codes "list";
  ins = any (codes "x") ∷ [];
  outs = [];
  logicals = any (codes "#n") ∷ [];
  cases = (pure (binary_of Equal x (literal null)) ∷ []) ∷ (next_of x (logical (codes "#n")) ∷ list_at (logical (codes "#n")) ∷ []) ∷ [];
}

-- pred p(x;) [] { p(x;) }
abbrev pub of_itself : PurePredDef
of_itself = record {
  name = codes "p";
  ins = any (codes "x") ∷ [];
  outs = [];
  logicals = [];
  cases = (uses (record { pred = codes "p"; ins = x ∷ []; outs = [] }) ∷ []) ∷ [];
}

abbrev pub x_is : PureValue → Store
x_is v = bind (codes "x") v []

-- the facts q(0; 0) and q(0; 1)
abbrev pub two_outs : LogicState
two_outs = record nothing {
  facts = record { pred = codes "q"; ins = integer (pos 0) ∷ []; outs = integer (pos 0) ∷ [] }
      ∷ record { pred = codes "q"; ins = integer (pos 0) ∷ []; outs = integer (pos 1) ∷ [] } ∷ [];
}

-- a cell whose `next` holds Null
abbrev pub one_cell : LogicState
one_cell = record nothing { heap = from_entries ((key 7 (Name (codes "next")), null) ∷ []) }

abbrev pub logicals : List Param
logicals = any (codes "#v") ∷ any (codes "#w") ∷ []

-- where matching stops, if it does
abbrev pub stop_of : Matching → Option ℕ
stop_of (matched m) = None
stop_of (stops n) = Some n

abbrev pub stop_at : List PurePredDef → List PureItem → PureValue → LogicState → Option ℕ
stop_at preds items v s = stop_of (match_assertion preds logicals items (x_is v) s)

-- how many facts are left after a match
abbrev pub facts_left : Matching → List Fact
facts_left (matched m) = m.state.facts
facts_left (stops n) = []

abbrev pub taken_by : Matching → List Taken
taken_by (matched m) = m.taken
taken_by (stops n) = []

abbrev pub taken_in : Option CaseMatch → Option Taken
taken_in found = option_map (λ c. c.taken) found

-- spec f(x) [#v] { emp } { emp }
abbrev pub names_v : PureSpec
names_v = record {
  name = codes "f";
  params = any (codes "x") ∷ [];
  logicals = any (codes "#v") ∷ [];
  pre = [];
  posts = [] ∷ [];
  errors = [];
}

-- the fault of modes that an assertion has in the precondition, the postcondition and the logic commands of that specification
abbrev pub fault_before : List PureItem → Option ModeKind
fault_before items = assertion_fault Record (precondition names_v) items

abbrev pub fault_behind : List PureItem → Option ModeKind
fault_behind items = assertion_fault Record (postcondition names_v) items

abbrev pub fault_inside : List PureItem → Option ModeKind
fault_inside items = assertion_fault Record (logic_command (Some names_v)) items

abbrev pub at_most_one : PureExpr → PureItem
at_most_one e = pure (binary_of LessOrEqual e (number 1))

abbrev pub one_more : PureExpr → PureExpr
one_more e = binary_of Add e (number 1)

abbrev pub cell_at : PureExpr → PureItem
cell_at l = uses (record { pred = codes "cell"; ins = l ∷ number 0 ∷ []; outs = number 0 ∷ [] })

abbrev pub ret : PureExpr
ret = name (codes "ret")
