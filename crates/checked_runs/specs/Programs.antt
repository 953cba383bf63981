-- Small programs with a mistake each, for the rows that show that a checked run finds it.
use Rattle.std.specs.Prelude.{◌≡◌, ℕ, pos, List, [], ◌∷◌, codes, true, false, Some, None}
use Rattle.gil_values.specs.declared.operators.BinOp.TheVariants.{Add, Subtract, Equal, Less}
use Rattle.gil_values.specs.declared.operators.UnOp.TheVariants.{Not}
use Rattle.gil_values.specs.declared.kinds.Kind.TheVariants.{Null, Bool as Boolean}
use Rattle.gil_values.specs.Pure.{PureValue, boolean, text, kind, procedure}
use Rattle.gil_syntax.specs.declared.assertions.Param.{Param}
use Rattle.gil_syntax.specs.declared.assertions.SpecSort.TheVariants.{Any, Int as Numbers, Sym as Symbols}
use Rattle.gil_syntax.specs.Evaluation.{Store}
use Rattle.gil_syntax.specs.Examples.{number, proc_of}
use Rattle.gil_syntax.specs.Pure.{PureExpr, literal, name, logical, unary_of, binary_of, PurePredUse, PureItem, pure, uses, PureCommand, assign, call, usym, ifgoto, return, fail, vanish, fold_use, unfold_use, assert_that, loop_invariant, PureProc, PureSpec, PurePredDef, PureParts, isym}
use Rattle.mem_model.specs.declared.keys.MemoryName.TheVariants.{Record}
use Rattle.mem_model.specs.declared.keys.Sub.TheVariants.{Name}
use Rattle.mem_model.specs.Actions.{no_memory}
use Rattle.mem_model.specs.Heaps.{Heap}
use Rattle.mem_model.specs.Keys.{key}
use Rattle.gil_machine.specs.Run.{start}
use Rattle.assert_logic.specs.LogicStates.{Fact}
use Rattle.std.specs.FinMap.{empty, insert}
use Rattle.checked_runs.specs.Checked.{Checked, Fault, has_fault, Leads, IsReachedIn, used_by, HasNoFault, Outcome}
use Rattle.gil_machine.specs.Step.{command_at}
use Rattle.checked_runs.specs.Rows.{param, equals, a, ret, zero_or_one}

-- a checked run of the specification comes to the fault
pub record HasFault (p : PureParts) (spec : PureSpec) (fault : Fault) : Type 0 where
  pub args : List PureValue
  pub variables : Store
  pub steps : ℕ
  pub state : Checked
  pub reached : IsReachedIn p Record no_memory (record { spec = spec; args = args; variables = variables }) steps state
  pub leads : Leads p Record no_memory (record { spec = spec; args = args; variables = variables }) state (has_fault fault)

-- a checked run of the specification uses the other one
pub record Uses (p : PureParts) (spec used : PureSpec) : Type 0 where
  pub args : List PureValue
  pub variables : Store
  pub steps : ℕ
  pub state : Checked
  pub reached : IsReachedIn p Record no_memory (record { spec = spec; args = args; variables = variables }) steps state
  pub is_used : used_by p no_memory (command_at p state.machine.current) state.machine ≡ Some used

abbrev pub x : PureExpr
x = name (codes "x")

abbrev pub y : PureExpr
y = name (codes "y")

abbrev pub i : PureExpr
i = name (codes "i")

abbrev pub n : PureExpr
n = name (codes "n")

abbrev pub same : PureExpr → PureExpr → PureExpr
same d e = binary_of Equal d e

abbrev pub always : PureExpr
always = literal (boolean true)

-- a call of a procedure of the program, without a handler
abbrev pub calls : List ℕ → List ℕ → List PureExpr → PureCommand
calls x f es = call x (literal (procedure f)) es None

-- spec NAME(PARAMS) [] { PRE } { POST } ..
abbrev pub spec_of : List ℕ → List Param → List PureItem → List (List PureItem) → PureSpec
spec_of f params pre posts = record { name = f; params = params; logicals = []; pre = pre; posts = posts; errors = [] }

abbrev pub any : List ℕ → Param
any x = param x Any

abbrev pub parts : List PureProc → List PureSpec → List PurePredDef → PureParts
parts procs specs preds = record { procs = procs; specs = specs; preds = preds }

-- ---- returns

-- proc f(a) { a := 0; return a; } spec f(a) [] { emp } { (ret = a) }
abbrev pub tells_the_argument : PureSpec
tells_the_argument = spec_of (codes "f") (any (codes "a") ∷ []) [] ((pure (same ret a) ∷ []) ∷ [])

abbrev pub changes_its_argument : PureParts
changes_its_argument = parts (proc_of (codes "f") (codes "a" ∷ []) (assign (codes "a") (number 0) ∷ return a ∷ []) ∷ []) (tells_the_argument ∷ []) []

-- proc f() { return 0; } spec f() [] { emp } { (ret = 1) }, with the names of the callers' rows
abbrev pub tells_one : List ℕ → PureSpec
tells_one f = spec_of f [] [] ((equals ret 1 ∷ []) ∷ [])

-- ---- calls

-- proc g() { return 0; } proc f() { x := call @g(); return x; } spec g() [] { emp } { (ret = 1) } spec f() [] { emp } { (ret = 1) }
abbrev pub believes_a_false_one : PureParts
believes_a_false_one =
    parts (proc_of (codes "g") [] (return (number 0) ∷ []) ∷ proc_of (codes "f") [] (calls (codes "x") (codes "g") [] ∷ return x ∷ []) ∷ [])
    (tells_one (codes "g") ∷ tells_one (codes "f") ∷ []) []

-- proc g(x) { y := (x + 1); return y; } proc f(x) { y := call @g(x); return 0; } spec g(x: int) [] { emp } { emp }
-- spec f(x) [] { emp } { emp }
abbrev pub tells_nothing : PureSpec
tells_nothing = spec_of (codes "f") (any (codes "x") ∷ []) [] ([] ∷ [])

abbrev pub gives_any_argument : PureParts
gives_any_argument =
    parts (proc_of (codes "g") (codes "x" ∷ []) (assign (codes "y") (binary_of Add x (number 1)) ∷ return y ∷ [])
    ∷ proc_of (codes "f") (codes "x" ∷ []) (calls (codes "y") (codes "g") (x ∷ []) ∷ return (number 0) ∷ []) ∷ [])
    (spec_of (codes "g") (param (codes "x") Numbers ∷ []) [] ([] ∷ []) ∷ tells_nothing ∷ []) []

-- proc g(x) { return x; } proc f(x) { y := call @g(x); return y; } spec g(x) [] { emp } { (ret = 0) } { (ret = x) }
-- spec f(x) [] { emp } { (ret = 0) }
abbrev pub tells_zero : PureSpec
tells_zero = spec_of (codes "f") (any (codes "x") ∷ []) [] ((equals ret 0 ∷ []) ∷ [])

abbrev pub reads_the_first_post : PureParts
reads_the_first_post =
    parts (proc_of (codes "g") (codes "x" ∷ []) (return x ∷ []) ∷ proc_of (codes "f") (codes "x" ∷ []) (calls (codes "y") (codes "g") (x ∷ []) ∷ return y ∷ []) ∷ [])
    (spec_of (codes "g") (any (codes "x") ∷ []) [] ((equals ret 0 ∷ []) ∷ (pure (same ret x) ∷ []) ∷ []) ∷ tells_zero ∷ []) []

-- proc g(x) { return x; } proc f() { s := usym; y := call @g(s); ifgoto (y = s) 4; return 0; fail 1; } spec g(x) [] { emp } { emp }
-- spec f() [] { emp } { emp }
abbrev pub of_no_argument : PureSpec
of_no_argument = spec_of (codes "f") [] [] ([] ∷ [])

abbrev pub gets_its_symbol_back : PureParts
gets_its_symbol_back =
    parts (proc_of (codes "g") (codes "x" ∷ []) (return x ∷ [])
    ∷ proc_of (codes "f") [] (usym (codes "s") ∷ calls (codes "y") (codes "g") (name (codes "s") ∷ []) ∷ ifgoto (same y (name (codes "s"))) (pos 4) ∷ return (number 0) ∷ fail (number 1) ∷ []) ∷ [])
    (spec_of (codes "g") (any (codes "x") ∷ []) [] ([] ∷ []) ∷ of_no_argument ∷ []) []

-- proc even(n) { ifgoto (n = 0) 4; m := (n - 1); r := call @odd(m); return r; return true; }
-- proc odd(n) { ifgoto (n = 0) 4; m := (n - 1); r := call @even(m); return r; return false; }
-- spec even(n: int) [] { emp } { (ret = true) } spec odd(n: int) [] { emp } { (ret = true) }
abbrev pub parity : List ℕ → List ℕ → PureExpr → PureProc
parity f g at_zero =
    proc_of f (codes "n" ∷ [])
    (ifgoto (same n (number 0)) (pos 4) ∷ assign (codes "m") (binary_of Subtract n (number 1)) ∷ calls (codes "r") g (name (codes "m") ∷ []) ∷ return (name (codes "r")) ∷ return at_zero ∷ [])

abbrev pub tells_true : List ℕ → PureSpec
tells_true f = spec_of f (param (codes "n") Numbers ∷ []) [] ((pure (same ret always) ∷ []) ∷ [])

abbrev pub even_and_odd : PureParts
even_and_odd =
    parts (parity (codes "even") (codes "odd") always ∷ parity (codes "odd") (codes "even") (literal (boolean false)) ∷ [])
    (tells_true (codes "even") ∷ tells_true (codes "odd") ∷ []) []

-- ---- predicates

abbrev pub p_use : PureExpr → PurePredUse
p_use e = record { pred = codes "p"; ins = e ∷ []; outs = [] }

abbrev pub q_use : PureExpr → PureExpr → PureItem
q_use e out = uses (record { pred = codes "q"; ins = e ∷ []; outs = out ∷ [] })

-- pred p(x;) [] CASES
abbrev pub pred_p : List (List PureItem) → PurePredDef
pred_p cases = record { name = codes "p"; ins = any (codes "x") ∷ []; outs = []; logicals = []; cases = cases }

-- proc f(a) { unfold p(a;); return a; } spec f(a) [] { p(a;) } { (ret = 0) } pred p(x;) [] { (x = 0) } { (x = 1) }
abbrev pub gives_zero : PureSpec
gives_zero = spec_of (codes "f") (any (codes "a") ∷ []) (uses (p_use a) ∷ []) ((equals ret 0 ∷ []) ∷ [])

abbrev pub reads_the_first_case : PureParts
reads_the_first_case =
    parts (proc_of (codes "f") (codes "a" ∷ []) (unfold_use (p_use a) ∷ return a ∷ []) ∷ []) (gives_zero ∷ [])
    (pred_p ((equals x 0 ∷ []) ∷ (equals x 1 ∷ []) ∷ []) ∷ [])

-- proc f(a) { return 0; } spec f(a) [] { emp } { p(a;) } pred p(x;) [] { p(x;) }
abbrev pub makes_p : PureSpec
makes_p = spec_of (codes "f") (any (codes "a") ∷ []) [] ((uses (p_use a) ∷ []) ∷ [])

abbrev pub assumes_what_it_shows : PureParts
assumes_what_it_shows = parts (proc_of (codes "f") (codes "a" ∷ []) (return (number 0) ∷ []) ∷ []) (makes_p ∷ []) (pred_p ((uses (p_use x) ∷ []) ∷ []) ∷ [])

-- proc f(x, y) { ifgoto (x = y) 2; return 0; fail 1; } spec f(x, y) [] { p(x;) * p(y;) } { p(x;) * p(y;) } pred p(x;) [] { emp }
abbrev pub of_two : PureSpec
of_two = spec_of (codes "f") (any (codes "x") ∷ any (codes "y") ∷ []) (uses (p_use x) ∷ uses (p_use y) ∷ []) ((uses (p_use x) ∷ uses (p_use y) ∷ []) ∷ [])

abbrev pub two_of_one : PureParts
two_of_one =
    parts (proc_of (codes "f") (codes "x" ∷ codes "y" ∷ []) (ifgoto (same x y) (pos 2) ∷ return (number 0) ∷ fail (number 1) ∷ []) ∷ []) (of_two ∷ []) (pred_p ([] ∷ []) ∷ [])

-- proc f(x) { return 0; } pred q(x; v) [] { (v = 0) } { (v = 1) }, with a specification
abbrev pub with_q : PureSpec → PureParts
with_q s = parts (proc_of (codes "f") (codes "x" ∷ []) (return (number 0) ∷ []) ∷ []) (s ∷ []) (zero_or_one ∷ [])

abbrev pub of_v : PureExpr
of_v = logical (codes "#v")

abbrev pub of_w : PureExpr
of_w = logical (codes "#w")

-- spec f(x) [#v, #w] { q(x; 0) * q(x; 1) } { q(x; #v) * q(x; #w) * (#v = 1) }
abbrev pub wants_the_second_fact : PureSpec
wants_the_second_fact = record (spec_of (codes "f") (any (codes "x") ∷ []) (q_use x (number 0) ∷ q_use x (number 1) ∷ []) ((q_use x of_v ∷ q_use x of_w ∷ equals of_v 1 ∷ []) ∷ [])) {
  logicals = any (codes "#v") ∷ any (codes "#w") ∷ [];
}

-- spec f(x) [#v] { emp } { q(x; #v) * (#v = 1) }
abbrev pub wants_the_second_case : PureSpec
wants_the_second_case = record (spec_of (codes "f") (any (codes "x") ∷ []) [] ((q_use x of_v ∷ equals of_v 1 ∷ []) ∷ [])) { logicals = any (codes "#v") ∷ [] }

-- ---- assertions in bodies

-- proc f() { COMMANDS }, spec f() [] { emp } { emp }
abbrev pub main_of : List PureCommand → PureParts
main_of cs = parts (proc_of (codes "f") [] cs ∷ []) (of_no_argument ∷ []) []

-- proc f() { assert { (1 = 2) }; return 0; }
abbrev pub asserts_the_false : PureParts
asserts_the_false = main_of (assert_that (pure (same (number 1) (number 2)) ∷ []) ∷ return (number 0) ∷ [])

-- proc f() { assert { (y = 1) }; y := 1; return 0; }
abbrev pub asserts_of_no_value : PureParts
asserts_of_no_value = main_of (assert_that (equals y 1 ∷ []) ∷ assign (codes "y") (number 1) ∷ return (number 0) ∷ [])

-- ---- invariants

abbrev pub invariant_of : List (List ℕ) → PureCommand
invariant_of xs = loop_invariant xs [] []

-- proc f() { i := 0; invariant (XS) [] { emp }; ifgoto (i = 1) 5; i := 1; ifgoto true 1; fail 1; }
abbrev pub fails_at_one : List (List ℕ) → PureParts
fails_at_one xs = main_of (assign (codes "i") (number 0) ∷ invariant_of xs ∷ ifgoto (same i (number 1)) (pos 5) ∷ assign (codes "i") (number 1) ∷ ifgoto always (pos 1) ∷ fail (number 1) ∷ [])

-- proc f() { invariant (i) [] { emp }; return i; }
abbrev pub lists_without_value : PureParts
lists_without_value = main_of (invariant_of (codes "i" ∷ []) ∷ return i ∷ [])

-- proc g() { invariant () [] { emp }; return 0; } proc f() { x := call @g(); x := call @g(); fail 1; }
abbrev pub passes_in_two_calls : PureParts
passes_in_two_calls =
    parts (proc_of (codes "g") [] (invariant_of [] ∷ return (number 0) ∷ [])
    ∷ proc_of (codes "f") [] (calls (codes "x") (codes "g") [] ∷ calls (codes "x") (codes "g") [] ∷ fail (number 1) ∷ []) ∷ [])
    (of_no_argument ∷ []) []

-- proc f(n) { i := 0; invariant () [] { emp }; ifgoto not((i < n)) 5; i := (i + 1); ifgoto true 1; return 0; }
-- spec f(n: int) [] { emp } { emp }
abbrev pub of_a_number : PureSpec
of_a_number = spec_of (codes "f") (param (codes "n") Numbers ∷ []) [] ([] ∷ [])

abbrev pub counts_without_listing : PureParts
counts_without_listing =
    parts (proc_of (codes "f") (codes "n" ∷ [])
    (assign (codes "i") (number 0) ∷ invariant_of [] ∷ ifgoto (unary_of Not (binary_of Less i n)) (pos 5) ∷ assign (codes "i") (binary_of Add i (number 1)) ∷ ifgoto always (pos 1) ∷ return (number 0) ∷ []) ∷ [])
    (of_a_number ∷ []) []

-- ---- one cell: a is a location, whose name v is all that the heap holds

-- prop(a, "v"; OUT)
abbrev pub cell_of : PureExpr → PureExpr → PureItem
cell_of l out = uses (record { pred = codes "prop"; ins = l ∷ literal (text (codes "v")) ∷ []; outs = out ∷ [] })

-- proc f(a) { COMMANDS } spec f(a) [] { PRE } { POST } pred p(x;) [] { prop(x, "v"; 1) }
abbrev pub of_cell : List PureItem → List PureItem → PureSpec
of_cell pre post = spec_of (codes "f") (any (codes "a") ∷ []) pre (post ∷ [])

abbrev pub with_cell : PureSpec → List PureCommand → PureParts
with_cell s cs = parts (proc_of (codes "f") (codes "a" ∷ []) cs ∷ []) (s ∷ []) (pred_p ((cell_of x (number 1) ∷ []) ∷ []) ∷ [])

abbrev pub returns_nothing : PureCommand
returns_nothing = return (number 0)

-- spec f(a) [] { prop(a, "v"; 1) } { emp }
abbrev pub loses_the_cell : PureSpec
loses_the_cell = of_cell (cell_of a (number 1) ∷ []) []

-- spec f(a) [] { prop(a, "v"; 1) } { prop(a, "v"; 0) }
abbrev pub tells_another_value : PureSpec
tells_another_value = of_cell (cell_of a (number 1) ∷ []) (cell_of a (number 0) ∷ [])

-- spec f(a) [] { prop(a, "v"; 1) } { p(a;) * prop(a, "v"; 1) }
abbrev pub has_it_twice : List PureItem → PureSpec
has_it_twice pre = of_cell pre (uses (p_use a) ∷ cell_of a (number 1) ∷ [])

-- proc g(a) { vanish; } proc f(a) { x := call @g(a); return 0; } spec g(a) [] { prop(a, "v"; 1) } { emp }
-- spec f(a) [] { prop(a, "v"; 1) } { prop(a, "v"; 1) }
abbrev pub keeps_the_cell : PureSpec
keeps_the_cell = of_cell (cell_of a (number 1) ∷ []) (cell_of a (number 1) ∷ [])

abbrev pub gives_the_cell_away : PureParts
gives_the_cell_away =
    parts (proc_of (codes "g") (codes "a" ∷ []) (vanish ∷ []) ∷ proc_of (codes "f") (codes "a" ∷ []) (calls (codes "x") (codes "g") (a ∷ []) ∷ returns_nothing ∷ []) ∷ [])
    (record loses_the_cell { name = codes "g" } ∷ keeps_the_cell ∷ []) []

-- proc f(a) { fold p(a;); return 0; } and proc f(a) { unfold p(a;); return 0; }, with that specification
abbrev pub folds_it : PureParts
folds_it = with_cell (has_it_twice (cell_of a (number 1) ∷ [])) (fold_use (p_use a) ∷ returns_nothing ∷ [])

abbrev pub unfolds_it : PureParts
unfolds_it = with_cell (has_it_twice (uses (p_use a) ∷ [])) (unfold_use (p_use a) ∷ returns_nothing ∷ [])

-- proc f(a) { fold prop(a, "v"; 1); return 0; }
abbrev pub folds_a_key : PureParts
folds_a_key = with_cell keeps_the_cell (fold_use (record { pred = codes "prop"; ins = a ∷ literal (text (codes "v")) ∷ []; outs = number 1 ∷ [] }) ∷ returns_nothing ∷ [])

-- proc f(a) { b := true; invariant (b) [] { emp }; ifgoto (b = true) 4; return 0; fold p(a;); b := false; ifgoto true 1; return 0; }
abbrev pub b : PureExpr
b = name (codes "b")

abbrev pub folds_in_a_loop : PureParts
folds_in_a_loop =
    with_cell keeps_the_cell
    (assign (codes "b") always ∷ invariant_of (codes "b" ∷ []) ∷ ifgoto (same b always) (pos 4) ∷ returns_nothing ∷ fold_use (p_use a) ∷ assign (codes "b") (literal (boolean false)) ∷ ifgoto always (pos 1) ∷ returns_nothing ∷ [])

-- proc f(a) { return 0; } spec f(a) [] { prop(a, "v"; Null) } { list(a;) } pred list(x;) [#n] { (x = Null) } { prop(x, "v"; #n) * list(#n;) }
abbrev pub null : PureExpr
null = literal (kind Null)

abbrev pub list_use : PureExpr → PureItem
list_use e = uses (record { pred = codes "list"; ins = e ∷ []; outs = [] })

abbrev pub linked_list : PurePredDef
linked_list = record {
  name = codes "list";
  ins = any (codes "x") ∷ [];
  outs = [];
  logicals = any (codes "#n") ∷ [];
  cases = (pure (same x null) ∷ []) ∷ (cell_of x (logical (codes "#n")) ∷ list_use (logical (codes "#n")) ∷ []) ∷ [];
}

abbrev pub sees_a_list : PureSpec
sees_a_list = of_cell (cell_of a null ∷ []) (list_use a ∷ [])

abbrev pub one_cell_is_no_list : PureParts
one_cell_is_no_list = parts (proc_of (codes "f") (codes "a" ∷ []) (returns_nothing ∷ []) ∷ []) (sees_a_list ∷ []) (linked_list ∷ [])

-- ---- programs without a mistake

-- proc f(a) { fail 1; } spec f(a: sym) [] { prop(a, "v"; 1) * prop(a, "v"; 1) } { emp }
abbrev pub one_key_twice : PureSpec
one_key_twice = spec_of (codes "f") (param (codes "a") Symbols ∷ []) (cell_of a (number 1) ∷ cell_of a (number 1) ∷ []) ([] ∷ [])

abbrev pub fails_from_no_heap : PureParts
fails_from_no_heap = parts (proc_of (codes "f") (codes "a" ∷ []) (fail (number 1) ∷ []) ∷ []) (one_key_twice ∷ []) []

-- proc f() { vanish; } spec f() [] { emp } { (1 = 2) }
abbrev pub tells_the_false : PureSpec
tells_the_false = spec_of (codes "f") [] [] ((pure (same (number 1) (number 2)) ∷ []) ∷ [])

abbrev pub vanishes : PureParts
vanishes = parts (proc_of (codes "f") [] (vanish ∷ []) ∷ []) (tells_the_false ∷ []) []

-- spec f(x) [#w] { q(x; 0) * q(x; 1) } { q(x; 1) * q(x; #w) }
abbrev pub knows_the_second_fact : PureSpec
knows_the_second_fact = record (spec_of (codes "f") (any (codes "x") ∷ []) (q_use x (number 0) ∷ q_use x (number 1) ∷ []) ((q_use x (number 1) ∷ q_use x of_w ∷ []) ∷ [])) {
  logicals = any (codes "#w") ∷ [];
}

-- spec f(x) [] { emp } { q(x; 1) }
abbrev pub knows_the_second_case : PureSpec
knows_the_second_case = spec_of (codes "f") (any (codes "x") ∷ []) [] ((q_use x (number 1) ∷ []) ∷ [])

-- proc f(n) { x := call @f(n); return x; } spec f(n) [] { emp } { (ret = 0) }
abbrev pub says_zero : PureSpec
says_zero = spec_of (codes "f") (any (codes "n") ∷ []) [] ((equals ret 0 ∷ []) ∷ [])

abbrev pub asks_itself : PureParts
asks_itself = parts (proc_of (codes "f") (codes "n" ∷ []) (calls (codes "x") (codes "f") (n ∷ []) ∷ return x ∷ []) ∷ []) (says_zero ∷ []) []

abbrev pub HasNone : PureParts → PureSpec → Type 0
HasNone p s = HasNoFault p Record no_memory s

-- ---- more of draws, folds and unfolds

-- proc f() { x := isym bool; ifgoto x 3; return 0; return 1; } spec f() [] { emp } { (ret = 0) }
abbrev pub tells_one_side : PureSpec
tells_one_side = spec_of (codes "f") [] [] ((equals ret 0 ∷ []) ∷ [])

abbrev pub draws_a_side : PureParts
draws_a_side = parts (proc_of (codes "f") [] (isym (codes "x") Boolean ∷ ifgoto x (pos 3) ∷ returns_nothing ∷ return (number 1) ∷ []) ∷ []) (tells_one_side ∷ []) []

-- proc f(a, y) { b := true; invariant (b) [] { emp }; ifgoto (b = true) 4; return 0; unfold p(a;); fold p(a;); b := false; ifgoto true 1; return 0; }
-- spec f(a, y) [] { p(a;) * p(y;) } { p(a;) * p(y;) } pred p(x;) [] { prop(x, "v"; 1) }
abbrev pub of_two_facts : PureSpec
of_two_facts = spec_of (codes "f") (any (codes "a") ∷ any (codes "y") ∷ []) (uses (p_use a) ∷ uses (p_use y) ∷ []) ((uses (p_use a) ∷ uses (p_use y) ∷ []) ∷ [])

abbrev pub moves_a_fact : PureParts
moves_a_fact =
    parts
    (proc_of (codes "f") (codes "a" ∷ codes "y" ∷ [])
    (assign (codes "b") always ∷ invariant_of (codes "b" ∷ []) ∷ ifgoto (same b always) (pos 4) ∷ returns_nothing ∷ unfold_use (p_use a) ∷ fold_use (p_use a) ∷ assign (codes "b") (literal (boolean false))
    ∷ ifgoto always (pos 1) ∷ returns_nothing ∷ []) ∷ [])
    (of_two_facts ∷ []) (pred_p ((cell_of x (number 1) ∷ []) ∷ []) ∷ [])

-- proc f(a, b) { fold p(a; b); return 0; } spec f(a, b) [] { emp } { emp } pred p(x; x) [] { emp }
abbrev pub of_any_two : PureSpec
of_any_two = spec_of (codes "f") (any (codes "a") ∷ any (codes "b") ∷ []) [] ([] ∷ [])

abbrev pub folds_two_of_one_name : PureParts
folds_two_of_one_name =
    parts (proc_of (codes "f") (codes "a" ∷ codes "b" ∷ []) (fold_use (record { pred = codes "p"; ins = a ∷ []; outs = b ∷ [] }) ∷ returns_nothing ∷ []) ∷ []) (of_any_two ∷ [])
    (record { name = codes "p"; ins = any (codes "x") ∷ []; outs = any (codes "x") ∷ []; logicals = []; cases = [] ∷ [] } ∷ [])

-- what the step of a state of f may lead to, where f was entered with these arguments
abbrev pub MayLead : PureParts → PureSpec → List PureValue → Checked → Outcome → Type 0
MayLead p s args c out = Leads p Record no_memory (record { spec = s; args = args; variables = [] }) c out

-- the first state of f with these arguments, heap, facts and counter
abbrev pub first_state : PureParts → List PureValue → Heap → List Fact → ℕ → Checked
first_state p args h facts counter = record { machine = start p (codes "f") args h counter; facts = facts; passed = [] ∷ [] }

-- and the next one, with another heap, other facts and another counter
abbrev pub next_state : PureParts → List PureValue → Heap → List Fact → ℕ → Checked
next_state p args h facts counter = record (first_state p args h facts counter) {
  machine = record (first_state p args h facts counter).machine { current = record (first_state p args h facts counter).machine.current { next = 1 } };
}

abbrev pub p_fact : PureValue → Fact
p_fact v = record { pred = codes "p"; ins = v ∷ []; outs = [] }

-- a heap of one key: the name v of location 0
abbrev pub one_cell : PureValue → Heap
one_cell v = insert empty (key 0 (Name (codes "v"))) v

-- proc f(a) { unfold p(a;); return 0; } spec f(a) [] { p(a;) } { p(a;) } pred p(x;) [#n: sym, #s: sym] { prop(x, "v"; #n) }
abbrev pub of_one_fact : PureSpec
of_one_fact = of_cell (uses (p_use a) ∷ []) (uses (p_use a) ∷ [])

abbrev pub unfolds_a_symbol : PureParts
unfolds_a_symbol =
    parts (proc_of (codes "f") (codes "a" ∷ []) (unfold_use (p_use a) ∷ returns_nothing ∷ []) ∷ []) (of_one_fact ∷ [])
    (record (pred_p ((cell_of x (logical (codes "#n")) ∷ []) ∷ [])) { logicals = param (codes "#n") Symbols ∷ param (codes "#s") Symbols ∷ [] } ∷ [])

-- proc f(a) { fold list(a;); return 0; }, with that list
abbrev pub folds_one_cell : PureParts
folds_one_cell =
    parts (proc_of (codes "f") (codes "a" ∷ []) (fold_use (record { pred = codes "list"; ins = a ∷ []; outs = [] }) ∷ returns_nothing ∷ []) ∷ []) (sees_a_list ∷ []) (linked_list ∷ [])

abbrev pub list_fact : PureValue → Fact
list_fact v = record { pred = codes "list"; ins = v ∷ []; outs = [] }
