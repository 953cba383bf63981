-- Small expressions and programs, for the rows that show what the definitions mean.
use Rattle.std.specs.Prelude.{ℕ, zero, suc, pos, List, [], ◌∷◌, ◌++◌, length, ℤ, Some, None, true, codes}
use Rattle.std.specs.List.{filter}
use Rattle.gil_values.specs.declared.kinds.Kind.TheVariants.{Int}
use Rattle.gil_values.specs.declared.operators.BinOp.TheVariants.{Divide, LessOrEqual}
use Rattle.gil_values.specs.Pure.{integer, boolean, text, procedure}
use Rattle.gil_syntax.specs.declared.assertions.Param.{Param}
use Rattle.gil_syntax.specs.declared.assertions.SpecSort.TheVariants.{Any}
use Rattle.gil_syntax.specs.declared.validity.InvalidKind.{InvalidKind}
use Rattle.gil_syntax.specs.Pure.{PureExpr, literal, name, logical, list_of, binary_of, from_list, PureItem, uses, PureCommand, assign, call, act, isym, ifgoto, return, vanish, PureProc, PureParts}
use Rattle.gil_syntax.specs.Programs.{numbered_from}
use Rattle.gil_syntax.specs.Valid.{items_of, fault_at}

abbrev pub number : ℕ → PureExpr
number n = literal (integer (pos n))

abbrev pub words : List ℕ → PureExpr
words cs = literal (text cs)

abbrev pub x : PureExpr
x = name (codes "x")

abbrev pub list_of_two : PureExpr → PureExpr → PureExpr
list_of_two d e = list_of (from_list (d ∷ e ∷ []))

-- (1 / 0)
abbrev pub one_by_zero : PureExpr
one_by_zero = binary_of Divide (number 1) (number 0)

abbrev pub proc_of : List ℕ → List (List ℕ) → List PureCommand → PureProc
proc_of f params cs = record { name = f; params = params; body = numbered_from 0 cs }

abbrev pub program : List PureProc → PureParts
program qs = record { procs = qs; specs = []; preds = [] }

-- the program whose one procedure `main` has these commands
abbrev pub main_only : List PureCommand → PureParts
main_only cs = program (proc_of (codes "main") [] cs ∷ [])

-- proc main() { return 0; }
abbrev pub returns_zero : PureProc
returns_zero = proc_of (codes "main") [] (return (number 0) ∷ [])

abbrev pub count_to : ℕ → List ℕ
count_to zero = []
count_to (suc n) = count_to n ++ n ∷ []

-- the numbers of the items that have a fault of this kind
abbrev pub items_at_fault : PureParts → InvalidKind → List ℕ
items_at_fault p kind = filter (fault_at p kind) (count_to (length (items_of p)))

-- proc main() { return 0; } proc main() { return 0; }
abbrev pub two_of_one_name : PureParts
two_of_one_name = program (returns_zero ∷ returns_zero ∷ [])

-- proc main() { ifgoto true TARGET; return 0; }
abbrev pub jumps_to : ℕ → PureParts
jumps_to i = main_only (ifgoto (literal (boolean true)) (pos i) ∷ return (number 0) ∷ [])

-- proc main() { x := 0; }
abbrev pub ends_open : PureParts
ends_open = main_only (assign (codes "x") (number 0) ∷ [])

-- proc main() { return 0; } spec F(PARAMETERS) [] {ITEMS} {emp}
abbrev pub with_spec : List ℕ → List Param → List PureItem → PureParts
with_spec f params items =
    record {
      procs = returns_zero ∷ [];
      specs = record { name = f; params = params; logicals = []; pre = items; posts = [] ∷ []; errors = [] } ∷ [];
      preds = [];
    }

abbrev pub any_x : Param
any_x = record { name = codes "x"; sort = Any }

abbrev pub any_y : Param
any_y = record { name = codes "y"; sort = Any }

-- #d, as a declared variable
abbrev pub any_d : Param
any_d = record { name = codes "#d"; sort = Any }

-- proc main() { return 0; } spec main() [LOGICALS] {emp} {ITEMS}
abbrev pub with_post : List Param → List PureItem → PureParts
with_post logicals items =
    record {
      procs = returns_zero ∷ [];
      specs = record { name = codes "main"; params = []; logicals = logicals; pre = []; posts = items ∷ []; errors = [] } ∷ [];
      preds = [];
    }

-- proc main(x, y) { return 0; } spec main(PARAMETERS) [] {emp} {emp}
abbrev pub of_two : List Param → PureParts
of_two params = record {
  procs = proc_of (codes "main") (codes "x" ∷ codes "y" ∷ []) (return (number 0) ∷ []) ∷ [];
  specs = record { name = codes "main"; params = params; logicals = []; pre = []; posts = [] ∷ []; errors = [] } ∷ [];
  preds = [];
}

-- proc main() { return 0; } pred F(INS; OUTS) [] {ITEMS}
abbrev pub with_pred : List ℕ → List Param → List Param → List PureItem → PureParts
with_pred f ins outs items =
    record {
      procs = returns_zero ∷ [];
      specs = [];
      preds = record { name = f; ins = ins; outs = outs; logicals = []; cases = items ∷ [] } ∷ [];
    }

-- proc main() { COMMAND; vanish; }
abbrev pub main_does : PureCommand → PureParts
main_does c = main_only (c ∷ vanish ∷ [])

-- proc main() { COMMAND; return 0; } spec main() [#d: any] {emp} {emp}
abbrev pub with_variable : PureCommand → PureParts
with_variable c = record {
  procs = proc_of (codes "main") [] (c ∷ return (number 0) ∷ []) ∷ [];
  specs = record { name = codes "main"; params = []; logicals = any_d ∷ []; pre = []; posts = [] ∷ []; errors = [] } ∷ [];
  preds = [];
}

abbrev pub empty_procs : ℕ → List PureProc
empty_procs zero = []
empty_procs (suc n) = returns_zero ∷ empty_procs n

abbrev pub many_params : ℕ → List Param
many_params zero = []
many_params (suc n) = any_x ∷ many_params n

-- shape(x;)
abbrev pub shape_without_out : PureItem
shape_without_out = uses (record { pred = codes "shape"; ins = x ∷ []; outs = [] })

-- shape(x; #d)
abbrev pub shape_of_undeclared : PureItem
shape_of_undeclared = uses (record { pred = codes "shape"; ins = x ∷ []; outs = logical (codes "#d") ∷ [] })

-- cell(x, x; x)
abbrev pub a_cell : PureItem
a_cell = uses (record { pred = codes "cell"; ins = x ∷ x ∷ []; outs = x ∷ [] })

-- other(x;)
abbrev pub use_of_other : PureItem
use_of_other = uses (record { pred = codes "other"; ins = x ∷ []; outs = [] })

-- proc main() { return E; }
abbrev pub returns_value : PureExpr → PureParts
returns_value e = main_only (return e ∷ [])

-- proc main() { x := isym int; ifgoto (x <= 9) 2; return x; }
abbrev pub compares_input : PureParts
compares_input = main_only (isym (codes "x") Int ∷ ifgoto (binary_of LessOrEqual x (number 9)) (pos 2) ∷ return x ∷ [])

-- proc main() { x := call CALLEE(); return x; }
abbrev pub calls_nothing : PureExpr → PureParts
calls_nothing callee = main_only (call (codes "x") callee [] None ∷ return x ∷ [])

-- proc main() { x := call @main(ARGUMENT); return x; }
abbrev pub calls_with : PureExpr → PureParts
calls_with e = main_only (call (codes "x") (literal (procedure (codes "main"))) (e ∷ []) None ∷ return x ∷ [])

-- x := call @main() catch LABEL
abbrev pub catches_at : ℤ → PureCommand
catches_at label = call (codes "x") (literal (procedure (codes "main"))) [] (Some label)

-- proc main() { return 0; } spec main() [] {emp} throw {ITEMS}
abbrev pub with_error : List PureItem → PureParts
with_error items =
    record {
      procs = returns_zero ∷ [];
      specs = record { name = codes "main"; params = []; logicals = []; pre = []; posts = []; errors = items ∷ [] } ∷ [];
      preds = [];
    }

-- proc main() { x := do ACTION(ARGUMENT); return x; }
abbrev pub does_action : List ℕ → PureExpr → PureParts
does_action a e = main_only (act (codes "x") a (e ∷ []) ∷ return x ∷ [])
