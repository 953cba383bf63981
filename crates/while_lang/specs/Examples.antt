-- Small programs, for the rows that show what a program does.
use Rattle.std.specs.FinMap.{empty}
use Rattle.std.specs.Prelude.{◌≡◌, Some, ℕ, pos, List, [], ◌∷◌, codes, true, Option, None}
use Rattle.std.specs.Option.{option_map}
use Rattle.gil_values.specs.declared.kinds.Kind.TheVariants.{Int}
use Rattle.gil_values.specs.declared.operators.BinOp.TheVariants.{Add, Subtract, Divide, LessOrEqual}
use Rattle.gil_values.specs.declared.places.Place.{Place}
use Rattle.gil_values.specs.Pure.{PureValue, integer, boolean, text}
use Rattle.gil_syntax.specs.Pure.{PureExpr, literal, name, binary_of}
use Rattle.record_heap.specs.Table.{record_actions}
use Rattle.gil_machine.specs.State.{Ending, failed}
use Rattle.while_lang.specs.Pure.{PureField, PureStatement, assign, input, new, call, if_else, while, return, PureBlock, no_statements, statement_and, PureFunction, PureSource}
use Rattle.while_lang.specs.Meaning.{source_end}

abbrev pub number : ℕ → PureExpr
number n = literal (integer (pos n))

abbrev pub field : List ℕ → PureExpr → PureField
field p e = record { name = p; value = e }

abbrev pub function : List ℕ → List (List ℕ) → PureBlock → PureFunction
function f params body = record { name = f; params = params; body = body; at = 0 }

abbrev pub program : List PureFunction → PureSource
program functions = record { functions = functions; specs = []; preds = [] }

abbrev pub main_only : PureBlock → PureSource
main_only body = program (function (codes "main") [] body ∷ [])

abbrev pub in_main : ℕ → Place
in_main n = record { proc = codes "main"; at = n }

-- how a program ends from `main`, where loops turn and calls nest at most n times
abbrev pub ending_of : PureSource → List PureValue → ℕ → Option Ending
ending_of source inputs n = option_map (λ e. e.ending) (source_end source record_actions (codes "main") [] empty 0 inputs n)

abbrev pub a : PureExpr
a = name (codes "a")

abbrev pub x : PureExpr
x = name (codes "x")

-- a = new {v: (1 / 0), w: (1 + true)}; return 0;
abbrev pub two_faults : PureSource
two_faults = main_only (
    statement_and 14 (new (codes "a") (field (codes "v") (binary_of Divide (number 1) (number 0)) ∷ field (codes "w")
    (binary_of Add (number 1) (literal (boolean true))) ∷ []))
    (statement_and 50 (return (number 0)) no_statements))

-- a = new {v: 1, v: 2};
abbrev pub names_field_twice : PureSource
names_field_twice = main_only (statement_and 14 (new (codes "a") (field (codes "v") (number 1) ∷ field (codes "v")
    (number 2) ∷ [])) no_statements)

-- x = 3; a = 0; while ((1 <= x)) { a = (a + x); x = (x - 1); } return a;
abbrev pub adds_up : PureSource
adds_up = main_only (
    statement_and 14 (assign (codes "x") (number 3))
    (statement_and 20 (assign (codes "a") (number 0))
    (statement_and 27 (while (binary_of LessOrEqual (number 1) x) None
    (statement_and 50 (assign (codes "a") (binary_of Add a x))
    (statement_and 63 (assign (codes "x") (binary_of Subtract x (number 1))) no_statements)))
    (statement_and 80 (return a) no_statements))))

-- func main() { x = input int; a = half(x); return a; } func half(n) { if ((n <= 1)) { return n; } else { n = 7; } }
abbrev pub calls_half : PureSource
calls_half = program (
    function (codes "main") [] (
    statement_and 14 (input (codes "x") Int)
    (statement_and 30 (call (codes "a") (codes "half") (x ∷ []))
    (statement_and 45 (return a) no_statements)))
    ∷ function (codes "half") (codes "n" ∷ []) (
    statement_and 80 (if_else (binary_of LessOrEqual (name (codes "n")) (number 1))
    (statement_and 100 (return (name (codes "n"))) no_statements)
    (statement_and 120 (assign (codes "n") (number 7)) no_statements)) no_statements)
    ∷ [])

-- the statement, and then `return 0;`
abbrev pub does : PureStatement → PureSource
does c = main_only (statement_and 14 c (statement_and 90 (return (number 0)) no_statements))

-- the program fails with a text at the first statement
abbrev pub Fails : PureStatement → List ℕ → Type 0
Fails c cs = ending_of (does c) [] 1 ≡ Some (failed (text cs) (in_main 14))
