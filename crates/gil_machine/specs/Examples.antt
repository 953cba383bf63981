-- Small programs, for the rows that show what a run is.
use Rattle.std.specs.FinMap.{empty}
use Rattle.std.specs.Prelude.{ℕ, ◌^◌, pos, negsuc, List, [], ◌∷◌, codes, true, Option, Some, None}
use Rattle.gil_values.specs.declared.kinds.Kind.TheVariants.{Int}
use Rattle.gil_values.specs.declared.operators.UnOp.TheVariants.{Neg}
use Rattle.gil_values.specs.declared.operators.BinOp.TheVariants.{Add, LessOrEqual, Divide, Remainder}
use Rattle.gil_values.specs.declared.places.Place.{Place}
use Rattle.gil_values.specs.Pure.{PureValue, integer, boolean, text, symbol, procedure}
use Rattle.gil_syntax.specs.Pure.{PureExpr, literal, name, list_of, unary_of, binary_of, from_list, assign, call, act, usym, isym, ifgoto, return, fail, throw, vanish, assert_that, PureParts}
use Rattle.gil_syntax.specs.Programs.{numbered_from}
use Rattle.gil_syntax.specs.Examples.{number, words, x, proc_of, program, main_only, one_by_zero, list_of_two}
use Rattle.mem_model.specs.declared.keys.Sub.TheVariants.{Gone}
use Rattle.mem_model.specs.Keys.{key}
use Rattle.mem_model.specs.Pure.{PureOutcome, done, failed, miss}
use Rattle.mem_model.specs.Actions.{Actions, no_memory}
use Rattle.gil_machine.specs.State.{Ending}
use Rattle.gil_machine.specs.Held.{HeldEnd, held_run_of}
use Rattle.gil_machine.specs.Run.{run_of, test_run}

abbrev pub at_most : PureExpr → ℕ → PureExpr
at_most e n = binary_of LessOrEqual e (number n)

abbrev pub in_main : ℕ → Place
in_main n = record { proc = codes "main"; at = n }

abbrev pub ending_of : PureParts → List PureValue → ℕ → Ending
ending_of p inputs n = (test_run p no_memory (codes "main") inputs n).ending

-- proc main() { x := isym int; ifgoto (x <= 9) 5; ifgoto (x <= 10) 4; return 0; fail "ten"; return 0; }
abbrev pub ten_fails : PureParts
ten_fails = main_only (
    isym (codes "x") Int
    ∷ ifgoto (at_most x 9) (pos 5)
    ∷ ifgoto (at_most x 10) (pos 4)
    ∷ return (number 0)
    ∷ fail (words (codes "ten"))
    ∷ return (number 0)
    ∷ [])

-- proc main() { x := isym int; ifgoto (x <= 9) 4; ifgoto (x <= 5) 5; return 0; return 0; fail "no"; return 0; }
abbrev pub never_fails : PureParts
never_fails = main_only (
    isym (codes "x") Int
    ∷ ifgoto (at_most x 9) (pos 4)
    ∷ ifgoto (at_most x 5) (pos 5)
    ∷ return (number 0)
    ∷ return (number 0)
    ∷ fail (words (codes "no"))
    ∷ return (number 0)
    ∷ [])

-- proc main() { fail "no"; }
abbrev pub fails_at_once : PureParts
fails_at_once = main_only (fail (words (codes "no")) ∷ [])

-- proc main() { x := -7; return [neg(x), (x / 2), (x % 2)]; }
abbrev pub divides : PureParts
divides = main_only (
    assign (codes "x") (literal (integer (negsuc 6)))
    ∷ return (list_of (from_list (unary_of Neg x ∷ binary_of Divide x (number 2) ∷ binary_of Remainder x (number 2) ∷ [])))
    ∷ [])

-- proc main() { return (1 / 0); }
abbrev pub divides_by_zero : PureParts
divides_by_zero = main_only (return one_by_zero ∷ [])

-- proc main() { return x; }
abbrev pub reads_unset : PureParts
reads_unset = main_only (return x ∷ [])

-- proc main() { ifgoto 1 0; return 0; }
abbrev pub guard_is_a_number : PureParts
guard_is_a_number = main_only (ifgoto (number 1) (pos 0) ∷ return (number 0) ∷ [])

-- proc main() { ifgoto true 0; return 0; }
abbrev pub runs_for_ever : PureParts
runs_for_ever = main_only (ifgoto (literal (boolean true)) (pos 0) ∷ return (number 0) ∷ [])

abbrev pub callee : List ℕ → PureExpr
callee f = literal (procedure f)

-- proc main() { x := call CALLED(ARGUMENTS); return x; } proc half(x) { return (x / 2); }
abbrev pub calls : PureExpr → List PureExpr → PureParts
calls called args = program (
    proc_of (codes "main") [] (call (codes "x") called args None ∷ return x ∷ [])
    ∷ proc_of (codes "half") (codes "x" ∷ []) (return (binary_of Divide x (number 2)) ∷ [])
    ∷ [])

abbrev pub half : PureExpr
half = callee (codes "half")

abbrev pub caught : PureExpr
caught = callee (codes "caught")

-- proc main() { x := call @F() catch 2; return 0; return x; } proc caught() { throw 7; }
-- proc passed() { x := call @caught(); return 0; } proc failing() { fail "no"; } proc unset() { throw x; } proc one(x) { throw x; }
abbrev pub catches : List ℕ → PureParts
catches f = program (
    proc_of (codes "main") [] (call (codes "x") (callee f) [] (Some (pos 2)) ∷ return (number 0) ∷ return x ∷ [])
    ∷ proc_of (codes "caught") [] (throw (number 7) ∷ [])
    ∷ proc_of (codes "passed") [] (call (codes "x") caught [] None ∷ return (number 0) ∷ [])
    ∷ proc_of (codes "failing") [] (fail (words (codes "no")) ∷ [])
    ∷ proc_of (codes "unset") [] (throw x ∷ [])
    ∷ proc_of (codes "one") (codes "x" ∷ []) (throw x ∷ [])
    ∷ [])

-- proc main() { x := call @caught(); return 0; } proc caught() { throw 7; }
abbrev pub catches_nothing : PureParts
catches_nothing = program (
    proc_of (codes "main") [] (call (codes "x") caught [] None ∷ return (number 0) ∷ [])
    ∷ proc_of (codes "caught") [] (throw (number 7) ∷ [])
    ∷ [])

-- proc main() { x := call @caught() catch 1; return x; } proc caught() { x := call @inner() catch 1; throw 8; } proc inner() { throw 7; }
abbrev pub throws_again : PureParts
throws_again = program (
    proc_of (codes "main") [] (call (codes "x") caught [] (Some (pos 1)) ∷ return x ∷ [])
    ∷ proc_of (codes "caught") [] (call (codes "x") (callee (codes "inner")) [] (Some (pos 1)) ∷ throw (number 8) ∷ [])
    ∷ proc_of (codes "inner") [] (throw (number 7) ∷ [])
    ∷ [])

-- proc main() { throw 7; }
abbrev pub throws_at_once : PureParts
throws_at_once = main_only (throw (number 7) ∷ [])

-- the raw end of a run
abbrev pub raw_ending_of : PureParts → ℕ → Ending
raw_ending_of p n = (run_of p no_memory (codes "main") [] empty 0 [] n).ending

-- proc main() { x := do lookup(); return x; }
abbrev pub looks_up : PureParts
looks_up = main_only (act (codes "x") (codes "lookup") [] ∷ return x ∷ [])

-- a memory whose every action misses a key
abbrev pub missing_memory : Actions
missing_memory = record { takes_symbol = λ _. true; act = λ _ _ _ h. record { outcome = miss (key 0 Gone); heap = h } }

-- a memory whose every action takes a new symbol and gives it
abbrev pub given_symbol : Option ℕ → PureOutcome
given_symbol (Some n) = done (symbol n)
given_symbol None = failed (text (codes "action"))

abbrev pub symbol_memory : Actions
symbol_memory = record { takes_symbol = λ _. true; act = λ _ fresh _ h. record { outcome = given_symbol fresh; heap = h } }

abbrev pub y : PureExpr
y = name (codes "y")

-- proc main() { x := usym; y := do new(); return [x, y]; }
abbrev pub takes_two_symbols : PureParts
takes_two_symbols = main_only (
    usym (codes "x")
    ∷ act (codes "y") (codes "new") []
    ∷ return (list_of_two x y)
    ∷ [])

-- proc main() { x := isym int; y := isym int; return [x, y]; }
abbrev pub draws_two : PureParts
draws_two = main_only (isym (codes "x") Int ∷ isym (codes "y") Int ∷ return (list_of_two x y) ∷ [])

-- proc main() { fail "no"; }, where the command has the number 40
abbrev pub fails_at_forty : PureParts
fails_at_forty = program (record { name = codes "main"; params = []; body = numbered_from 40 (fail (words (codes "no")) ∷ []) } ∷ [])

abbrev pub third : PureExpr
third = callee (codes "third")

-- proc main() { assert {emp}; vanish; }
abbrev pub vanishes : PureParts
vanishes = main_only (assert_that [] ∷ vanish ∷ [])

-- proc main() { x := 0; }
abbrev pub runs_past_its_end : PureParts
runs_past_its_end = main_only (assign (codes "x") (number 0) ∷ [])

-- (E + F)
abbrev pub sum : PureExpr → PureExpr → PureExpr
sum e f = binary_of Add e f

-- (N + N), which leaves 128 bits
abbrev pub too_large : PureExpr
too_large = sum (number (2 ^ 126)) (number (2 ^ 126))

-- proc main() { x := 0; return E; }
abbrev pub returns_late : PureExpr → PureParts
returns_late e = main_only (assign (codes "x") (number 0) ∷ return e ∷ [])

-- the end of such a program in 128 bits
abbrev pub held_ending_of : PureParts → ℕ → HeldEnd
held_ending_of p n = held_run_of p no_memory (codes "main") [] empty 0 [] n
