-- Printed commands.
use Rattle.std.specs.Prelude.{ℕ, ℤ, List, [], ◌++◌, Option, Some, None, codes}
use Rattle.std.specs.List.{join_by}
use Rattle.gil_values.specs.declared.kinds.Kind.{Kind}
use Rattle.gil_values.specs.declared.kinds.Kind.TheVariants.{Int, Bool as Boolean, Str}
use Rattle.gil_values.specs.Printed.{signed_numeral, kind_name}
use Rattle.gil_syntax.specs.Pure.{PureCommand, assign, call, act, usym, isym, ifgoto, return, fail, throw, vanish, fold_use, unfold_use, assert_that, loop_invariant}
use Rattle.syntax_print.specs.Assertions.{printed_variables, printed_use, printed_block}
use Rattle.syntax_print.specs.Expressions.{printed_expr, printed_exprs}

-- the kind of an input as a sort; other kinds are no kinds of inputs
abbrev pub input_name : Kind → List ℕ
input_name Int = codes "int"
input_name Boolean = codes "bool"
input_name Str = codes "str"
input_name k = kind_name k

-- names, with commas between them
abbrev pub printed_names : List (List ℕ) → List ℕ
printed_names xs = join_by (λ x. x) (codes ", ") xs

-- what stands behind the bracket of a call: ` catch label`, or nothing
abbrev pub printed_handler : Option ℤ → List ℕ
printed_handler None = []
printed_handler (Some label) = codes " catch " ++ signed_numeral label

-- a command, without its `;`
abbrev pub printed_command : PureCommand → List ℕ
printed_command (assign x e) = x ++ codes " := " ++ printed_expr e
printed_command (call x e es handler) =
    x ++ codes " := call " ++ printed_expr e ++ codes "(" ++ printed_exprs es ++ codes ")" ++ printed_handler handler
printed_command (act x action es) = x ++ codes " := do " ++ action ++ codes "(" ++ printed_exprs es ++ codes ")"
printed_command (usym x) = x ++ codes " := usym"
printed_command (isym x k) = x ++ codes " := isym " ++ input_name k
printed_command (ifgoto e i) = codes "ifgoto " ++ printed_expr e ++ codes " " ++ signed_numeral i
printed_command (return e) = codes "return " ++ printed_expr e
printed_command (fail e) = codes "fail " ++ printed_expr e
printed_command (throw e) = codes "throw " ++ printed_expr e
printed_command vanish = codes "vanish"
printed_command (fold_use u) = codes "fold " ++ printed_use u
printed_command (unfold_use u) = codes "unfold " ++ printed_use u
printed_command (assert_that items) = codes "assert " ++ printed_block items
printed_command (loop_invariant xs ps items) =
    codes "invariant (" ++ printed_names xs ++ codes ") " ++ printed_variables ps ++ codes " " ++ printed_block items
