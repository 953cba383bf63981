-- Simple and narrow programs: those whose branches the solver decides always, and those whose memory asks nothing of
-- numbers. A command is of simple form where its values, guards, callees and sizes are as below. Logic commands, which
-- do nothing in a run, are of simple form.
use Rattle.std.specs.Prelude.{ℕ, List, Bool, true, false, not, ◌&&◌, ◌||◌, if◌then◌else◌, codes}
use Rattle.std.specs.List.{list_any, list_all}
use Rattle.std.specs.Str.{bytes_eq}
use Rattle.gil_values.specs.declared.operators.UnOp.TheVariants.{Not}
use Rattle.gil_values.specs.declared.operators.BinOp.{BinOp}
use Rattle.gil_values.specs.declared.operators.BinOp.TheVariants.{Add, Subtract, Equal, Less, LessOrEqual, Nth}
use Rattle.gil_values.specs.Pure.{boolean}
use Rattle.gil_syntax.specs.Pure.{PureExpr, literal, name, list_of, unary_of, binary_of, PureExprs, no_exprs, expr_and, to_list, PureCommand, assign, call, act, usym, isym, ifgoto, return, fail, throw, vanish, fold_use, unfold_use, assert_that, loop_invariant, PureParts}
use Rattle.gil_syntax.specs.Subexpressions.{subexpressions, exprs_of}

abbrev pub is_literal : PureExpr → Bool
is_literal (literal v) = true
is_literal _ = false

-- plus or minus, of a variable and a literal
abbrev pub shifts : BinOp → Bool
shifts Add = true
shifts Subtract = true
shifts _ = false

abbrev pub is_shift : BinOp → PureExpr → PureExpr → Bool
is_shift op (name x) (literal v) = shifts op
is_shift op _ _ = false

-- a literal, a variable, a variable plus or minus a literal, or a list of such
abbrev mutual
  pub is_plain_value : PureExpr → Bool
  is_plain_value (literal v) = true
  is_plain_value (name x) = true
  is_plain_value (binary_of op d e) = is_shift op d e
  is_plain_value (list_of es) = are_plain_values es
  is_plain_value _ = false

  pub are_plain_values : PureExprs → Bool
  are_plain_values no_exprs = true
  are_plain_values (expr_and e es) = is_plain_value e && are_plain_values es

-- `nth` of a variable at a literal place
abbrev pub is_element_at : BinOp → PureExpr → PureExpr → Bool
is_element_at Nth (name x) (literal v) = true
is_element_at op _ _ = false

abbrev pub is_simple_value : PureExpr → Bool
is_simple_value (binary_of Nth d e) = is_element_at Nth d e
is_simple_value e = is_plain_value e

-- the operators that a guard may compare by
abbrev pub compares : BinOp → Bool
compares Equal = true
compares Less = true
compares LessOrEqual = true
compares _ = false

-- true, a variable, or `=`, `<` or `<=` of two simple values
abbrev pub is_bare_guard : PureExpr → Bool
is_bare_guard (literal (boolean true)) = true
is_bare_guard (name x) = true
is_bare_guard (binary_of op d e) = compares op && is_simple_value d && is_simple_value e
is_bare_guard _ = false

-- such a guard, perhaps under `not`
abbrev pub is_simple_guard : PureExpr → Bool
is_simple_guard (unary_of Not e) = is_bare_guard e
is_simple_guard e = is_bare_guard e

-- simple values, and for `alloc`, whose argument is the size of a block, literals
abbrev pub has_simple_arguments : List ℕ → List PureExpr → Bool
has_simple_arguments a es = list_all (λ e. is_literal e || not (bytes_eq a (codes "alloc"))) es && list_all is_simple_value es

-- a command of simple form
abbrev pub is_simple_command : PureCommand → Bool
is_simple_command (assign x e) = is_simple_value e
is_simple_command (call x e es handler) = is_literal e && list_all is_simple_value es
is_simple_command (act x a es) = has_simple_arguments a es
is_simple_command (usym x) = true
is_simple_command (isym x k) = true
is_simple_command (ifgoto e i) = is_simple_guard e
is_simple_command (return e) = is_simple_value e
is_simple_command (fail e) = is_simple_value e
is_simple_command (throw e) = is_simple_value e
is_simple_command vanish = true
is_simple_command (fold_use u) = true
is_simple_command (unfold_use u) = true
is_simple_command (assert_that items) = true
is_simple_command (loop_invariant xs ps items) = true

abbrev pub all_commands : (PureCommand → Bool) → PureParts → Bool
all_commands test p = list_all (λ q. list_all (λ c. test c.command) q.body) p.procs

abbrev pub is_simple : PureParts → Bool
is_simple p = all_commands is_simple_command p

-- Narrow programs: no command computes with numbers or lists, compares by order, or disposes of a record. The argument
-- of `new` is a list of literals.
abbrev pub has_arithmetic : PureExpr → Bool
has_arithmetic (binary_of Add d e) = true
has_arithmetic (binary_of Subtract d e) = true
has_arithmetic (binary_of Nth d e) = true
has_arithmetic (binary_of Less d e) = true
has_arithmetic (binary_of LessOrEqual d e) = true
has_arithmetic _ = false

abbrev pub is_list : PureExpr → Bool
is_list (list_of es) = true
is_list _ = false

abbrev pub has_any : (PureExpr → Bool) → List PureExpr → Bool
has_any test es = list_any (λ e. list_any test (subexpressions e)) es

abbrev pub is_list_of_literals : PureExpr → Bool
is_list_of_literals (list_of es) = list_all is_literal (to_list es)
is_list_of_literals _ = false

abbrev pub has_no_list : PureCommand → Bool
has_no_list c = not (has_any is_list (exprs_of c))

abbrev pub has_narrow_lists : PureCommand → Bool
has_narrow_lists (act x a es) = if bytes_eq a (codes "new") then list_all is_list_of_literals es else not (has_any is_list es)
has_narrow_lists (assign x e) = has_no_list (assign x e)
has_narrow_lists (call x e es handler) = has_no_list (call x e es handler)
has_narrow_lists (usym x) = has_no_list (usym x)
has_narrow_lists (isym x k) = has_no_list (isym x k)
has_narrow_lists (ifgoto e i) = has_no_list (ifgoto e i)
has_narrow_lists (return e) = has_no_list (return e)
has_narrow_lists (fail e) = has_no_list (fail e)
has_narrow_lists (throw e) = has_no_list (throw e)
has_narrow_lists vanish = has_no_list vanish
has_narrow_lists (fold_use u) = has_no_list (fold_use u)
has_narrow_lists (unfold_use u) = has_no_list (unfold_use u)
has_narrow_lists (assert_that items) = has_no_list (assert_that items)
has_narrow_lists (loop_invariant xs ps items) = has_no_list (loop_invariant xs ps items)

abbrev pub disposes : PureCommand → Bool
disposes (act x a es) = bytes_eq a (codes "dispose")
disposes (assign x e) = false
disposes (call x e es handler) = false
disposes (usym x) = false
disposes (isym x k) = false
disposes (ifgoto e i) = false
disposes (return e) = false
disposes (fail e) = false
disposes (throw e) = false
disposes vanish = false
disposes (fold_use u) = false
disposes (unfold_use u) = false
disposes (assert_that items) = false
disposes (loop_invariant xs ps items) = false

-- a command of narrow form
abbrev pub is_narrow_command : PureCommand → Bool
is_narrow_command c = is_simple_command c && not (has_any has_arithmetic (exprs_of c)) && has_narrow_lists c && not (disposes c)

abbrev pub is_narrow : PureParts → Bool
is_narrow p = all_commands is_narrow_command p
