-- The GIL program that a program of the object language is compiled to. Expressions are done from left to right into operands, from the
-- first temporary on in each statement.
use Rattle.std.specs.Prelude.{ℕ, ◌+◌, pos, List, [], ◌∷◌, ◌++◌, Bool, true, false, Option, Some, None, codes}
use Rattle.gil_syntax.specs.Pure.{PureExpr, name, assign, call, act, isym, fail, throw, PureNumberedCommand, PureProc, PureParts}
use Rattle.source_language.specs.Code.{truth, jump}
use Rattle.source_language.specs.Names.{temporary, caught}
use Rattle.source_language.specs.Procedures.{placed}
use Rattle.source_operators.specs.Codes.{uses, result, code, all_uses, results, all_code}
use Rattle.source_statements.specs.Codes.{Codes}
use Rattle.source_statements.specs.Compiled as statements
use Rattle.object_operators.specs.Codes.{codes_of_operators}
use Rattle.object_operators.specs.Library.{get_proc}
use Rattle.object_operators.specs.Pure.{PureExpression}
use Rattle.object_lang.specs.Pure as tree
use Rattle.object_lang.specs.Pure.{PureSimple, PureFunction, PureSource}
use Rattle.object_lang.specs.Resolved.{resolved}

abbrev pub expression_uses : PureExpression → ℕ
expression_uses e = uses codes_of_operators e

abbrev pub expressions_uses : List PureExpression → ℕ
expressions_uses es = all_uses codes_of_operators es

abbrev pub simple_uses : PureSimple → ℕ
simple_uses (tree.assign x e) = expression_uses e
simple_uses (tree.input x k) = 0
simple_uses (tree.create x e) = expressions_uses (e ∷ [])
simple_uses (tree.proto x e) = expressions_uses (e ∷ [])
simple_uses (tree.has x a b) = expressions_uses (a ∷ b ∷ [])
simple_uses (tree.call x f es) = expressions_uses (f ∷ es)
simple_uses (tree.set a b c) = expressions_uses (a ∷ b ∷ c ∷ []) + 1
simple_uses (tree.delete a b) = expressions_uses (a ∷ b ∷ []) + 1
simple_uses (tree.set_proto a b) = expressions_uses (a ∷ b ∷ []) + 1
simple_uses (tree.fail e) = expression_uses e
simple_uses (tree.throw e) = expression_uses e

-- calls of the source and throws
abbrev pub may_throw : PureSimple → Bool
may_throw (tree.call x f es) = true
may_throw (tree.throw e) = true
may_throw _ = false

-- The call of a value, of which the arguments are the others. Where throws are handled at a label, the variable of thrown values gets the
-- result or what is thrown.
abbrev pub call_code : Option ℕ → ℕ → List ℕ → List PureExpr → List PureNumberedCommand
call_code h at x [] = []
call_code None at x (e ∷ es) = placed at (call x e es None) ∷ []
call_code (Some label) at x (e ∷ es) = placed at (call caught e es (Some (pos label))) ∷ placed at (assign x (name caught)) ∷ []

-- a throw leaves the procedure, or leads to the handler
abbrev pub throw_code : Option ℕ → ℕ → PureExpr → List PureNumberedCommand
throw_code None at e = placed at (throw e) ∷ []
throw_code (Some label) at e = placed at (assign caught e) ∷ jump at truth label ∷ []

-- the commands of a statement without statements in it, from a place on
module _ (pc at : ℕ) where
  abbrev pub first_code : PureExpression → List PureNumberedCommand
  first_code e = code codes_of_operators e pc at 0

  abbrev pub first_codes : List PureExpression → List PureNumberedCommand
  first_codes es = all_code codes_of_operators es pc at 0

  -- an action on the values of expressions, whose value a variable gets
  abbrev pub action_code : List ℕ → List ℕ → List PureExpression → List PureNumberedCommand
  action_code x action es = first_codes es ++ placed at (act x action (results codes_of_operators es 0)) ∷ []

  -- the same, where a temporary gets it
  abbrev pub change_code : List ℕ → List PureExpression → List PureNumberedCommand
  change_code action es = action_code (temporary (expressions_uses es)) action es

  abbrev pub simple_code : Option ℕ → PureSimple → List PureNumberedCommand
  simple_code h (tree.assign x e) = first_code e ++ placed at (assign x (result codes_of_operators e 0)) ∷ []
  simple_code h (tree.input x k) = placed at (isym x k) ∷ []
  simple_code h (tree.create x e) = action_code x (codes "new") (e ∷ [])
  simple_code h (tree.proto x e) = action_code x (codes "getproto") (e ∷ [])
  simple_code h (tree.has x a b) = action_code x (codes "has") (a ∷ b ∷ [])
  simple_code h (tree.call x f es) = first_codes (f ∷ es) ++ call_code h at x (results codes_of_operators (f ∷ es) 0)
  simple_code h (tree.set a b c) = change_code (codes "set") (a ∷ b ∷ c ∷ [])
  simple_code h (tree.delete a b) = change_code (codes "delete") (a ∷ b ∷ [])
  simple_code h (tree.set_proto a b) = change_code (codes "setproto") (a ∷ b ∷ [])
  simple_code h (tree.fail e) = first_code e ++ placed at (fail (result codes_of_operators e 0)) ∷ []
  simple_code h (tree.throw e) = first_code e ++ throw_code h at (result codes_of_operators e 0)

-- the jump of a condition is taken where it is true
abbrev pub object_codes : Codes PureExpression PureSimple
object_codes = record {
  uses = expression_uses;
  front = λ e pc at. code codes_of_operators e pc at 0;
  operand = λ e. result codes_of_operators e 0;
  jumps = λ e. e ∷ [];
  where_true = true;
  simple_uses = simple_uses;
  may_throw = may_throw;
  simple_code = λ h pc at c. simple_code pc at h c;
}

-- the procedure of a function in which names of functions are procedures
abbrev pub compiled_function : PureFunction → PureProc
compiled_function f = statements.compiled_function object_codes f

abbrev pub compiled_functions : PureSource → PureParts
compiled_functions source = statements.compiled object_codes (resolved source)

-- the program with the procedure that reads properties, the last one
abbrev pub compiled : PureSource → PureParts
compiled source = record (compiled_functions source) { procs = (compiled_functions source).procs ++ get_proc ∷ [] }
