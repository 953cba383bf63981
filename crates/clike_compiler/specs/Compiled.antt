-- The GIL program that a C-like program is compiled to. Expressions are done from left to right into operands, from the first temporary on
-- in each statement.
use Rattle.std.specs.Prelude.{ℕ, ◌+◌, List, [], ◌∷◌, ◌++◌, length, false, Option, Some, None, codes}
use Rattle.gil_values.specs.declared.kinds.Kind.TheVariants.{Int}
use Rattle.gil_values.specs.declared.operators.BinOp.TheVariants.{Equal}
use Rattle.gil_values.specs.Pure.{procedure}
use Rattle.gil_syntax.specs.Pure.{PureExpr, literal, name, binary_of, assign, call, act, isym, PureNumberedCommand, PureProc, PureParts}
use Rattle.source_language.specs.Code.{jump}
use Rattle.source_language.specs.Names.{temporary}
use Rattle.source_language.specs.Procedures.{null, placed}
use Rattle.source_operators.specs.Codes.{uses, result, code, all_uses, results, all_code}
use Rattle.source_statements.specs.Codes.{Codes}
use Rattle.source_statements.specs.Compiled as statements
use Rattle.clike_operators.specs.declared.pieces.Beyond.TheVariants.{Vanishes}
use Rattle.clike_operators.specs.Codes.{codes_of_operators, number_literal, range_code, cell_code, address_expr}
use Rattle.clike_operators.specs.Pure.{PureExpression}
use Rattle.clike_lang.specs.Pure as clike
use Rattle.clike_lang.specs.Pure.{PureSimple, PureFunction, PureSource}

-- what is true of an operand that is false
abbrev pub false_conditions : PureExpr → List PureExpr
false_conditions e = binary_of Equal e (number_literal 0) ∷ binary_of Equal e null ∷ []

abbrev pub expression_uses : PureExpression → ℕ
expression_uses e = uses codes_of_operators e

abbrev pub simple_uses : PureSimple → ℕ
simple_uses (clike.assign x e) = expression_uses e
simple_uses (clike.input x) = 1
simple_uses (clike.malloc x e) = expression_uses e
simple_uses (clike.call (Some x) f es) = all_uses codes_of_operators es
simple_uses (clike.call None f es) = all_uses codes_of_operators es + 1
simple_uses (clike.free e) = expression_uses e + 1
simple_uses (clike.store a b c) = expression_uses a + expression_uses b + expression_uses c + 3

-- the variable of a call, or a temporary
abbrev pub target : Option (List ℕ) → ℕ → List ℕ
target (Some x) i = x
target None i = temporary i

-- NULL is passed
abbrev pub free_code : ℕ → ℕ → ℕ → PureExpr → List PureNumberedCommand
free_code pc at i e = jump at (binary_of Equal e null) (pc + 1 + 1) ∷ placed at (act (temporary i) (codes "free") (e ∷ [])) ∷ []

-- the cell e places behind the pointer d gets a value
abbrev pub store_code : ℕ → ℕ → ℕ → PureExpr → PureExpr → PureExpr → List PureNumberedCommand
store_code pc at i d e v =
    cell_code pc at i d e ++ placed at (act (temporary (i + 2)) (codes "store") (address_expr i ∷ v ∷ [])) ∷ []

abbrev pub input_code : ℕ → ℕ → List ℕ → List PureNumberedCommand
input_code pc at x =
    placed at (isym (temporary 0) Int)
    ∷ (range_code (pc + 1) at (name (temporary 0)) Vanishes ++ placed at (assign x (name (temporary 0))) ∷ [])

-- an expression, and the cell that its value is stored in
abbrev pub stored_code : ℕ → ℕ → ℕ → PureExpr → PureExpr → PureExpression → List PureNumberedCommand
stored_code pc at i d e c =
    code codes_of_operators c pc at i
    ++ store_code (pc + length (code codes_of_operators c pc at i)) at (i + expression_uses c) d e (result codes_of_operators c i)

-- the offset of the cell, and then this
abbrev pub indexed_code : ℕ → ℕ → ℕ → PureExpr → PureExpression → PureExpression → List PureNumberedCommand
indexed_code pc at i d b c =
    code codes_of_operators b pc at i
    ++ stored_code (pc + length (code codes_of_operators b pc at i)) at (i + expression_uses b) d (result codes_of_operators b i) c

-- the commands of a statement without statements in it, from a place on
module _ (pc at : ℕ) where
  abbrev pub first_code : PureExpression → List PureNumberedCommand
  first_code a = code codes_of_operators a pc at 0

  abbrev pub simple_code : PureSimple → List PureNumberedCommand
  simple_code (clike.assign x e) = first_code e ++ placed at (assign x (result codes_of_operators e 0)) ∷ []
  simple_code (clike.input x) = input_code pc at x
  simple_code (clike.malloc x e) = first_code e ++ placed at (act x (codes "alloc") (result codes_of_operators e 0 ∷ [])) ∷ []
  simple_code (clike.call x f es) =
      all_code codes_of_operators es pc at 0
      ++ placed at (call (target x (all_uses codes_of_operators es)) (literal (procedure f)) (results codes_of_operators es 0) None) ∷ []
  simple_code (clike.free e) =
      first_code e ++ free_code (pc + length (first_code e)) at (expression_uses e) (result codes_of_operators e 0)
  simple_code (clike.store a b c) =
      first_code a ++ indexed_code (pc + length (first_code a)) at (expression_uses a) (result codes_of_operators a 0) b c

-- the jumps of a condition are taken where it is false; no statement has a handler
abbrev pub clike_codes : Codes PureExpression PureSimple
clike_codes = record {
  uses = expression_uses;
  front = λ e pc at. code codes_of_operators e pc at 0;
  operand = λ e. result codes_of_operators e 0;
  jumps = false_conditions;
  where_true = false;
  simple_uses = simple_uses;
  may_throw = λ x. false;
  simple_code = λ handler pc at x. simple_code pc at x;
}

abbrev pub compiled_function : PureFunction → PureProc
compiled_function f = statements.compiled_function clike_codes f

abbrev pub compiled : PureSource → PureParts
compiled source = statements.compiled clike_codes source
