-- What the operators of C-like expressions come to, at a place. An operand that is a variable is read when an operator is applied to it.
use Rattle.std.specs.Prelude.{[], ◌∷◌, None, if◌then◌else◌, codes}
use Rattle.gil_values.specs.declared.kinds.Kind.TheVariants.{Null}
use Rattle.gil_values.specs.declared.operators.BinOp.{BinOp}
use Rattle.gil_values.specs.declared.operators.BinOp.TheVariants as gil
use Rattle.gil_values.specs.declared.operators.UnOp.TheVariants as unary
use Rattle.gil_values.specs.declared.places.Place.{Place}
use Rattle.gil_values.specs.Equality.{same_value}
use Rattle.gil_values.specs.Operators.{binary}
use Rattle.gil_values.specs.Pure.{PureValue, text, kind, list, from_list}
use Rattle.gil_syntax.specs.Pure.{PureExpr, unary_of, binary_of}
use Rattle.gil_syntax.specs.Evaluation.{evaluate}
use Rattle.mem_model.specs.Actions.{Actions}
use Rattle.source_language.specs.Completions.{Situation, Completion, fails, with_value, choose, after_action}
use Rattle.source_operators.specs.declared.trees.Connective.{Connective}
use Rattle.source_operators.specs.declared.trees.Connective.TheVariants as connectives
use Rattle.source_operators.specs.declared.trees.Operator.{Operator}
use Rattle.source_operators.specs.declared.trees.Operator.TheVariants.{Equal, Unequal, Less, LessOrEqual, Greater, GreaterOrEqual, Add, Subtract, Multiply, Divide, Remainder}
use Rattle.source_operators.specs.Operands.{Operand, known, named, operand_expr, read, Then, Meanings}
use Rattle.clike_operators.specs.declared.trees.Prefix.{Prefix}
use Rattle.clike_operators.specs.declared.trees.Prefix.TheVariants.{Minus, Not, Pointee}
use Rattle.clike_operators.specs.declared.trees.Joint.{Joint}
use Rattle.clike_operators.specs.declared.trees.Joint.TheVariants.{Operation, Cell, Address}
use Rattle.clike_operators.specs.declared.pieces.Beyond.TheVariants.{Overflows}
use Rattle.clike_operators.specs.Ranges.{ranged, number, is_false}

-- a + b, a - b, a * b, a / b: the result must be in range
abbrev pub arithmetic : BinOp → Operand → Operand → Place → Situation → Then → Completion
arithmetic op a b here s go =
    with_value (evaluate (binary_of op (operand_expr a) (operand_expr b)) s.store) here s (λ v. ranged v Overflows here s go)

-- a % b: it fails where a / b does
abbrev pub remainder : Operand → Operand → Place → Situation → Then → Completion
remainder a b here s go =
    arithmetic gil.Divide a b here s
    (λ quotient t. with_value (evaluate (binary_of gil.Remainder (operand_expr a) (operand_expr b)) t.store) here t (λ v. go v t))

-- 1 where the comparison holds, and 0 where not
abbrev pub comparison : PureExpr → Place → Situation → Then → Completion
comparison e here s go = with_value (evaluate e s.store) here s (λ v. choose v here (go (number 1)) (go (number 0)) s)

abbrev pub operation : Operator → Operand → Operand → Place → Situation → Then → Completion
operation Equal a b here s go = comparison (binary_of gil.Equal (operand_expr a) (operand_expr b)) here s go
operation Unequal a b here s go = comparison (unary_of unary.Not (binary_of gil.Equal (operand_expr a) (operand_expr b))) here s go
operation Less a b here s go = comparison (binary_of gil.Less (operand_expr a) (operand_expr b)) here s go
operation LessOrEqual a b here s go = comparison (binary_of gil.LessOrEqual (operand_expr a) (operand_expr b)) here s go
operation Greater a b here s go = comparison (binary_of gil.Less (operand_expr b) (operand_expr a)) here s go
operation GreaterOrEqual a b here s go = comparison (binary_of gil.LessOrEqual (operand_expr b) (operand_expr a)) here s go
operation Add a b here s go = arithmetic gil.Add a b here s go
operation Subtract a b here s go = arithmetic gil.Subtract a b here s go
operation Multiply a b here s go = arithmetic gil.Multiply a b here s go
operation Divide a b here s go = arithmetic gil.Divide a b here s go
operation Remainder a b here s go = remainder a b here s go

-- what follows where an operand is false, and where not
abbrev pub tested : Operand → Place → Situation → Completion → Completion → Completion
tested a here s on_false on_true = with_value (read a s.store) here s (λ v. if is_false v then on_false else on_true)

-- The block and the number of the cell b places behind the pointer a. The pointer is read and tested for NULL before the offset is read.
abbrev pub cell_of : Operand → Operand → Place → Situation → (PureValue → PureValue → Completion) → Completion
cell_of a b here s go =
    with_value (read a s.store) here s
    (λ pointer. if same_value pointer (kind Null) then fails (text (codes "null")) here s else
    with_value (binary gil.Nth pointer (number 0)) here s
    (λ block. with_value (binary gil.Nth pointer (number 1)) here s
    (λ start. with_value (read b s.store) here s
    (λ offset. with_value (binary gil.Add start offset) here s (λ cell. go block cell)))))

-- an address: a block and the number of a cell
abbrev pub address : PureValue → PureValue → PureValue
address block cell = list (from_list (block ∷ cell ∷ []))

-- &a[b]
abbrev pub address_of : Operand → Operand → Place → Situation → Then → Completion
address_of a b here s go = cell_of a b here s (λ block cell. go (address block cell) s)

module _ (m : Actions) where
  -- a[b]
  abbrev pub content : Operand → Operand → Place → Situation → Then → Completion
  content a b here s go =
      cell_of a b here s (λ block cell. after_action (m.act (codes "load") None (address block cell ∷ []) s.heap) here s go)

  -- -a is 0 - a, and *a is a[0]
  abbrev pub applied : Prefix → Operand → Place → Situation → Then → Completion
  applied Minus a here s go = arithmetic gil.Subtract (known (number 0)) a here s go
  applied Not a here s go = tested a here s (go (number 1) s) (go (number 0) s)
  applied Pointee a here s go = content a (known (number 0)) here s go

  abbrev pub joined : Joint → Operand → Operand → Place → Situation → Then → Completion
  joined (Operation op) a b here s go = operation op a b here s go
  joined Cell a b here s go = content a b here s go
  joined Address a b here s go = address_of a b here s go

-- `a && ..` is 0 where a is false, and `a || ..` is 1 where a is not
abbrev pub decision : Connective → Operand → Place → Situation → Then → (Situation → Completion) → Completion
decision connectives.And a here s go right = tested a here s (go (number 0) s) (right s)
decision connectives.Or a here s go right = tested a here s (right s) (go (number 1) s)

-- otherwise the right side says which
abbrev pub conclusion : Operand → Place → Situation → Then → Completion
conclusion b here s go = tested b here s (go (number 0) s) (go (number 1) s)

abbrev pub meanings : Actions → Meanings Prefix Joint
meanings m = record {
  variable = named;
  apply = applied m;
  join = joined m;
  decide = decision;
  conclude = λ c b here s go. conclusion b here s go;
}
