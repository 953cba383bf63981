-- More turns and deeper calls change nothing of what the operators come to.
use Rattle.std.proofs.Common.{Bool, true, false, cond, refl}
use Rattle.std.specs.Prelude.{codes}
use Rattle.gil_values.specs.declared.operators.BinOp.{BinOp}
use Rattle.gil_values.specs.declared.operators.BinOp.TheVariants as gil
use Rattle.gil_values.specs.declared.operators.UnOp.TheVariants as unary
use Rattle.gil_values.specs.declared.kinds.Kind.TheVariants.{Null}
use Rattle.gil_values.specs.declared.places.Place.{Place}
use Rattle.gil_values.specs.Equality.{same_value}
use Rattle.gil_values.specs.Operators.{binary}
use Rattle.gil_values.specs.Pure.{PureValue, integer, boolean, text, symbol, kind, procedure, list}
use Rattle.gil_syntax.specs.Pure.{PureExpr, unary_of, binary_of}
use Rattle.gil_syntax.specs.Evaluation.{evaluate}
use Rattle.mem_model.specs.Pure.{PureOutcome, done, failed, miss}
use Rattle.mem_model.specs.Actions.{Actions}
use Rattle.source_language.specs.Completions.{Situation, Completion, fails, with_outcome}
use Rattle.source_language.proofs.Longer.{Extends, extends_itself, value-extends, choice-extends}
use Rattle.source_operators.specs.declared.trees.Connective.{Connective}
use Rattle.source_operators.specs.declared.trees.Connective.TheVariants.{And, Or}
use Rattle.source_operators.specs.declared.trees.Operator.{Operator}
use Rattle.source_operators.specs.declared.trees.Operator.TheVariants.{Equal, Unequal, Less, LessOrEqual, Greater, GreaterOrEqual, Add, Subtract, Multiply, Divide, Remainder}
use Rattle.source_operators.specs.Operands.{Operand, known, operand_expr, read, Then}
use Rattle.source_operators.proofs.Extending.{ThenExtends, OperatorsExtend}
use Rattle.clike_operators.specs.declared.pieces.Beyond.{Beyond}
use Rattle.clike_operators.specs.declared.pieces.Beyond.TheVariants.{Overflows}
use Rattle.clike_operators.specs.declared.trees.Prefix.{Prefix}
use Rattle.clike_operators.specs.declared.trees.Prefix.TheVariants.{Minus, Not, Pointee}
use Rattle.clike_operators.specs.declared.trees.Joint.{Joint}
use Rattle.clike_operators.specs.declared.trees.Joint.TheVariants.{Operation, Cell, Address}
use Rattle.clike_operators.specs.Meaning.{arithmetic, comparison, operation, tested, cell_of, address, content, applied, joined, decision, meanings}
use Rattle.clike_operators.specs.Ranges.{is_int, beyond, ranged, number, is_false}

-- ---- more turns

cond-extends : (b : Bool) (c d c' d' : Completion) → Extends c c' → Extends d d' → Extends (cond b c d) (cond b c' d')
cond-extends true c d c' d' h k = h
cond-extends false c d c' d' h k = k

pub ranged-extends : (v : PureValue) (out : Beyond) (here : Place) (s : Situation) (go more : Then) → ThenExtends go more
    → Extends (ranged v out here s go) (ranged v out here s more)
ranged-extends (integer n) out here s go more h =
    cond-extends (is_int n) (go (integer n) s) (beyond out here s) (more (integer n) s) (beyond out here s) (h (integer n) s) (extends_itself (beyond out here s))
ranged-extends (boolean b) out here s go more h = refl
ranged-extends (text cs) out here s go more h = refl
ranged-extends (symbol n) out here s go more h = refl
ranged-extends (kind k) out here s go more h = refl
ranged-extends (procedure f) out here s go more h = refl
ranged-extends (list vs) out here s go more h = refl

arithmetic-extends : (op : BinOp) (a b : Operand) (here : Place) (s : Situation) (go more : Then) → ThenExtends go more
    → Extends (arithmetic op a b here s go) (arithmetic op a b here s more)
arithmetic-extends op a b here s go more h =
    value-extends (evaluate (binary_of op (operand_expr a) (operand_expr b)) s.store) here s _ _ (λ v. ranged-extends v Overflows here s go more h)

comparison-extends : (e : PureExpr) (here : Place) (s : Situation) (go more : Then) → ThenExtends go more
    → Extends (comparison e here s go) (comparison e here s more)
comparison-extends e here s go more h =
    value-extends (evaluate e s.store) here s _ _
    (λ v. choice-extends v here (go (number 1)) (go (number 0)) (more (number 1)) (more (number 0)) s (h (number 1) s) (h (number 0) s))

operation-extends : (op : Operator) (a b : Operand) (here : Place) (s : Situation) (go more : Then) → ThenExtends go more
    → Extends (operation op a b here s go) (operation op a b here s more)
operation-extends Equal a b here s go more h = comparison-extends (binary_of gil.Equal (operand_expr a) (operand_expr b)) here s go more h
operation-extends Unequal a b here s go more h =
    comparison-extends (unary_of unary.Not (binary_of gil.Equal (operand_expr a) (operand_expr b))) here s go more h
operation-extends Less a b here s go more h = comparison-extends (binary_of gil.Less (operand_expr a) (operand_expr b)) here s go more h
operation-extends LessOrEqual a b here s go more h = comparison-extends (binary_of gil.LessOrEqual (operand_expr a) (operand_expr b)) here s go more h
operation-extends Greater a b here s go more h = comparison-extends (binary_of gil.Less (operand_expr b) (operand_expr a)) here s go more h
operation-extends GreaterOrEqual a b here s go more h = comparison-extends (binary_of gil.LessOrEqual (operand_expr b) (operand_expr a)) here s go more h
operation-extends Add a b here s go more h = arithmetic-extends gil.Add a b here s go more h
operation-extends Subtract a b here s go more h = arithmetic-extends gil.Subtract a b here s go more h
operation-extends Multiply a b here s go more h = arithmetic-extends gil.Multiply a b here s go more h
operation-extends Divide a b here s go more h = arithmetic-extends gil.Divide a b here s go more h
operation-extends Remainder a b here s go more h =
    arithmetic-extends gil.Divide a b here s _ _
    (λ v t. value-extends (evaluate (binary_of gil.Remainder (operand_expr a) (operand_expr b)) t.store) here t _ _ (λ w. h w t))

pub tested-extends : (a : Operand) (here : Place) (s : Situation) (c d c' d' : Completion) → Extends c c' → Extends d d'
    → Extends (tested a here s c d) (tested a here s c' d')
tested-extends a here s c d c' d' h k = value-extends (read a s.store) here s _ _ (λ v. cond-extends (is_false v) c d c' d' h k)

pub cell-extends : (a b : Operand) (here : Place) (s : Situation) (go more : PureValue → PureValue → Completion)
    → ((block cell : PureValue) → Extends (go block cell) (more block cell)) → Extends (cell_of a b here s go) (cell_of a b here s more)
cell-extends a b here s go more h =
    value-extends (read a s.store) here s _ _
    (λ pointer. cond-extends (same_value pointer (kind Null)) null _ null _ (extends_itself null)
    (value-extends (binary gil.Nth pointer (number 0)) here s _ _
    (λ block. value-extends (binary gil.Nth pointer (number 1)) here s _ _
    (λ start. value-extends (read b s.store) here s _ _
    (λ offset. value-extends (binary gil.Add start offset) here s _ _ (λ cell. h block cell))))))
  where
    null : Completion
    null = fails (text (codes "null")) here s

outcome-extends : (o : PureOutcome) (here : Place) (s : Situation) (go more : Then) → ThenExtends go more
    → Extends (with_outcome o here s go) (with_outcome o here s more)
outcome-extends (done v) here s go more h = h v s
outcome-extends (failed v) here s go more h = refl
outcome-extends (miss k) here s go more h = refl

module _ (m : Actions) where
  content-extends : (a b : Operand) (here : Place) (s : Situation) (go more : Then) → ThenExtends go more
      → Extends (content m a b here s go) (content m a b here s more)
  content-extends a b here s go more h = cell-extends a b here s _ _ (λ block cell. outcome-extends _ here _ go more h)

  applied-extends : (u : Prefix) (a : Operand) (here : Place) (s : Situation) (go more : Then) → ThenExtends go more
      → Extends (applied m u a here s go) (applied m u a here s more)
  applied-extends Minus a here s go more h = arithmetic-extends gil.Subtract (known (number 0)) a here s go more h
  applied-extends Not a here s go more h = tested-extends a here s _ _ _ _ (h (number 1) s) (h (number 0) s)
  applied-extends Pointee a here s go more h = content-extends a (known (number 0)) here s go more h

  joined-extends : (j : Joint) (a b : Operand) (here : Place) (s : Situation) (go more : Then) → ThenExtends go more
      → Extends (joined m j a b here s go) (joined m j a b here s more)
  joined-extends (Operation op) a b here s go more h = operation-extends op a b here s go more h
  joined-extends Cell a b here s go more h = content-extends a b here s go more h
  joined-extends Address a b here s go more h = cell-extends a b here s _ _ (λ block cell. h (address block cell) s)

  decision-extends : (c : Connective) (a : Operand) (here : Place) (s : Situation) (go more : Then) (right further : Situation → Completion)
      → ThenExtends go more → ((t : Situation) → Extends (right t) (further t)) → Extends (decision c a here s go right) (decision c a here s more further)
  decision-extends And a here s go more right further h k = tested-extends a here s _ _ _ _ (h (number 0) s) (k s)
  decision-extends Or a here s go more right further h k = tested-extends a here s _ _ _ _ (k s) (h (number 1) s)

  pub operators_extend : OperatorsExtend (meanings m) (meanings m)
  operators_extend = record {
    variables = λ x. refl;
    applies = applied-extends;
    joins = joined-extends;
    decides = decision-extends;
    concludes = λ c a here s go more h. tested-extends a here s _ _ _ _ (h (number 0) s) (h (number 1) s);
  }
