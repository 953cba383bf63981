-- What the operators of the object language come to, at a place. An operand that is a variable is read when an operator is applied to it.
use Rattle.std.specs.Prelude.{ℕ, false}
use Rattle.gil_values.specs.declared.operators.UnOp.TheVariants as unary
use Rattle.gil_values.specs.declared.places.Place.{Place}
use Rattle.gil_values.specs.Pure.{boolean}
use Rattle.gil_syntax.specs.Pure.{PureExpr, unary_of}
use Rattle.gil_syntax.specs.Evaluation.{evaluate}
use Rattle.mem_model.specs.Actions.{Actions}
use Rattle.source_language.specs.Completions.{Situation, Completion, with_value, choose, after_body, thrown_in}
use Rattle.source_operators.specs.declared.trees.Connective.{Connective}
use Rattle.source_operators.specs.declared.trees.Connective.TheVariants.{And, Or}
use Rattle.source_operators.specs.Operands.{Operand, named, operand_expr, read, Then, Meanings}
use Rattle.object_operators.specs.declared.trees.Prefix.{Prefix}
use Rattle.object_operators.specs.declared.trees.Prefix.TheVariants.{Minus, Not}
use Rattle.object_operators.specs.declared.trees.Joint.{Joint}
use Rattle.object_operators.specs.declared.trees.Joint.TheVariants.{Operation, Property}
use Rattle.object_operators.specs.Operations.{operation}
use Rattle.object_operators.specs.Walk.{walk}

-- the value of an expression
abbrev pub value_of : PureExpr → Place → Situation → Then → Completion
value_of e here s go = with_value (evaluate e s.store) here s (λ v. go v s)

abbrev pub applied : Prefix → Operand → Place → Situation → Then → Completion
applied Minus a here s go = value_of (unary_of unary.Neg (operand_expr a)) here s go
applied Not a here s go = value_of (unary_of unary.Not (operand_expr a)) here s go

module _ (m : Actions) (loops : ℕ) where
  -- a[b], where at most so many objects are asked: both are read here, and then the property is read as by a call
  abbrev pub property : Operand → Operand → Place → Situation → Then → Completion
  property a b here s go =
      with_value (read a s.store) here s
      (λ o. with_value (read b s.store) here s
      (λ p. after_body (walk m loops o p s) (λ v t. go v (record t { store = s.store })) (thrown_in s)))

  abbrev pub joined : Joint → Operand → Operand → Place → Situation → Then → Completion
  joined (Operation op) a b here s go = value_of (operation op (operand_expr a) (operand_expr b)) here s go
  joined Property a b here s go = property a b here s go

-- `a && ..` is false where a is, and `a || ..` is a where that is true; a must be a boolean
abbrev pub decision : Connective → Operand → Place → Situation → Then → (Situation → Completion) → Completion
decision And a here s go right = with_value (read a s.store) here s (λ v. choose v here right (go (boolean false)) s)
decision Or a here s go right = with_value (read a s.store) here s (λ v. choose v here (go v) right s)

-- otherwise it is the value of the right side, whatever that is
abbrev pub conclusion : Operand → Place → Situation → Then → Completion
conclusion b here s go = with_value (read b s.store) here s (λ v. go v s)

abbrev pub meanings : Actions → ℕ → Meanings Prefix Joint
meanings m loops = record {
  variable = named;
  apply = applied;
  join = joined m loops;
  decide = decision;
  conclude = λ c b here s go. conclusion b here s go;
}
