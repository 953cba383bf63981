-- The commands of expressions and simple statements are as many wherever they stand, and wherever the handler is.
use Rattle.std.proofs.Common.{◌≡◌, ℕ, List, [], ◌∷◌, ◌++◌, Some, length, refl, arith, length-append}
use Rattle.gil_syntax.specs.Pure.{PureExpr, PureNumberedCommand}
use Rattle.source_operators.proofs.Lengths.{OperatorsLong, operand-long, operands-long}
use Rattle.source_statements.proofs.Lengths.{SameLengths}
use Rattle.object_operators.specs.declared.trees.Prefix.{Prefix}
use Rattle.object_operators.specs.declared.trees.Prefix.TheVariants.{Minus, Not}
use Rattle.object_operators.specs.declared.trees.Joint.{Joint}
use Rattle.object_operators.specs.declared.trees.Joint.TheVariants.{Operation, Property}
use Rattle.object_operators.specs.Codes.{applied_code, joined_code, codes_of_operators}
use Rattle.object_operators.specs.Pure.{PureExpression}
use Rattle.object_operators.proofs.Running.{decided_long}
use Rattle.object_lang.specs.Pure.{PureSimple, assign, input, create, proto, has, call, set, delete, set_proto, fail, throw}
use Rattle.object_compiler.specs.Compiled.{first_code, first_codes, action_code, simple_code, object_codes}

applied-long : (u : Prefix) (at i : ℕ) (e : PureExpr) → length (applied_code u at i e) ≡ length (applied_code u 0 i e)
applied-long Minus at i e = refl
applied-long Not at i e = refl

joined-long : (j : Joint) (at i : ℕ) (d e : PureExpr) → length (joined_code j at i d e) ≡ length (joined_code j 0 i d e)
joined-long (Operation op) at i d e = refl
joined-long Property at i d e = refl

operators_long : OperatorsLong codes_of_operators
operators_long = record {
  applies = λ u pc at i e. applied-long u at i e;
  joins = λ j pc at i d e. joined-long j at i d e;
  decide_long = decided_long;
  concludes = λ o pc at t e. refl;
}

-- the same commands in front, and as many behind them
both-long : (xs ys cs ds : List PureNumberedCommand) → length xs ≡ length ys → length cs ≡ length ds → length (xs ++ cs) ≡ length (ys ++ ds)
both-long xs ys cs ds front back = omega (arith, front, back, length-append xs cs, length-append ys ds)

first-long : (e : PureExpression) (pc at : ℕ) → length (first_code pc at e) ≡ length (first_code 0 0 e)
first-long e pc at = operand-long codes_of_operators operators_long e pc at 0

firsts-long : (es : List PureExpression) (pc at : ℕ) → length (first_codes pc at es) ≡ length (first_codes 0 0 es)
firsts-long es pc at = operands-long codes_of_operators operators_long es pc at 0

action-long : (x action : List ℕ) (es : List PureExpression) (pc at : ℕ) → length (action_code pc at x action es) ≡ length (action_code 0 0 x action es)
action-long x action es pc at = both-long (first_codes pc at es) (first_codes 0 0 es) _ _ (firsts-long es pc at) refl

simple-long : (c : PureSimple) (label pc at : ℕ) → length (simple_code pc at (Some label) c) ≡ length (simple_code 0 0 (Some 0) c)
simple-long (assign x e) label pc at = both-long (first_code pc at e) (first_code 0 0 e) _ _ (first-long e pc at) refl
simple-long (input x k) label pc at = refl
simple-long (create x e) label pc at = action-long x _ (e ∷ []) pc at
simple-long (proto x e) label pc at = action-long x _ (e ∷ []) pc at
simple-long (has x a b) label pc at = action-long x _ (a ∷ b ∷ []) pc at
simple-long (call x f es) label pc at = both-long (first_codes pc at (f ∷ es)) (first_codes 0 0 (f ∷ es)) _ _ (firsts-long (f ∷ es) pc at) refl
simple-long (set a b c) label pc at = action-long _ _ (a ∷ b ∷ c ∷ []) pc at
simple-long (delete a b) label pc at = action-long _ _ (a ∷ b ∷ []) pc at
simple-long (set_proto a b) label pc at = action-long _ _ (a ∷ b ∷ []) pc at
simple-long (fail e) label pc at = both-long (first_code pc at e) (first_code 0 0 e) _ _ (first-long e pc at) refl
simple-long (throw e) label pc at = both-long (first_code pc at e) (first_code 0 0 e) _ _ (first-long e pc at) refl

pub same_lengths : SameLengths object_codes
same_lengths = record { fronts = first-long; simples = simple-long }
