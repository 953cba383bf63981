-- More turns and deeper calls change nothing of what the operators come to.
use Rattle.std.proofs.Common.{ℕ, zero, suc, ◌≤◌, [], ◌∷◌, Bool, true, false, cond, refl, sym, ap, subst, arith}
use Rattle.std.specs.Prelude.{None, codes}
use Rattle.gil_values.specs.declared.kinds.Kind.TheVariants.{Undef, Null}
use Rattle.gil_values.specs.declared.places.Place.{Place}
use Rattle.gil_values.specs.Equality.{same_value}
use Rattle.gil_values.specs.Pure.{PureValue, boolean, kind}
use Rattle.gil_syntax.specs.Pure.{PureExpr, unary_of}
use Rattle.gil_values.specs.declared.operators.UnOp.TheVariants as unary
use Rattle.gil_syntax.specs.Evaluation.{evaluate}
use Rattle.mem_model.specs.Pure.{PureOutcome, done, failed, miss}
use Rattle.mem_model.specs.Actions.{Actions, ActionResult}
use Rattle.source_language.specs.Completions.{Situation, Completion, normal, returns, throws, over, unfinished, choose, with_outcome, after_action, after_body, thrown_in}
use Rattle.source_language.proofs.Longer.{Extends, extends_itself, value-extends, choice-extends}
use Rattle.source_operators.specs.declared.trees.Connective.{Connective}
use Rattle.source_operators.specs.declared.trees.Connective.TheVariants.{And, Or}
use Rattle.source_operators.specs.Operands.{Operand, operand_expr, read, Then}
use Rattle.source_operators.proofs.Extending.{ThenExtends, OperatorsExtend}
use Rattle.object_operators.specs.declared.trees.Prefix.{Prefix}
use Rattle.object_operators.specs.declared.trees.Prefix.TheVariants.{Minus, Not}
use Rattle.object_operators.specs.declared.trees.Joint.{Joint}
use Rattle.object_operators.specs.declared.trees.Joint.TheVariants.{Operation, Property}
use Rattle.object_operators.specs.Meaning.{value_of, applied, joined, decision, meanings}
use Rattle.object_operators.specs.Operations.{operation}
use Rattle.object_operators.specs.Walk.{get_place, walk}

cond-extends : (b : Bool) (c d c' d' : Completion) → Extends c c' → Extends d d' → Extends (cond b c d) (cond b c' d')
cond-extends true c d c' d' h k = h
cond-extends false c d c' d' h k = k

pub outcome-extends : (o : PureOutcome) (here : Place) (s : Situation) (go more : Then) → ThenExtends go more
    → Extends (with_outcome o here s go) (with_outcome o here s more)
outcome-extends (done v) here s go more h = h v s
outcome-extends (failed v) here s go more h = refl
outcome-extends (miss k) here s go more h = refl

-- a body, and what is done with its value
result-extends : (c d : Completion) (go more : Then) (thrown : PureValue → Place → Situation → Completion) → Extends c d → ThenExtends go more
    → Extends (after_body c go thrown) (after_body d more thrown)
result-extends (normal s) d go more thrown h k = subst (λ x. Extends (go (kind Null) s) (after_body x more thrown)) (sym h) (k (kind Null) s)
result-extends (returns v s) d go more thrown h k = subst (λ x. Extends (go v s) (after_body x more thrown)) (sym h) (k v s)
result-extends (throws v here s) d go more thrown h k =
    subst (λ x. Extends (thrown v here s) (after_body x more thrown)) (sym h) (extends_itself (thrown v here s))
result-extends (over e) d go more thrown h k = ap (λ x. after_body x more thrown) h
result-extends unfinished d go more thrown h k = tt

pub walk-extends : (m : Actions) (n k : ℕ) → n ≤ k → (o p : PureValue) (s : Situation) → Extends (walk m n o p s) (walk m k o p s)
walk-extends m zero k le o p s = tt
walk-extends m (suc n) zero le o p s = absurd (omega (arith, le))
walk-extends m (suc n) (suc k) le o p s =
    outcome-extends own.outcome get_place (record s { heap = own.heap }) (asked n) (asked k)
    (λ b u. choice-extends b get_place found (above n) found (above k) u (extends_itself (found u))
    (outcome-extends (proto u).outcome get_place (record u { heap = (proto u).heap }) (further n) (further k)
    (λ q r. cond-extends (same_value q (kind Null)) (returns (kind Undef) r) (walk m n q p r) (returns (kind Undef) r) (walk m k q p r) refl
    (walk-extends m n k (omega (arith, le)) q p r))))
  where
    own : ActionResult
    own = m.act (codes "has") None (o ∷ p ∷ []) s.heap

    proto : Situation → ActionResult
    proto u = m.act (codes "getproto") None (o ∷ []) u.heap

    found : Situation → Completion
    found u = after_action (m.act (codes "get") None (o ∷ p ∷ []) u.heap) get_place u (λ v r. returns v r)

    further : ℕ → Then
    further i q r = cond (same_value q (kind Null)) (returns (kind Undef) r) (walk m i q p r)

    above : ℕ → Situation → Completion
    above i u = after_action (proto u) get_place u (further i)

    asked : ℕ → Then
    asked i b u = choose b get_place found (above i) u

named-extends : (e : PureExpr) (here : Place) (s : Situation) (go more : Then) → ThenExtends go more → Extends (value_of e here s go) (value_of e here s more)
named-extends e here s go more h = value-extends (evaluate e s.store) here s _ _ (λ v. h v s)

applied-extends : (u : Prefix) (a : Operand) (here : Place) (s : Situation) (go more : Then) → ThenExtends go more
    → Extends (applied u a here s go) (applied u a here s more)
applied-extends Minus a here s go more h = named-extends (unary_of unary.Neg (operand_expr a)) here s go more h
applied-extends Not a here s go more h = named-extends (unary_of unary.Not (operand_expr a)) here s go more h

decision-extends : (c : Connective) (a : Operand) (here : Place) (s : Situation) (go more : Then) (right further : Situation → Completion)
    → ThenExtends go more → ((t : Situation) → Extends (right t) (further t)) → Extends (decision c a here s go right) (decision c a here s more further)
decision-extends And a here s go more right further h k =
    value-extends (read a s.store) here s _ _ (λ v. choice-extends v here _ _ _ _ s (k s) (h (boolean false) s))
decision-extends Or a here s go more right further h k =
    value-extends (read a s.store) here s _ _ (λ v. choice-extends v here _ _ _ _ s (h v s) (k s))

module _ (m : Actions) (n k : ℕ) (le : n ≤ k) where
  joined-extends : (j : Joint) (a b : Operand) (here : Place) (s : Situation) (go more : Then) → ThenExtends go more
      → Extends (joined m n j a b here s go) (joined m k j a b here s more)
  joined-extends (Operation op) a b here s go more h = named-extends (operation op (operand_expr a) (operand_expr b)) here s go more h
  joined-extends Property a b here s go more h =
      value-extends (read a s.store) here s _ _
      (λ o. value-extends (read b s.store) here s _ _
      (λ p. result-extends (walk m n o p s) (walk m k o p s) _ _ (thrown_in s) (walk-extends m n k le o p s)
      (λ v t. h v (record t { store = s.store }))))

  pub operators_extend : OperatorsExtend (meanings m n) (meanings m k)
  operators_extend = record {
    variables = λ x. refl;
    applies = applied-extends;
    joins = joined-extends;
    decides = decision-extends;
    concludes = λ c a here s go more h. value-extends (read a s.store) here s _ _ (λ v. h v s);
  }
