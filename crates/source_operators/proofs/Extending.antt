-- Where more turns and deeper calls change nothing of what has come to its end, for the operators of a language and for what is done with an
-- operand, they change nothing of an expression.
use Rattle.std.proofs.Common.{◌≡◌, ℕ, List, [], ◌∷◌, subst}
use Rattle.gil_values.specs.declared.places.Place.{Place}
use Rattle.gil_values.specs.Pure.{PureValue}
use Rattle.source_language.specs.Completions.{Situation, Completion}
use Rattle.source_language.proofs.Longer.{Extends}
use Rattle.source_operators.specs.declared.trees.Connective.{Connective}
use Rattle.source_operators.specs.Pure.{PureExpression, constant, variable, brackets, prefixed, joined, skipping}
use Rattle.source_operators.specs.Operands.{Operand, known, Then, Meanings, operand, all_operands}

-- what is done with a value second extends what is done with it first
abbrev pub ThenExtends : Then → Then → Type 0
ThenExtends go more = (v : PureValue) (s : Situation) → Extends (go v s) (more v s)

module _ {P J : Type 0} (k l : Meanings P J) where
  -- what is to be shown of each operator of a language
  pub record OperatorsExtend : Type 0 where
    pub variables : (x : List ℕ) → k.variable x ≡ l.variable x
    pub applies : (u : P) (a : Operand) (here : Place) (s : Situation) (go more : Then) → ThenExtends go more
        → Extends (k.apply u a here s go) (l.apply u a here s more)
    pub joins : (j : J) (a b : Operand) (here : Place) (s : Situation) (go more : Then) → ThenExtends go more
        → Extends (k.join j a b here s go) (l.join j a b here s more)
    pub decides : (c : Connective) (a : Operand) (here : Place) (s : Situation) (go more : Then) (right further : Situation → Completion)
        → ThenExtends go more → ((t : Situation) → Extends (right t) (further t))
        → Extends (k.decide c a here s go right) (l.decide c a here s more further)
    pub concludes : (c : Connective) (a : Operand) (here : Place) (s : Situation) (go more : Then) → ThenExtends go more
        → Extends (k.conclude c a here s go) (l.conclude c a here s more)

  module _ (extend : OperatorsExtend) where
    pub operand_extends : (e : PureExpression P J) (here : Place) (s : Situation) (go more : Operand → Situation → Completion)
        → ((a : Operand) (t : Situation) → Extends (go a t) (more a t)) → Extends (operand k e here s go) (operand l e here s more)
    operand_extends (constant v) here s go more h = h (known v) s
    operand_extends (variable x) here s go more h = subst (λ a. Extends (go (k.variable x) s) (more a s)) (extend.variables x) (h (k.variable x) s)
    operand_extends (brackets e) here s go more h = operand_extends e here s go more h
    operand_extends (prefixed u e) here s go more h =
        operand_extends e here s _ _ (λ a t. extend.applies u a here t _ _ (λ v r. h (known v) r))
    operand_extends (joined j d e) here s go more h =
        operand_extends d here s _ _ (λ a t. operand_extends e here t _ _ (λ b r. extend.joins j a b here r _ _ (λ v q. h (known v) q)))
    operand_extends (skipping c d e) here s go more h =
        operand_extends d here s _ _ (λ a t. extend.decides c a here t _ _ _ _ (λ v r. h (known v) r)
        (λ r. operand_extends e here r _ _ (λ b q. extend.concludes c b here q _ _ (λ v w. h (known v) w))))

    pub all_operands_extend : (es : List (PureExpression P J)) (here : Place) (s : Situation) (go more : List Operand → Situation → Completion)
        → ((all : List Operand) (t : Situation) → Extends (go all t) (more all t)) → Extends (all_operands k es here s go) (all_operands l es here s more)
    all_operands_extend [] here s go more h = h [] s
    all_operands_extend (e ∷ es) here s go more h =
        operand_extends e here s _ _ (λ a t. all_operands_extend es here t _ _ (λ rest r. h (a ∷ rest) r))
