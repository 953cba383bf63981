-- The value of an expression stays when its store gains values.
use Rattle.std.proofs.Common.{◌≡◌, List, Option, Some, None, Ok, Err, refl, ap, ◌∙◌}
use Rattle.gil_values.specs.Pure.{PureValue}
use Rattle.gil_values.specs.Operators.{Outcome, unary, binary}
use Rattle.gil_syntax.specs.Pure.{PureExpr, literal, name, logical, list_of, unary_of, binary_of, PureExprs, no_exprs, expr_and, from_list}
use Rattle.gil_syntax.specs.Evaluation.{Store, value_of, set_or_fault, after_value, Outcomes, both, as_list, evaluate, evaluate_elements, evaluate_all}
use Rattle.assert_logic.specs.Sorts.{Extends}

set_step : (o p : Option PureValue) (v : PureValue) → ((w : PureValue) → o ≡ Some w → p ≡ Some w) → set_or_fault o ≡ Ok v → set_or_fault p ≡ Ok v
set_step (Some w) p v keep is = ap set_or_fault (keep w refl) ∙ is
set_step None p v keep is = absurd (cc)

list_step : (o p : Outcomes) (v : PureValue) → ((vs : List PureValue) → o ≡ Ok vs → p ≡ Ok vs) → as_list o ≡ Ok v → as_list p ≡ Ok v
list_step (Ok vs) p v keep is = ap as_list (keep vs refl) ∙ is
list_step (Err f) p v keep is = absurd (cc)

value_step : (o p : Outcome) (f g : PureValue → Outcome) (v : PureValue) → ((w : PureValue) → o ≡ Ok w → p ≡ Ok w) → ((w : PureValue) → f w ≡ Ok v → g w ≡ Ok v) → after_value o f ≡ Ok v → after_value p g ≡ Ok v
value_step (Ok w) p f g v keep later is = ap (λ q. after_value q g) (keep w refl) ∙ later w is
value_step (Err e) p f g v keep later is = absurd (cc)

both_step : (o p : Outcome) (os ps : Outcomes) (vs : List PureValue) → ((w : PureValue) → o ≡ Ok w → p ≡ Ok w) → ((ws : List PureValue) → os ≡ Ok ws → ps ≡ Ok ws) → both o os ≡ Ok vs → both p ps ≡ Ok vs
both_step (Ok w) p (Ok ws) ps vs keep keeps is = (λ i. both (keep w refl i) (keeps ws refl i)) ∙ is
both_step (Ok w) p (Err f) ps vs keep keeps is = absurd (cc)
both_step (Err f) p os ps vs keep keeps is = absurd (cc)

module _ (s t : Store) (extends : Extends s t) where
  mutual
    pub evaluate_extends : (e : PureExpr) (v : PureValue) → evaluate e s ≡ Ok v → evaluate e t ≡ Ok v
    evaluate_extends (literal w) v is = is
    evaluate_extends (name x) v is = set_step (value_of s x) (value_of t x) v (extends x) is
    evaluate_extends (logical x) v is = set_step (value_of s x) (value_of t x) v (extends x) is
    evaluate_extends (list_of es) v is = list_step (evaluate_elements es s) (evaluate_elements es t) v (elements_extend es) is
    evaluate_extends (unary_of op e) v is = value_step (evaluate e s) (evaluate e t) (unary op) (unary op) v (evaluate_extends e) (λ w kept. kept) is
    evaluate_extends (binary_of op d e) v is =
        value_step (evaluate d s) (evaluate d t) (λ w. after_value (evaluate e s) (binary op w)) (λ w. after_value (evaluate e t) (binary op w)) v (evaluate_extends d)
        (λ w. value_step (evaluate e s) (evaluate e t) (binary op w) (binary op w) v (evaluate_extends e) (λ u kept. kept)) is

    pub elements_extend : (es : PureExprs) (vs : List PureValue) → evaluate_elements es s ≡ Ok vs → evaluate_elements es t ≡ Ok vs
    elements_extend no_exprs vs is = is
    elements_extend (expr_and e es) vs is =
        both_step (evaluate e s) (evaluate e t) (evaluate_elements es s) (evaluate_elements es t) vs (evaluate_extends e) (elements_extend es) is

  pub all_extend : (es : List PureExpr) (vs : List PureValue) → evaluate_all es s ≡ Ok vs → evaluate_all es t ≡ Ok vs
  all_extend es vs is = elements_extend (from_list es) vs is
