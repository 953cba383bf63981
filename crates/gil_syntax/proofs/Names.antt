-- The value of an expression depends only on the names that it has.
use Rattle.std.proofs.Common.{◌≡◌, List, [], ◌++◌, refl, sym, ap, subst}
use Rattle.std.specs.List.{flat_map, Contains}
use Rattle.std.proofs.lemmas.Grind.{flat_map-append}
use Rattle.std.proofs.lemmas.List.Elements.{Contains-append_left, Contains-append_right, Contains-push}
use Rattle.gil_values.specs.Operators.{unary, binary}
use Rattle.gil_syntax.specs.Pure.{PureExpr, literal, name, logical, list_of, unary_of, binary_of, PureExprs, no_exprs, expr_and}
use Rattle.gil_syntax.specs.Evaluation.{Store, set_or_fault, after_value, both, as_list, evaluate, evaluate_elements}
use Rattle.gil_syntax.specs.Subexpressions.{subexpressions, subexpressions_of_all, own_names, names_of}
use Rattle.gil_syntax.specs.Laws.{AgreeOn, DependsOnItsNames}

agree_left : (ds es : List PureExpr) (s t : Store) → AgreeOn (flat_map own_names (ds ++ es)) s t → AgreeOn (flat_map own_names ds) s t
agree_left ds es s t agree x has = agree x (subst (λ xs. Contains xs x) (sym (flat_map-append own_names ds es)) (Contains-append_left _ _ x has))

agree_right : (ds es : List PureExpr) (s t : Store) → AgreeOn (flat_map own_names (ds ++ es)) s t → AgreeOn (flat_map own_names es) s t
agree_right ds es s t agree x has = agree x (subst (λ xs. Contains xs x) (sym (flat_map-append own_names ds es)) (Contains-append_right _ _ x has))

mutual
  evaluate_same : (e : PureExpr) (s t : Store) → AgreeOn (names_of e) s t → evaluate e s ≡ evaluate e t
  evaluate_same (literal v) s t agree = refl
  evaluate_same (name x) s t agree = ap set_or_fault (agree x (Contains-push [] x))
  evaluate_same (logical x) s t agree = ap set_or_fault (agree x (Contains-push [] x))
  evaluate_same (list_of es) s t agree = ap as_list (elements_same es s t agree)
  evaluate_same (unary_of op e) s t agree = ap (λ r. after_value r (unary op)) (evaluate_same e s t agree)
  evaluate_same (binary_of op d e) s t agree =
      let left = evaluate_same d s t (agree_left (subexpressions d) (subexpressions e) s t agree) in
      let right = evaluate_same e s t (agree_right (subexpressions d) (subexpressions e) s t agree) in
      λ i. after_value (left i) (λ v. after_value (right i) (binary op v))

  elements_same : (es : PureExprs) (s t : Store) → AgreeOn (flat_map own_names (subexpressions_of_all es)) s t → evaluate_elements es s ≡ evaluate_elements es t
  elements_same no_exprs s t agree = refl
  elements_same (expr_and e es) s t agree =
      let first = evaluate_same e s t (agree_left (subexpressions e) (subexpressions_of_all es) s t agree) in
      let rest = elements_same es s t (agree_right (subexpressions e) (subexpressions_of_all es) s t agree) in
      λ i. both (first i) (rest i)

pub depends_on_its_names : DependsOnItsNames
depends_on_its_names = evaluate_same
