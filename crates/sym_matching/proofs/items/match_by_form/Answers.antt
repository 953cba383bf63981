use Rattle.std.proofs.Common.{◌≡◌, ⊎_elim, ℕ, List, true, sym, ap, subst, ◌∙◌, rules}
use Rattle.assert_logic.specs.Matching.{match_pure, where_same}
use Rattle.gil_syntax.specs.declared.expressions.Expr.{Expr, the_lemmas}
use Rattle.gil_syntax.specs.Evaluation.{evaluate}
use Rattle.gil_syntax.specs.Pure.{PureExpr, literal, name, logical, unary_of}
use Rattle.gil_syntax.specs.View.{expr_view}
use Rattle.gil_values.specs.declared.tree.Value.{Value}
use Rattle.gil_values.specs.View.{value_view}
use Rattle.gil_values.specs.Pure.{boolean}
use Rattle.sym_evaluation.proofs.Views.{expr_view-List}
use Rattle.sym_evaluation.specs.View.{store_view}
use Rattle.sym_states.proofs.Values.{ok_to}
use Rattle.sym_matching.specs.Origins.{PureComesFrom}
use Rattle.sym_matching.specs.Parts.{Alone}
use Rattle.sym_matching.specs.Plainly.{PureStaysPlain}
use Rattle.sym_matching.specs.View.{stores_view}
use Rattle.sym_matching.proofs.items.match_by_form.Goals as goal

pub returns-in-List : goal.returns-in-List
returns-in-List c =
    let bs = store_view c.args.store.now in
    let scope = c.args.scope.now in
    ok_to c.assume.result _ (λ x. Alone (match_pure scope (expr_view c.args.expression.now)) bs (stores_view x) × PureStaysPlain (expr_view c.args.expression.now) bs (stores_view x) × PureComesFrom scope (expr_view c.args.expression.now) bs (stores_view x))
    (λ x is. (
      subst (λ (e : PureExpr). Alone (λ s. where_same (evaluate e s) (boolean true) s) bs (stores_view x) → Alone (match_pure scope e) bs (stores_view x))
          (sym (ap expr_view c.in-List.is ∙ expr_view-List c.in-List.field-0)) (λ same. same) is.0,
      is.1,
      is.2 scope,
    )) c.assume.ensures

pub returns-in-Op1 : goal.returns-in-Op1
returns-in-Op1 c =
    let bs = store_view c.args.store.now in
    let scope = c.args.scope.now in
    let seen : expr_view c.args.expression.now ≡ unary_of c.in-Op1.field-0 (expr_view c.in-Op1.field-1.value) = ap expr_view c.in-Op1.is ∙ search (rules, the_lemmas) in
    ok_to c.assume-in-Op1.result _ (λ x. Alone (match_pure scope (expr_view c.args.expression.now)) bs (stores_view x) × PureStaysPlain (expr_view c.args.expression.now) bs (stores_view x) × PureComesFrom scope (expr_view c.args.expression.now) bs (stores_view x))
    (λ x is. (
      subst (λ (e : PureExpr). Alone (λ s. where_same (evaluate e s) (boolean true) s) bs (stores_view x) → Alone (match_pure scope e) bs (stores_view x))
          (sym seen) (λ same. same) is.0,
      is.1,
      is.2 scope,
    )) c.assume-in-Op1.ensures

value_seen : (v : Value) → expr_view (Expr.Lit v) ≡ literal (value_view v)
value_seen v = search (rules, the_lemmas)

name_seen : (x : List ℕ) → expr_view (Expr.Name x) ≡ name x
name_seen x = search (rules, the_lemmas)

logical_seen : (x : List ℕ) → expr_view (Expr.Logical x) ≡ logical x
logical_seen x = search (rules, the_lemmas)

pub returns-in-Lit : goal.returns-in-Lit
returns-in-Lit c =
    let bs = store_view c.args.store.now in
    let scope = c.args.scope.now in
    ok_to c.assume-in-Lit.result _ (λ x. Alone (match_pure scope (expr_view c.args.expression.now)) bs (stores_view x) × PureStaysPlain (expr_view c.args.expression.now) bs (stores_view x) × PureComesFrom scope (expr_view c.args.expression.now) bs (stores_view x))
    (λ x is.
    let Same : PureExpr → Type 0 = λ e. Alone (λ s. where_same (evaluate e s) (boolean true) s) bs (stores_view x) → Alone (match_pure scope e) bs (stores_view x) in (
      ⊎_elim (λ (v, here). subst Same (sym (ap expr_view here ∙ value_seen v)) (λ same. same) is.0)
          (λ rest. ⊎_elim (λ (y, here). subst Same (sym (ap expr_view here ∙ name_seen y)) (λ same. same) is.0) (λ (y, here). subst Same (sym (ap expr_view here ∙ logical_seen y)) (λ same. same) is.0) rest)
          c.in-Lit.is,
      is.1,
      is.2 scope,
    ))
    c.assume-in-Lit.ensures
