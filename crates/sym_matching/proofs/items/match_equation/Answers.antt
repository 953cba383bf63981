use Rattle.std.proofs.Common.{true, sym, subst}
use Rattle.assert_logic.specs.Matching.{match_pure, where_same, given_outcome}
use Rattle.gil_syntax.specs.Evaluation.{evaluate}
use Rattle.gil_syntax.specs.Pure.{PureExpr}
use Rattle.gil_syntax.specs.View.{expr_view}
use Rattle.gil_values.specs.Pure.{boolean}
use Rattle.sym_evaluation.specs.View.{store_view}
use Rattle.sym_states.proofs.Values.{ok_to}
use Rattle.sym_matching.specs.Origins.{PureComesFrom}
use Rattle.sym_matching.specs.Parts.{Alone, DefinesPlainly, DefinitionComesFrom}
use Rattle.sym_matching.specs.Plainly.{PureStaysPlain}
use Rattle.sym_matching.specs.View.{stores_view}
use Rattle.sym_matching.proofs.Deciding.{equation_plainly}
use Rattle.sym_matching.proofs.OriginLaws.{equation_from}
use Rattle.sym_matching.proofs.ValueLaws.{equation_defines, equation_holds}
use Rattle.sym_matching.proofs.items.match_equation.Goals as goal

pub returns-in-Some : goal.returns-in-Some
returns-in-Some c =
    let bs = store_view c.args.store.now in
    let scope = c.args.scope.now in
    let left = expr_view c.args.left.now in
    let right = expr_view c.args.right.now in
    let name = c.in-Some.name.now in
    ok_to c.define.result
    (λ x. Alone (λ s. given_outcome scope name (evaluate right s) s) bs (stores_view x) × DefinesPlainly right bs (stores_view x) × DefinitionComesFrom scope name right bs (stores_view x))
    (λ x. Alone (match_pure scope (expr_view c.args.expression.now)) bs (stores_view x) × PureStaysPlain (expr_view c.args.expression.now) bs (stores_view x) × PureComesFrom scope (expr_view c.args.expression.now) bs (stores_view x))
    (λ x is. subst (λ (e : PureExpr). Alone (match_pure scope e) bs (stores_view x) × PureStaysPlain e bs (stores_view x) × PureComesFrom scope e bs (stores_view x)) (sym c.requires.equation) (
      equation_defines scope bs (stores_view x) left right name (sym c.in-Some.ensures) is.0,
      equation_plainly left right bs (stores_view x) is.1,
      equation_from scope bs (stores_view x) left right name (sym c.in-Some.ensures) is.2,
    )) c.define.ensures

pub returns-in-None : goal.returns-in-None
returns-in-None c =
    let bs = store_view c.args.store.now in
    let scope = c.args.scope.now in
    ok_to c.assume.result _ (λ x. Alone (match_pure scope (expr_view c.args.expression.now)) bs (stores_view x) × PureStaysPlain (expr_view c.args.expression.now) bs (stores_view x) × PureComesFrom scope (expr_view c.args.expression.now) bs (stores_view x))
    (λ x is. (
      subst (λ (e : PureExpr). Alone (match_pure scope e) bs (stores_view x)) (sym c.requires.equation)
          (equation_holds scope bs (stores_view x) (expr_view c.args.left.now) (expr_view c.args.right.now) (sym c.in-None.ensures)
          (subst (λ (e : PureExpr). Alone (λ s. where_same (evaluate e s) (boolean true) s) bs (stores_view x)) c.requires.equation is.0)),
      is.1,
      is.2 scope,
    )) c.assume.ensures
