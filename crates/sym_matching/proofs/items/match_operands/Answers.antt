use Rattle.std.proofs.Common.{true, sym, ap, subst, ◌∙◌}
use Rattle.assert_logic.specs.Matching.{match_pure, where_same}
use Rattle.gil_syntax.specs.Evaluation.{evaluate}
use Rattle.gil_syntax.specs.Pure.{PureExpr, binary_of}
use Rattle.gil_syntax.specs.View.{expr_view}
use Rattle.gil_values.specs.declared.operators.BinOp.{BinOp}
use Rattle.gil_values.specs.Pure.{boolean}
use Rattle.sym_evaluation.specs.View.{store_view}
use Rattle.sym_states.proofs.Values.{ok_to}
use Rattle.sym_matching.specs.Origins.{PureComesFrom}
use Rattle.sym_matching.specs.Parts.{Alone}
use Rattle.sym_matching.specs.Plainly.{PureStaysPlain}
use Rattle.sym_matching.specs.View.{stores_view}
use Rattle.sym_matching.proofs.ValueLaws.{operator_holds, equal_operator}
use Rattle.sym_matching.proofs.items.match_operands.Goals as goal

pub match_equation-requires : goal.match_equation-requires
match_equation-requires c = record {
  spelled = c.requires.spelled;
  equation = c.requires.operands ∙ ap (λ (op : BinOp). binary_of op (expr_view c.args.left.now) (expr_view c.args.right.now)) (equal_operator c.args.op (sym c.is_equality.ensures ∙ c.if-is_equality.true));
}

pub returns : goal.returns
returns c =
    let bs = store_view c.args.store.now in
    let scope = c.args.scope.now in
    ok_to c.assume.result _ (λ x. Alone (match_pure scope (expr_view c.args.expression.now)) bs (stores_view x) × PureStaysPlain (expr_view c.args.expression.now) bs (stores_view x) × PureComesFrom scope (expr_view c.args.expression.now) bs (stores_view x))
    (λ x is. (
      subst (λ (e : PureExpr). Alone (match_pure scope e) bs (stores_view x)) (sym c.requires.operands)
          (operator_holds scope bs (stores_view x) c.args.op (expr_view c.args.left.now) (expr_view c.args.right.now) (sym c.is_equality.ensures ∙ c.if-is_equality.false)
          (subst (λ (e : PureExpr). Alone (λ s. where_same (evaluate e s) (boolean true) s) bs (stores_view x)) c.requires.operands is.0)),
      is.1,
      is.2 scope,
    )) c.assume.ensures
