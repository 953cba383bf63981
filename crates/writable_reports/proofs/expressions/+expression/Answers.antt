use Rattle.std.proofs.Common.{arith}
use Rattle.gil_syntax.proofs.ExpressionLemmas.{element_read, node_count-element}
use Rattle.writable_reports.proofs.expressions.+expression.Goals as goal

pub are_writable_exprs-is_writable_expr-requires : goal.are_writable_exprs-is_writable_expr-requires
are_writable_exprs-is_writable_expr-requires t c =
    let element = element_read _ _ c.loop-expression.expression-index _ c.as_slice-expression-items.ensures c.loop-expression-test.true c.expression-item.is in
    let smaller = node_count-element _ c.loop-expression.expression-index _ element in
    (omega (arith, smaller), tt)
