use Rattle.std.proofs.Common.{arith}
use Rattle.gil_syntax.proofs.ExpressionLemmas.{element_read, node_count-element}
use Rattle.syntax_copy.proofs.expressions.+copy.Goals as goal

pub copy_exprs-copy_expr-requires : goal.copy_exprs-copy_expr-requires
copy_exprs-copy_expr-requires t c =
    let element = element_read _ _ c.loop-expression.expression-index _ c.as_slice-expression-items.ensures c.loop-expression-test.true
    c.expression-item.is in
    let smaller = node_count-element _ c.loop-expression.expression-index _ element in
    (omega (arith, smaller), tt)
