use Rattle.std.proofs.Common.{arith}
use Rattle.source_operators.proofs.ListCodes.{uses-next}
use Rattle.source_operators.proofs.lists.operands_uses.Goals as goal

pub loop-expression-preserved : goal.loop-expression-preserved
loop-expression-preserved g c =
    let next = uses-next (g.L.Operators.codes c.args.language.now) c.args.expressions.now c.loop-expression.expression-index c.expression-item.result
    c.loop-expression-test.true c.expression-item.is in
    omega (arith, next, c.in_ok-total.ensures, c.in_ok-operand_uses.ensures, c.loop-expression.invariant)
