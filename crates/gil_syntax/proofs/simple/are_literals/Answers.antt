use Rattle.std.proofs.Common.{sym, ◌∙◌}
use Rattle.gil_syntax.specs.Simple.{is_literal}
use Rattle.gil_syntax.proofs.ExpressionLemmas.{element_read}
use Rattle.gil_syntax.proofs.SimpleLemmas.{list_all-element}
use Rattle.gil_syntax.proofs.simple.are_literals.Goals as goal

pub returns-then-not-is_literal : goal.returns-then-not-is_literal
returns-then-not-is_literal c =
    let element = element_read _ _ c.loop-expression.expression-index _ c.as_slice-expression-items.ensures c.loop-expression-test.true c.expression-item.is in
    sym (list_all-element is_literal _ c.loop-expression.expression-index _ element (sym c.is_literal.ensures ∙ c.if-not-is_literal.true))
