use Rattle.std.proofs.Common.{sym, ◌∙◌}
use Rattle.gil_syntax.specs.Simple.{is_simple_value}
use Rattle.gil_syntax.proofs.ExpressionLemmas.{element_read}
use Rattle.gil_syntax.proofs.SimpleLemmas.{list_all-element}
use Rattle.gil_syntax.proofs.simple.are_simple_values.Goals as goal

pub returns-then-not-is_simple_value : goal.returns-then-not-is_simple_value
returns-then-not-is_simple_value c =
    let element = element_read _ _ c.loop-expression.expression-index _ c.as_slice-expression-items.ensures c.loop-expression-test.true c.expression-item.is in
    sym (list_all-element is_simple_value _ c.loop-expression.expression-index _ element (sym c.is_simple_value.ensures ∙ c.if-not-is_simple_value.true))
