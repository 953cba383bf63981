use Rattle.std.proofs.Common.{sym, ap, ◌∙◌, arith}
use Rattle.gil_syntax.specs.Simple.{is_plain_value}
use Rattle.gil_syntax.specs.View.{expr_view, exprs_view}
use Rattle.gil_syntax.proofs.ExpressionLemmas.{expr_view-List, element_read, node_count-element}
use Rattle.gil_syntax.proofs.SimpleLemmas.{list_all-element, are_plain_values-all}
use Rattle.gil_syntax.proofs.simple.+plain.Goals as goal

pub is_plain_value-returns-in-List : goal.is_plain_value-returns-in-List
is_plain_value-returns-in-List t c =
    c.are_plain_values.ensures ∙ sym (ap (λ e. is_plain_value (expr_view e)) c.in-List.is ∙ ap is_plain_value (expr_view-List c.in-List.elements) ∙ are_plain_values-all (exprs_view c.in-List.elements))

pub are_plain_values-is_plain_value-requires : goal.are_plain_values-is_plain_value-requires
are_plain_values-is_plain_value-requires t c =
    let element = element_read _ _ c.loop-value.value-index _ c.as_slice-value-items.ensures c.loop-value-test.true c.value-item.is in
    let smaller = node_count-element _ c.loop-value.value-index _ element in
    (omega (arith, smaller), tt)

pub are_plain_values-returns-then-not-is_plain_value : goal.are_plain_values-returns-then-not-is_plain_value
are_plain_values-returns-then-not-is_plain_value t c =
    let element = element_read _ _ c.loop-value.value-index _ c.as_slice-value-items.ensures c.loop-value-test.true c.value-item.is in
    sym (list_all-element is_plain_value _ c.loop-value.value-index _ element (sym c.is_plain_value.ensures ∙ c.if-not-is_plain_value.true))
