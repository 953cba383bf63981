use Rattle.std.proofs.Common.{◌≡◌, ◌-◌, length}
use Rattle.gil_syntax.specs.View.{exprs_view}
use Rattle.value_text.specs.Reading.{with_front, many_at, before_no_comma, behind_comma}
use Rattle.expression_text.specs.Reading.{any_expression_at}
use Rattle.specification_text.proofs.expressions.more_expressions.Given as goal

abbrev pub invariant-loop : goal.invariant-loop
invariant-loop l =
    with_front (exprs_view l.items) (many_at before_no_comma (behind_comma any_expression_at) (l.most - l.counter) l.rest)
    ≡ with_front (exprs_view l.fn.items) (many_at before_no_comma (behind_comma any_expression_at) (length l.bytes) l.bytes)
