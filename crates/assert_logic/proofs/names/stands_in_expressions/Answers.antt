use Rattle.std.proofs.Common.{sym, ◌∙◌}
use Rattle.gil_values.proofs.Lists.{slice_get-read}
use Rattle.gil_syntax.specs.Subexpressions.{names_of}
use Rattle.gil_syntax.specs.Valid.{is_among}
use Rattle.gil_syntax.specs.View.{expr_view}
use Rattle.gil_syntax.proofs.ExpressionLemmas.{list_any-element}
use Rattle.assert_logic.proofs.names.stands_in_expressions.Goals as goal

pub returns-then-stands_in : goal.returns-then-stands_in
returns-then-stands_in c =
    sym (list_any-element (λ e. is_among (names_of e) c.args.name.now) _ c.loop-expression.expression-index _ (slice_get-read expr_view _ c.loop-expression.expression-index _ c.loop-expression-test.true c.expression-item.is) (sym c.stands_in.ensures ∙ c.if-stands_in.true))
