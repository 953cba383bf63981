use Rattle.std.proofs.Common.{map, ◌∙◌}
use Rattle.gil_syntax.specs.View.{assertion_view}
use Rattle.gil_syntax.proofs.PieceLemmas.{wide_assertions}
use Rattle.gil_syntax.proofs.limits.pred_has_wide_literal.Goals as goal

pub returns : goal.returns
returns c p = c.in_assertions.ensures ∙ wide_assertions c.args.pred.now.logicals (map assertion_view c.args.pred.now.cases)
