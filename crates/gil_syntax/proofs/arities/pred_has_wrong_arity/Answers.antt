use Rattle.std.proofs.Common.{map, ◌∙◌}
use Rattle.gil_syntax.specs.View.{assertion_view}
use Rattle.gil_syntax.specs.ByName.{parts_of}
use Rattle.gil_syntax.proofs.PieceLemmas.{misused_assertions}
use Rattle.gil_syntax.proofs.arities.pred_has_wrong_arity.Goals as goal

pub returns : goal.returns
returns c = c.in_assertions.ensures ∙ misused_assertions (parts_of c.args.program.now) c.args.pred.now.logicals (map assertion_view c.args.pred.now.cases)
