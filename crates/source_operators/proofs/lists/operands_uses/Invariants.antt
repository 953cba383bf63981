use Rattle.std.proofs.Common.{◌≡◌, take, map}
use Rattle.source_operators.specs.Codes.{all_uses}
use Rattle.source_operators.specs.View.{expression_view}
use Rattle.source_operators.proofs.lists.operands_uses.Given as goal

abbrev pub invariant-loop-expression : goal.invariant-loop-expression
invariant-loop-expression g l = l.total ≡ all_uses (g.L.Operators.codes l.language) (map expression_view (take l.expression-index l.expressions))
