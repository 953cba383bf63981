use Rattle.expression_text.proofs.ExpressionLaws.{expressions_again}
use Rattle.expression_text.proofs.laws.expressions_again.Goals as goal

pub returns : goal.returns
returns c = expressions_again
