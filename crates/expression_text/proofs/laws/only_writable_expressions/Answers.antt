use Rattle.expression_text.proofs.ExpressionSays.{only_writable_expressions}
use Rattle.expression_text.proofs.laws.only_writable_expressions.Goals as goal

pub returns : goal.returns
returns c = only_writable_expressions
