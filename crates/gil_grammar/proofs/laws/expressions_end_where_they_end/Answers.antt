use Rattle.gil_grammar.proofs.TextLaws.{one_expression}
use Rattle.gil_grammar.proofs.laws.expressions_end_where_they_end.Goals as goal

pub returns : goal.returns
returns c = one_expression
