use Rattle.gil_lexer.proofs.LiteralLaws.{literal_once}
use Rattle.gil_lexer.proofs.laws.one_literal.Goals as goal

pub returns : goal.returns
returns c text cs others h k = literal_once text cs others h k
