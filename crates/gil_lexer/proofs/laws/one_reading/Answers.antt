use Rattle.gil_lexer.proofs.TextLaws.{one_list}
use Rattle.gil_lexer.proofs.laws.one_reading.Goals as goal

pub returns : goal.returns
returns c tokens others bytes h k = one_list tokens others bytes h k
