use Rattle.gil_lexer.proofs.TextLaws.{one_stop}
use Rattle.gil_lexer.proofs.laws.one_fault.Goals as goal

pub returns : goal.returns
returns c kind kind' at at' bytes other other' h k = one_stop kind kind' at at' bytes other other' h k
