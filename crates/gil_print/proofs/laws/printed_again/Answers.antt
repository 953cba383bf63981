use Rattle.gil_print.proofs.Texts.{printed_again}
use Rattle.gil_print.proofs.laws.printed_again.Goals as goal

pub returns : goal.returns
returns c = printed_again
