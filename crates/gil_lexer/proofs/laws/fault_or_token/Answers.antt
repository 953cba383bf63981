use Rattle.gil_lexer.proofs.FaultReads.{no_token}
use Rattle.gil_lexer.proofs.laws.fault_or_token.Goals as goal

pub returns : goal.returns
returns c kind before form text rest other h k = no_token kind before form text rest other h k
