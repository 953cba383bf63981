use Rattle.gil_lexer.proofs.TextLaws.{fault_or_tokens}
use Rattle.gil_lexer.proofs.laws.fault_or_reading.Goals as goal

pub returns : goal.returns
returns c kind at bytes tokens other h k = fault_or_tokens kind at bytes tokens other h k
