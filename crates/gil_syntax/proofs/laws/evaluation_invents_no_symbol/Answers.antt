use Rattle.gil_syntax.proofs.Symbols.{invents_no_symbol}
use Rattle.gil_syntax.proofs.laws.evaluation_invents_no_symbol.Goals as goal

pub returns : goal.returns
returns c = invents_no_symbol
