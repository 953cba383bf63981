use Rattle.pure_terms.proofs.SymbolLaws.{invents_no_symbol}
use Rattle.pure_terms.proofs.laws.terms_invent_no_symbol.Goals as goal

pub returns : goal.returns
returns c = invents_no_symbol
