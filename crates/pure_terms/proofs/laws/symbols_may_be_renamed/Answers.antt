use Rattle.pure_terms.proofs.Renamed.{renaming_keeps}
use Rattle.pure_terms.proofs.laws.symbols_may_be_renamed.Goals as goal

pub returns : goal.returns
returns c = renaming_keeps
