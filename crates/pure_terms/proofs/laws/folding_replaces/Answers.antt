use Rattle.pure_terms.proofs.FoldingLaws.{folding_replaces}
use Rattle.pure_terms.proofs.laws.folding_replaces.Goals as goal

pub returns : goal.returns
returns c = folding_replaces
