use Rattle.pure_terms.proofs.KindLaws.{known_kinds_are_right}
use Rattle.pure_terms.proofs.laws.known_kinds_are_right.Goals as goal

pub returns : goal.returns
returns c = known_kinds_are_right
