use Rattle.object_lang.proofs.MoreTurns.{ends_stay}
use Rattle.object_lang.proofs.laws.ends_stay.Goals as goal

pub returns : goal.returns
returns c = ends_stay
