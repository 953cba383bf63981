use Rattle.clike_lang.proofs.MoreTurns.{ends_stay}
use Rattle.clike_lang.proofs.laws.ends_stay.Goals as goal

pub returns : goal.returns
returns c = ends_stay
