use Rattle.checked_paths.proofs.Answering.{answer_covers}
use Rattle.checked_paths.proofs.laws.answers_cover.Goals as goal

pub returns : goal.returns
returns g c = λ p e x next n v w entry c inputs over answer standing ext stood. answer_covers p _ _ _ _ g.met.M.SymMemory.meaning e x over next n v w entry c inputs answer standing ext stood
