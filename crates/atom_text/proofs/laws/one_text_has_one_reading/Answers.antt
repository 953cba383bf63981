use Rattle.atom_text.proofs.ReadingLaws.{one_reading}
use Rattle.atom_text.proofs.laws.one_text_has_one_reading.Goals as goal

pub returns : goal.returns
returns c = one_reading
