use Rattle.std.proofs.Common.{refl}
use Rattle.checked_rows.proofs.nexts.doubted_next.Goals as goal

pub returns-clause-shows : goal.returns-clause-shows
returns-clause-shows g c = (c.in_ok-cause_of.field-0, (refl, c.in_ok-cause_of.ensures))
