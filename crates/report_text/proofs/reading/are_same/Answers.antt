use Rattle.std.proofs.lemmas.Bool.Decides.{Decides-eqb}
use Rattle.std.proofs.lemmas.Slice.Eq.{slice_eq-Decides}
use Rattle.report_text.proofs.reading.are_same.Goals as goal

pub returns : goal.returns
returns c = slice_eq-Decides Decides-eqb c.args.first.now c.args.second.now _ c.eq.ensures
