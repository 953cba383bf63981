use Rattle.gil_print.proofs.Texts.{printing_tells_programs}
use Rattle.gil_print.proofs.laws.printing_tells_programs.Goals as goal

pub returns : goal.returns
returns c = printing_tells_programs
