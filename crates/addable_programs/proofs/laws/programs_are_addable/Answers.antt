use Rattle.addable_programs.proofs.AddableLaws.{programs_are_addable}
use Rattle.addable_programs.proofs.laws.programs_are_addable.Goals as goal

pub returns : goal.returns
returns c = programs_are_addable
