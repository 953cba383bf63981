use Rattle.while_text.proofs.MadeLaws.{source_makes}
use Rattle.while_text.proofs.laws.texts_compile_to_well_made_programs.Goals as goal

pub returns : goal.returns
returns c = source_makes
