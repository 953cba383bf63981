use Rattle.object_text.proofs.TextMade.{source_makes}
use Rattle.object_text.proofs.laws.texts_compile_to_well_made_programs.Goals as goal

pub returns : goal.returns
returns c = source_makes
