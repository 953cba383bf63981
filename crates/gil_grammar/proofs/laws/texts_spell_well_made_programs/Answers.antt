use Rattle.gil_grammar.proofs.MadeLaws.{program_makes}
use Rattle.gil_grammar.proofs.laws.texts_spell_well_made_programs.Goals as goal

pub returns : goal.returns
returns c = program_makes
