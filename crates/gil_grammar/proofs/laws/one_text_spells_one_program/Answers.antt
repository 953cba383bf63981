use Rattle.gil_grammar.proofs.TextLaws.{one_program}
use Rattle.gil_grammar.proofs.laws.one_text_spells_one_program.Goals as goal

pub returns : goal.returns
returns c = one_program
