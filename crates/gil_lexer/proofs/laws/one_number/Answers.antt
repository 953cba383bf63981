use Rattle.gil_lexer.proofs.NumberLemmas.{spells_one}
use Rattle.gil_lexer.proofs.laws.one_number.Goals as goal

pub returns : goal.returns
returns c text m n h k = spells_one text m n h k
