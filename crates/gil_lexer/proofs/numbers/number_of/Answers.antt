use Rattle.gil_lexer.proofs.NumberLemmas.{number_said, number_unsaid}
use Rattle.gil_lexer.proofs.numbers.number_of.Goals as goal

pub returns-clause-some : goal.returns-clause-some
returns-clause-some c = number_said _ _ c.value.ensures

pub returns-clause-none : goal.returns-clause-none
returns-clause-none c = number_unsaid _ _ c.value.ensures
