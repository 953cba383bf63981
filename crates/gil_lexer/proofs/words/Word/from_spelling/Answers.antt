use Rattle.gil_lexer.proofs.WordLemmas.{spelled, unspelled}
use Rattle.gil_lexer.proofs.words.Word.from_spelling.Goals as goal

pub returns-clause-some : goal.returns-clause-some
returns-clause-some c = spelled _ _ c.find_word.ensures

pub returns-clause-none : goal.returns-clause-none
returns-clause-none c = unspelled _ _ c.find_word.ensures
