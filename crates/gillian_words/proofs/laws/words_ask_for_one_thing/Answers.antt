use Rattle.gillian_words.proofs.Once.{asked_once}
use Rattle.gillian_words.proofs.laws.words_ask_for_one_thing.Goals as goal

pub returns : goal.returns
returns c words a b for other = asked_once words a b for other
