-- A number is ASCII, so bytes that are no text spell none.
use Rattle.gillian_words.proofs.Ascii.{number_utf8}
use Rattle.gillian_words.proofs.inputs.number_of.Goals as goal

pub returns-in-Err-clause-none : goal.returns-in-Err-clause-none
returns-in-Err-clause-none c = λ n spelled. c.in-Err.ensures.cases.0 (number_utf8 c.args.word.now spelled.no_plus spelled.digits)
