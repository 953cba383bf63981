use Rattle.sym_paths.proofs.PlainAnswers as proved
use Rattle.sym_paths.proofs.plain.plain_expressions_ask_nothing.Goals as goal

pub returns : goal.returns
returns c = proved.plain_expressions_ask_nothing c.folding_replaces.ensures
