use Rattle.sym_chunks.proofs.CaseLaws.{chosen_cases}
use Rattle.sym_chunks.proofs.laws.cases_are_chosen.Goals as goal

pub returns : goal.returns
returns c = chosen_cases
