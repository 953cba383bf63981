use Rattle.gil_machine.proofs.Runs.{cut_at_its_bound, is_cut_as_told}
use Rattle.gil_machine.proofs.laws.bounds_cut.Goals as goal

pub returns-clause-raw : goal.returns-clause-raw
returns-clause-raw c = cut_at_its_bound

pub returns-clause-told : goal.returns-clause-told
returns-clause-told c = is_cut_as_told
