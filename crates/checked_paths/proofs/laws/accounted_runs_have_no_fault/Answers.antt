use Rattle.checked_paths.proofs.Above.{stands_above}
use Rattle.checked_paths.proofs.Accounting.{accounted_runs}
use Rattle.checked_paths.proofs.laws.accounted_runs_have_no_fault.Goals as goal

pub returns : goal.returns
returns g c = accounted_runs _ _ _ (stands_above _ _ _ g.met.M.SymMemory.meaning)
