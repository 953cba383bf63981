use Rattle.spec_vacuity.proofs.Starts.{no_run}
use Rattle.spec_vacuity.proofs.laws.vacuous_specifications_have_no_run.Goals as goal

pub returns : goal.returns
returns c = no_run
