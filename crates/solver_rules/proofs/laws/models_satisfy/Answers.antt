use Rattle.solver_rules.proofs.Settled.{models_satisfy}
use Rattle.solver_rules.proofs.laws.models_satisfy.Goals as goal

pub returns : goal.returns
returns c = models_satisfy
