use Rattle.pure_terms.proofs.VariableLaws.{depend_on_variables}
use Rattle.pure_terms.proofs.laws.variables_decide.Goals as goal

pub returns : goal.returns
returns c = depend_on_variables
