use Rattle.pure_terms.proofs.VariableLaws.{stay_when_tables_grow}
use Rattle.pure_terms.proofs.laws.tables_may_grow.Goals as goal

pub returns : goal.returns
returns c = stay_when_tables_grow
