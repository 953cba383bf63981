use Rattle.gil_values.proofs.TableLaws.{append_joins_lists}
use Rattle.gil_values.proofs.laws.append_joins.Goals as goal

pub returns-clause-lists : goal.returns-clause-lists
returns-clause-lists c = append_joins_lists
