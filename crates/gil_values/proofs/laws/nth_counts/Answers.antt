use Rattle.gil_values.proofs.TableLaws.{nth_counts, range_is_of_lists}
use Rattle.gil_values.proofs.laws.nth_counts.Goals as goal

pub returns-clause-element : goal.returns-clause-element
returns-clause-element c = nth_counts

pub returns-clause-range : goal.returns-clause-range
returns-clause-range c = range_is_of_lists
