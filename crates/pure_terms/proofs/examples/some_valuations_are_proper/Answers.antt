use Rattle.pure_terms.proofs.ProperRows.{fresh_in_lower, fresh_in_higher, too_few_values, other_sort}
use Rattle.pure_terms.proofs.examples.some_valuations_are_proper.Goals as goal

pub returns : goal.returns
returns c = record { below = fresh_in_lower; above = fresh_in_higher; too_few = too_few_values; other_sort = other_sort }
