use Rattle.pure_terms.proofs.ProperRows.{one_satisfies, two_does_not, nothing_satisfies}
use Rattle.pure_terms.proofs.examples.some_lists_have_solutions.Goals as goal

pub returns : goal.returns
returns c = record { one = one_satisfies; not_two = two_does_not; none = nothing_satisfies }
