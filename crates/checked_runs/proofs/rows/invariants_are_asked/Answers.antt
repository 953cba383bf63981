use Rattle.std.proofs.Common.{Bool, false, codes, Option, Some, None, inr, refl, ap, true≢false}
use Rattle.gil_values.specs.Pure.{PureValue}
use Rattle.gil_values.specs.Equality.{same_value}
use Rattle.checked_runs.specs.Rows.{number_value}
use Rattle.checked_runs.proofs.rows.invariants_are_asked.Goals as goal

abbrev is_six : Option PureValue → Bool
is_six (Some v) = same_value v (number_value 6)
is_six None = false

pub returns-clause-changed : goal.returns-clause-changed
returns-clause-changed c = inr (λ same. true≢false (ap is_six (same.same_values (codes "a"))), refl)
