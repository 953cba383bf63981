-- What is found on the way to the next step.
use Rattle.std.specs.Prelude.{◌≡◌, ℕ, List, slice_get, Some, IsTrue}
use Rattle.std.specs.List.{list_all}
use Rattle.gil_values.specs.Pure.{PureValue}
use Rattle.gil_values.specs.View.{values_view}
use Rattle.linear_core.specs.Answers.{IsSolution}
use Rattle.pure_terms.specs.declared.variables.Sort.{Sort}
use Rattle.pure_terms.specs.Deciding.{has_moderate_numbers}
use Rattle.pure_terms.specs.Meaning.{Satisfies}
use Rattle.pure_terms.specs.Pure.{PureAtom}
use Rattle.solver_proof.specs.Closing.{Closes}
use Rattle.solver_proof.specs.View.{proof_view}
use Rattle.equality_core.specs.Classes.{PureClasses, given_list}
use Rattle.solver_rules.specs.declared.rules.Rule.{Rule}
use Rattle.solver_rules.specs.Rows.{rows_from}
use Rattle.solver_rules.specs.Rules.{AreDone}
use Rattle.solver_next.specs.declared.numbers.NumbersFound.{NumbersFound}

-- the valuation meets the list, with numbers that aren't too far from 0
abbrev pub IsModel : List Sort → List PureAtom → List PureValue → Type 0
IsModel vars list v = Satisfies vars v list × IsTrue (list_all has_moderate_numbers v)

-- numbers that solve the rows of the list with its equalities of elements, or a proof that closes it
abbrev pub AreNumbersFound : List Sort → PureClasses → NumbersFound → Type 0
AreNumbersFound vars c (NumbersFound.Numbers v) = IsSolution vars (rows_from c.list) (values_view v)
AreNumbersFound vars c (NumbersFound.Closed p) = Closes vars (given_list c) (proof_view p)

-- none of the rules has anything to add
abbrev pub AreAllDone : List Rule → PureClasses → List PureValue → Type 0
AreAllDone rules c v = (i : ℕ) (rule : Rule) → slice_get rules i ≡ Some rule → AreDone rule c v
