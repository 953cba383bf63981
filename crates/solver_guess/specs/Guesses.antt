-- What is guessed of a list.
use Rattle.std.specs.Prelude.{List, IsTrue}
use Rattle.std.specs.List.{list_all}
use Rattle.gil_values.specs.Pure.{PureValue}
use Rattle.gil_values.specs.View.{values_view}
use Rattle.pure_terms.specs.declared.variables.Sort.{Sort}
use Rattle.pure_terms.specs.Deciding.{has_moderate_numbers}
use Rattle.pure_terms.specs.Meaning.{Satisfies}
use Rattle.pure_terms.specs.Pure.{PureAtom}
use Rattle.solver_proof.specs.Closing.{Closes}
use Rattle.solver_proof.specs.View.{proof_view}
use Rattle.solver_guess.specs.declared.guessing.Guess.{Guess}

-- the valuation satisfies the list, with numbers that aren't too far from 0
abbrev pub IsModel : List Sort → List PureAtom → List PureValue → Type 0
IsModel vars list v = Satisfies vars v list × IsTrue (list_all has_moderate_numbers v)

-- a valuation that satisfies the list, a proof that closes it, or nothing
abbrev pub IsGuess : List Sort → List PureAtom → Guess → Type 0
IsGuess vars list (Guess.Model v) = IsModel vars list (values_view v)
IsGuess vars list (Guess.Closed p) = Closes vars list (proof_view p)
IsGuess vars list Guess.Nothing = Unit {0}
