-- What a decider tells of conditions.
use Rattle.std.specs.Prelude.{◌≡◌, List, false, IsTrue}
use Rattle.std.specs.List.{list_all}
use Rattle.gil_values.specs.Pure.{PureValue}
use Rattle.pure_terms.specs.declared.deciders.Reason.{Reason}
use Rattle.pure_terms.specs.declared.variables.Sort.{Sort}
use Rattle.pure_terms.specs.Deciding.{has_moderate_numbers}
use Rattle.pure_terms.specs.Fragment.{InFragment}
use Rattle.pure_terms.specs.Meaning.{Satisfies, IsUnsatisfiable}
use Rattle.pure_terms.specs.Pure.{PureAtom}
use Rattle.sym_model.specs.Meaning.{has_open}
use Rattle.sym_paths.specs.Steps.{IsFirstOutside}

pub data PureSatisfiability : Type 0 where
  satisfiable : List PureValue → PureSatisfiability
  unsatisfiable : PureSatisfiability
  undecided : Reason → PureSatisfiability

-- the valuation meets the conditions, none of which needs a literal form; those of the fragment it meets with moderate numbers
pub record IsSolution (vars : List Sort) (atoms : List PureAtom) (v : List PureValue) : Type 0 where
  pub meets : Satisfies vars v atoms
  pub no_form : has_open atoms ≡ false
  pub moderate : InFragment atoms → IsTrue (list_all has_moderate_numbers v)

-- the conditions aren't in the fragment, and this is why the first of them isn't that by itself isn't
pub record IsOutside (atoms : List PureAtom) (reason : Reason) : Type 0 where
  pub outside : ¬ InFragment atoms
  pub first : IsFirstOutside atoms reason

-- what is told of the conditions is so
abbrev pub IsRightly : List Sort → List PureAtom → PureSatisfiability → Type 0
IsRightly vars atoms (satisfiable v) = IsSolution vars atoms v
IsRightly vars atoms unsatisfiable = IsUnsatisfiable vars atoms
IsRightly vars atoms (undecided reason) = IsOutside atoms reason
