-- What becomes of one candidate.
use Rattle.std.specs.Prelude.{◌≡◌, ℕ, List, length, ◌++◌, Option, Some, None}
use Rattle.gil_values.specs.declared.places.Place.{Place}
use Rattle.gil_syntax.specs.Pure.{PureParts}
use Rattle.pure_terms.specs.declared.variables.Sort.{Sort}
use Rattle.pure_terms.specs.Meaning.{IsOver, AreOver, IsUnsatisfiable}
use Rattle.pure_terms.specs.Pure.{PureAtom, term_of}
use Rattle.sym_model.specs.Lists.{Each}
use Rattle.sym_paths.specs.Pure.{PurePath}
use Rattle.sym_paths.specs.Settling.{Candidate, Stays}
use Rattle.sym_paths.specs.Steps.{IsPlaceOf}

-- the path has so many conditions, which name only its variables, and stands at the command of this place
pub record StandsThere {S : Type 0} (p : PureParts) (path : PurePath S) (count : ℕ) (here : Place) : Type 0 where
  pub conditions : length path.conds ≡ count
  pub over : Each (λ a. IsOver path.vars (term_of a)) path.conds
  pub place : IsPlaceOf p path.stack here

-- the candidate has the path's variables and conditions, and maybe more after them
pub record IsAfter {S : Type 0} (path : PurePath S) (c : Candidate S) : Type 0 where
  pub sorts : List Sort
  pub vars : c.path.vars ≡ path.vars ++ sorts
  pub added : List PureAtom
  pub conds : c.path.conds ≡ path.conds ++ added

-- conditions name only variables of the table
abbrev pub AreAllOver : {S : Type 0} → List (Candidate S) → Type 0
AreAllOver cs = Each (λ c. AreOver c.path.vars c.path.conds) cs

-- no valuation meets the candidate, or it is left as a path
abbrev pub SettlesAs : {S : Type 0} → PureParts → PurePath S → Candidate S → Option (PurePath S) → Type 0
SettlesAs p path c None = IsUnsatisfiable c.path.vars c.path.conds
SettlesAs p path c (Some next) = Stays p path c next
