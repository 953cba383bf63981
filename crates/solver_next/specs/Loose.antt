-- Disequalities of which a side is equated with no number, and which new values make true.
use Rattle.std.specs.Prelude.{◌≡◌, ◌⊎◌, ℕ, List, [], ◌∷◌, ◌++◌, slice_get, Some}
use Rattle.pure_terms.specs.Pure.{PureTerm, PureAtom}
use Rattle.equality_core.specs.Classes.{PureClasses, given_list}
use Rattle.solver_rules.specs.Laws.{IsLoose}

pub record IsLooseAtom (c : PureClasses) (a : PureAtom) : Type 0 where
  pub left : PureTerm
  pub right : PureTerm
  pub loose : IsLoose c a left right

-- the atom was added, where it is such a disequality
abbrev pub IsPushed : PureClasses → PureAtom → List PureAtom → List PureAtom → Type 0
IsPushed c a old new = (IsLooseAtom c a × (new ≡ old ++ a ∷ [])) ⊎ ((IsLooseAtom c a → ⊥) × (new ≡ old))

pub record StandsIn (list : List PureAtom) (a : PureAtom) : Type 0 where
  pub place : ℕ
  pub at : slice_get list place ≡ Some a

-- these are such disequalities of the list
abbrev pub AreSomeLoose : PureClasses → List PureAtom → Type 0
AreSomeLoose c apart = (j : ℕ) (a : PureAtom) → slice_get apart j ≡ Some a → IsLooseAtom c a × StandsIn (given_list c) a

-- and they are all
pub record AreLoose (c : PureClasses) (apart : List PureAtom) : Type 0 where
  pub some : AreSomeLoose c apart
  pub all : (i : ℕ) (a : PureAtom) → slice_get (given_list c) i ≡ Some a → IsLooseAtom c a → StandsIn apart a
