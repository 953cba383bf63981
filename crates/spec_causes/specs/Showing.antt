-- What is shown of a cause: a valuation that meets its conditions, or that they aren't decided.
use Rattle.std.specs.Prelude.{◌≡◌, ◌⊎◌, ℕ, List, Some}
use Rattle.gil_values.specs.Pure.{PureValue}
use Rattle.pure_terms.specs.declared.deciders.Reason.{Reason}
use Rattle.pure_terms.specs.declared.variables.Sort.{Sort}
use Rattle.pure_terms.specs.Fragment.{InFragment}
use Rattle.pure_terms.specs.Meaning.{IsUnsatisfiable, Satisfies}
use Rattle.pure_terms.specs.Pure.{PureAtom}
use Rattle.sym_paths.specs.Steps.{IsFirstOutside}
use Rattle.checked_paths.specs.Causes.{PureShown, PureCause, failure, fault, bound, undecided}
use Rattle.checked_paths.specs.Exactness.{AreNewValues}
use Rattle.spec_causes.specs.Causes.{MeetsAbove}

-- The valuation w is canonical above some counter, and meets what v meets.
pub record IsCanonicalLike (vars : List Sort) (v w : List PureValue) : Type 0 where
  pub counter : ℕ
  pub in_turn : AreNewValues counter vars w
  pub meets : (atoms : List PureAtom) → Satisfies vars v atoms → Satisfies vars w atoms

pub data PureTelling : Type 0 where
  met : List PureValue → PureTelling
  left_open : Reason → PureTelling

-- The conditions aren't in the fragment, or no valuation meets them; and this names the first that by itself isn't in the fragment.
pub record IsLeftOpen (shown : PureShown) (reason : Reason) : Type 0 where
  pub outside : (¬ InFragment shown.conds) ⊎ IsUnsatisfiable shown.vars shown.conds
  pub first : IsFirstOutside shown.conds reason

-- what is told of the conditions is so
abbrev pub IsToldOf : PureShown → PureTelling → Type 0
IsToldOf shown (met w) = (counter : ℕ) × MeetsAbove counter shown.vars shown.conds w
IsToldOf shown (left_open reason) = IsLeftOpen shown reason

-- the same with a valuation that meets the conditions
pub record HasValuation (before after : PureShown) : Type 0 where
  pub valuation : List PureValue
  pub same_else : after ≡ record before { valuation = Some valuation }
  pub counter : ℕ
  pub meets : MeetsAbove counter before.vars before.conds valuation

-- the same cause, with a valuation if it is decided; or it is left open
abbrev pub IsShownAs : PureCause → PureCause → Type 0
IsShownAs (undecided q shown) after = after ≡ undecided q shown
IsShownAs (failure t shown) (failure u after) = (u ≡ t) × HasValuation shown after
IsShownAs (fault kind shown) (fault k after) = (k ≡ kind) × HasValuation shown after
IsShownAs (bound shown) (bound after) = HasValuation shown after
IsShownAs (failure t shown) (undecided reason after) = (after ≡ shown) × IsLeftOpen shown reason
IsShownAs (fault kind shown) (undecided reason after) = (after ≡ shown) × IsLeftOpen shown reason
IsShownAs (bound shown) (undecided reason after) = (after ≡ shown) × IsLeftOpen shown reason
IsShownAs _ _ = ⊥
