-- The checked paths of the starts of a specification.
use Rattle.std.specs.Prelude.{◌≡◌, List, true, false, Some}
use Rattle.gil_values.specs.declared.places.Place.{Place}
use Rattle.gil_syntax.specs.Programs.{find_proc}
use Rattle.gil_syntax.specs.Pure.{PureNumberedCommand, PureParts, PureSpec}
use Rattle.gil_machine.specs.Step.{command_of}
use Rattle.pure_terms.specs.declared.deciders.Reason.{Reason}
use Rattle.pure_terms.specs.Meaning.{AreOver, IsUnsatisfiable}
use Rattle.sym_paths.specs.Asking.{IsOutside}
use Rattle.sym_beginning.specs.Beginning.{PureStart}
use Rattle.sym_model.specs.Meaning.{has_open}
use Rattle.checked_paths.specs.Causes.{PureShown, PureCause, failure, fault, bound, undecided, cause_view, shown_of}
use Rattle.checked_paths.specs.Meaning.{EachWith}
use Rattle.checked_paths.specs.Pure.{PureChecking, PureNext, further, over, caused}
use Rattle.spec_causes.specs.Causes.{MayBeMet, without_forms}
use Rattle.spec_causes.specs.Reaching.{checked_start}

-- the place of the first command of the specification's procedure
abbrev pub IsFirstPlace : PureParts → PureSpec → Place → Type 0
IsFirstPlace p spec here =
    (c : PureNumberedCommand) × ((command_of (find_proc p.procs spec.name) 0 ≡ Some c) × (here ≡ record { proc = spec.name; at = c.at }))

-- the start's conditions name only variables of its table
abbrev pub IsStartOver : {S : Type 0} → PureStart S → Type 0
IsStartOver s = AreOver s.path.vars s.path.conds

-- The path begins with these facts, and its frame passed no invariant. No literal form is needed, and the conditions may be met.
pub record IsTaken {S : Type 0} (s : PureStart S) (y : PureChecking S) : Type 0 where
  pub is : y ≡ checked_start s
  pub no_form : has_open s.path.conds ≡ false
  pub may_be_met : MayBeMet s.path.vars s.path.conds

-- A literal form is needed, and the conditions aren't decided for this reason. Apart from that they may be met. They are shown at the place.
pub record IsLeftOut {S : Type 0} (here : Place) (s : PureStart S) (reason : Reason) (shown : PureShown) : Type 0 where
  pub needed : has_open s.path.conds ≡ true
  pub outside : IsOutside s.path.conds reason
  pub may_be_met : MayBeMet s.path.vars (without_forms s.path.conds)
  pub is : shown ≡ shown_of here s.path

abbrev pub IsUnknownStart : {S : Type 0} → Place → PureStart S → PureCause → Type 0
IsUnknownStart here s (undecided reason shown) = IsLeftOut here s reason shown
IsUnknownStart here s (failure t shown) = ⊥
IsUnknownStart here s (fault kind shown) = ⊥
IsUnknownStart here s (bound shown) = ⊥

-- What is answered of a start: its path, nothing where no valuation meets its conditions, or that these need a literal form.
abbrev pub IsStartOf : {S : Type 0} → Place → PureStart S → PureNext S → Type 0
IsStartOf here s (further y) = IsTaken s y
IsStartOf here s over = IsUnsatisfiable s.path.vars s.path.conds
IsStartOf here s (caused cause) = IsUnknownStart here s (cause_view cause)

abbrev pub AreStartsOf : {S : Type 0} → Place → List (PureStart S) → List (PureNext S) → Type 0
AreStartsOf here starts ns = EachWith (IsStartOf here) starts ns
