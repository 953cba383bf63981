-- Causes as pure data.
use Rattle.std.specs.Prelude.{◌≡◌, ℕ, List, Option, Some, None, ⊤}
use Rattle.std.specs.Option.{option_map}
use Rattle.gil_values.specs.declared.places.Place.{Place}
use Rattle.gil_values.specs.Pure.{PureValue}
use Rattle.gil_values.specs.View.{values_view}
use Rattle.checked_runs.specs.Checked.{Fault}
use Rattle.checked_runs.specs.Checked as runs
use Rattle.pure_terms.specs.declared.deciders.Reason.{Reason}
use Rattle.pure_terms.specs.declared.variables.Sort.{Sort}
use Rattle.pure_terms.specs.Pure.{PureTerm, PureAtom}
use Rattle.pure_terms.specs.View.{term_view, atoms_view}
use Rattle.sym_paths.specs.Pure.{PureEnd, returned, failed, threw, missed, vanished, cut, unknown, PurePath}
use Rattle.checked_paths.specs.declared.nexts.Cause.{Cause}
use Rattle.checked_paths.specs.declared.nexts.FaultKind.{FaultKind}
use Rattle.checked_paths.specs.declared.nexts.Shown.{Shown}
use Rattle.checked_paths.specs.Meaning.{EachWith}
use Rattle.checked_paths.specs.Pure.{PureNext, further, over, caused}

-- the place of the command, the choices, the table, what was assumed and the conditions of a path that came to a cause, and a valuation
-- that leads there, where one is known
pub record PureShown : Type 0 where
  pub place : Place
  pub choices : List ℕ
  pub vars : List Sort
  pub given : List PureAtom
  pub conds : List PureAtom
  pub valuation : Option (List PureValue)

pub data PureCause : Type 0 where
  failure : PureTerm → PureShown → PureCause
  fault : FaultKind → PureShown → PureCause
  bound : PureShown → PureCause
  undecided : Reason → PureShown → PureCause

abbrev pub shown_view : Shown → PureShown
shown_view s = record {
  place = s.place;
  choices = s.path;
  vars = s.vars;
  given = atoms_view s.given;
  conds = atoms_view s.conds;
  valuation = option_map values_view s.valuation;
}

abbrev pub cause_view : Cause → PureCause
cause_view (Cause.Fails t shown) = failure (term_view t) (shown_view shown)
cause_view (Cause.Fault kind shown) = fault kind (shown_view shown)
cause_view (Cause.Cut shown) = bound (shown_view shown)
cause_view (Cause.Unknown reason shown) = undecided reason (shown_view shown)

abbrev pub shown_in : PureCause → PureShown
shown_in (failure t shown) = shown
shown_in (fault kind shown) = shown
shown_in (bound shown) = shown
shown_in (undecided reason shown) = shown

-- the fault of a checked run that a cause of this kind is
abbrev pub fault_of : FaultKind → Fault
fault_of FaultKind.Missing = runs.missing
fault_of FaultKind.Post = runs.post
fault_of FaultKind.Invariant = runs.invariant
fault_of FaultKind.CallPrecondition = runs.call_precondition
fault_of FaultKind.FoldBody = runs.fold_body

-- ---- of paths that ended

-- what is shown of a path that ended, at this place
abbrev pub shown_of : {S : Type 0} → Place → PurePath S → PureShown
shown_of here path = record {
  place = here;
  choices = path.choices;
  vars = path.vars;
  given = path.given;
  conds = path.conds;
  valuation = None;
}

-- the cause that a path's end is; an end of the entry is answered as one that no postcondition tells
abbrev pub cause_of_end : PureEnd → PureShown → Option PureCause
cause_of_end (failed t place) s = Some (failure t s)
cause_of_end (missed k place) s = Some (fault FaultKind.Missing s)
cause_of_end (returned t) s = Some (fault FaultKind.Post s)
cause_of_end (threw t place) s = Some (fault FaultKind.Post s)
cause_of_end cut s = Some (bound s)
cause_of_end (unknown place reason) s = Some (undecided reason s)
cause_of_end vanished s = None

abbrev pub caused_by : {S : Type 0} → PureNext S → Option PureCause
caused_by (caused cause) = Some (cause_view cause)
caused_by (further x) = None
caused_by over = None

-- where there is an end, the answer's cause is that of the end
abbrev pub ShowsStop : {S : Type 0} → Option PureEnd → PureShown → Option (PureNext S) → Type 0
ShowsStop None s o = ⊤
ShowsStop (Some how) s (Some n) = caused_by n ≡ cause_of_end how s
ShowsStop (Some how) s None = ⊥

-- What is answered of a next path that ended shows it at this place.
abbrev pub ShowsEnd : {S : Type 0} → Place → PurePath S → PureNext S → Type 0
ShowsEnd here path n = ShowsStop path.ending (shown_of here path) (Some n)

abbrev pub EachShowsEnd : {S : Type 0} → Place → List (PurePath S) → List (PureNext S) → Type 0
EachShowsEnd here paths ns = EachWith (ShowsEnd here) paths ns
