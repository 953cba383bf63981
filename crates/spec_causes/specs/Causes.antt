-- Why a specification isn't verified, told by its checked runs: under each valuation that meets what is shown, one comes to the cause.
use Rattle.std.specs.Prelude.{◌≡◌, ◌⊎◌, ℕ, ◌<◌, ◌≤◌, List, [], ◌++◌, not, Option, Some, ⊤}
use Rattle.std.specs.List.{filter}
use Rattle.gil_values.specs.declared.places.Place.{Place}
use Rattle.gil_values.specs.Pure.{PureValue}
use Rattle.gil_syntax.specs.Programs.{find_proc}
use Rattle.gil_syntax.specs.Pure.{PureNumberedCommand, PureParts, PureSpec}
use Rattle.gil_machine.specs.Choices.{with_choice}
use Rattle.gil_machine.specs.Step.{command_of}
use Rattle.mem_model.specs.declared.keys.MemoryName.{MemoryName}
use Rattle.mem_model.specs.Actions.{Actions}
use Rattle.checked_runs.specs.Checked.{Checked, Outcome, has_fault, Entry, IsStart}
use Rattle.pure_terms.specs.declared.deciders.Reason.{Reason}
use Rattle.pure_terms.specs.declared.variables.Sort.{Sort}
use Rattle.pure_terms.specs.Fragment.{InFragment}
use Rattle.pure_terms.specs.Meaning.{Satisfies}
use Rattle.pure_terms.specs.Pure.{PureAtom}
use Rattle.pure_terms.specs.View.{terms_view}
use Rattle.sym_beginning.specs.Origins.{ComeOf, NeedForm}
use Rattle.sym_evaluation.specs.View.{store_view}
use Rattle.sym_model.specs.Lists.{Each}
use Rattle.sym_model.specs.Meaning.{is_open}
use Rattle.sym_paths.specs.Steps.{counter_past, IsFirstOutside}
use Rattle.checked_paths.specs.Causes.{PureShown, PureCause, failure, fault, bound, undecided, fault_of}
use Rattle.checked_paths.specs.declared.checking.Entered.{Entered}
use Rattle.checked_paths.specs.Exactness.{AreNewValues, HaveMore, FailsWith}
use Rattle.checked_paths.specs.Meaning.{IsEntered}
use Rattle.checked_paths.specs.Pure.{PureEntry}
use Rattle.checked_paths.specs.Trails.{Runs, StandsAt, RunsInto}
use Rattle.spec_causes.specs.Asking.{AsksThere, RunsAsking}

-- ---- valuations

-- The valuation is canonical above the counter: fresh variables have the symbols from the counter on, in turn, and every other one has
-- only symbols below the counter of its turn. It meets the conditions.
pub record MeetsAbove (counter : ℕ) (vars : List Sort) (conds : List PureAtom) (w : List PureValue) : Type 0 where
  pub in_turn : AreNewValues counter vars w
  pub meets : Satisfies vars w conds

-- some valuation meets the conditions, or they aren't in the fragment
abbrev pub MayBeMet : List Sort → List PureAtom → Type 0
MayBeMet vars conds = ((w : List PureValue) × Satisfies vars w conds) ⊎ (¬ InFragment conds)

-- the conditions but for those that a literal form is needed
abbrev pub without_forms : List PureAtom → List PureAtom
without_forms conds = filter (λ a. not (is_open a)) conds

-- a valuation is shown, and it meets the conditions that are shown, above some counter
pub record ShowsMeeting (shown : PureShown) : Type 0 where
  pub valuation : List PureValue
  pub is_shown : shown.valuation ≡ Some valuation
  pub counter : ℕ
  pub meets : MeetsAbove counter shown.vars shown.conds valuation

module _ (p : PureParts) (memory : MemoryName) (m : Actions) (e : PureEntry) where
  -- ---- runs

  -- A checked run of the specification starts here, and is entered with the values of the entry's terms. Its counter is the valuation's,
  -- past the fresh variables among those with which the run begins.
  pub record StartsUnder (counter : ℕ) (vars : List Sort) (w : List PureValue) (entry : Entry) (start : Checked) : Type 0 where
    pub entered : IsEntered w e entry
    pub is_start : IsStart p memory m entry start
    pub first_vars : List Sort
    pub table : HaveMore first_vars vars
    pub counted : start.machine.counter ≡ counter_past first_vars counter

  -- under each valuation that meets the conditions above a counter, some run of the specification does this
  abbrev pub RunsWherever : List Sort → List PureAtom → (List PureValue → Entry → Checked → Type 0) → Type 0
  RunsWherever vars conds Does =
      (counter : ℕ) (w : List PureValue) → MeetsAbove counter vars conds w
      → (entry : Entry) × ((start : Checked) × (StartsUnder counter vars w entry start × Does w entry start))

  -- The run makes so many steps and stands then at the place. With the choice of one step more, if that makes one, it makes these choices.
  -- The commands at which it stood, and that at the place, may ask these conditions, one after another.
  pub record ComesTo (steps : ℕ) (choices : List ℕ) (place : Place) (asked : List PureAtom) (w : List PureValue) (entry : Entry)
      (start : Checked) : Type 0 where
    pub state : Checked
    pub there : StandsAt p memory m entry place state
    pub earlier : List ℕ
    pub asked_before : List PureAtom
    pub runs : RunsAsking p memory m entry w start steps earlier asked_before state
    pub chosen : Option ℕ
    pub choices_are : choices ≡ earlier ++ with_choice chosen []
    pub more : List PureAtom
    pub asks : Each (AsksThere p entry w state) more
    pub asked_are : asked ≡ asked_before ++ more

  -- ---- what each kind of cause says

  -- Wherever the conditions are met that are shown, a run makes fewer steps than the bound and comes by the next one to such an outcome,
  -- at the place and along the choices that are shown.
  pub record ComesSurely (most : ℕ) (Is : List PureValue → Outcome → Type 0) (shown : PureShown) : Type 0 where
    pub steps : ℕ
    pub within : steps < most
    pub runs : RunsWherever shown.vars shown.conds (λ w entry start. RunsInto p memory m entry start steps shown.choices shown.place (Is w))

  -- Wherever the conditions are met that are shown, a run makes as many steps as the bound, with the choices that are shown, and stands
  -- then at the place.
  abbrev pub ComesToBound : ℕ → PureShown → Type 0
  ComesToBound most shown =
      RunsWherever shown.vars shown.conds (λ w entry start.
      (c : Checked) × (Runs p memory m entry start most shown.choices c × StandsAt p memory m entry shown.place c))

  -- Before the first command of the specification's procedure, and before any choice, the conditions are those of adding the precondition's
  -- first items, up to one at which a literal form is needed. Apart from that they are met by some valuation, or aren't in the fragment.
  pub record IsAtFirst (shown : PureShown) : Type 0 where
    pub command : PureNumberedCommand
    pub first_there : command_of (find_proc p.procs e.spec.name) 0 ≡ Some command
    pub place : shown.place ≡ record { proc = e.spec.name; at = command.at }
    pub choices : shown.choices ≡ []
    pub come : NeedForm e.spec shown.vars e.args e.variables shown.conds
    pub may_be_met : MayBeMet shown.vars (without_forms shown.conds)

  -- The conditions go on from those of adding the whole precondition, which some valuation meets or which aren't in the fragment. Where these
  -- can be met, those can.
  pub record IsReachable (vars : List Sort) (conds : List PureAtom) : Type 0 where
    pub first_vars : List Sort
    pub first : List PureAtom
    pub come : ComeOf e.spec first_vars e.args e.variables e.spec.pre first
    pub may_be_met : MayBeMet first_vars first
    pub table : HaveMore first_vars vars
    pub longer : HaveMore first conds
    pub can : (v : List PureValue) → Satisfies first_vars v first → (w : List PureValue) × Satisfies vars w conds

  -- The conditions that are shown are those of adding the precondition, and then others that commands may ask: wherever conditions before
  -- them are met, which can be, a run comes to the place within the bound, whose commands may ask these others.
  pub record IsOnTheWay (most : ℕ) (shown : PureShown) : Type 0 where
    pub vars : List Sort
    pub conds : List PureAtom
    pub reachable : IsReachable vars conds
    pub table : HaveMore vars shown.vars
    pub longer : HaveMore conds shown.conds
    pub asked : List PureAtom
    pub are_asked : shown.conds ≡ reachable.first ++ asked
    pub steps : ℕ
    pub within : steps ≤ most
    pub runs : RunsWherever vars conds (ComesTo steps shown.choices shown.place asked)

  -- The conditions that are shown aren't in the fragment, and the reason names the first of them that by itself isn't. They are asked on the
  -- way of a run, or in adding the precondition.
  pub record IsOpen (most : ℕ) (reason : Reason) (shown : PureShown) : Type 0 where
    pub outside : ¬ InFragment shown.conds
    pub first : IsFirstOutside shown.conds reason
    pub way : IsAtFirst shown ⊎ IsOnTheWay most shown

  -- the runs of which a cause tells
  abbrev pub HasRuns : ℕ → PureCause → Type 0
  HasRuns most (failure t shown) = ComesSurely most (FailsWith t) shown
  HasRuns most (fault kind shown) = ComesSurely most (λ w out. out ≡ has_fault (fault_of kind)) shown
  HasRuns most (bound shown) = ComesToBound most shown
  HasRuns most (undecided reason shown) = IsOpen most reason shown

-- where something is decided, a valuation is shown: so it is one under which a run comes to the cause
abbrev pub ShowsWhereDecided : PureCause → Type 0
ShowsWhereDecided (failure t shown) = ShowsMeeting shown
ShowsWhereDecided (fault kind shown) = ShowsMeeting shown
ShowsWhereDecided (bound shown) = ShowsMeeting shown
ShowsWhereDecided (undecided reason shown) = ⊤

-- the entry of the specification with these terms
abbrev pub entry_for : PureSpec → Entered → PureEntry
entry_for spec e = record { spec = spec; args = terms_view e.args; variables = store_view e.variables }

-- Why the specification isn't verified within the bound. The values that the terms of the entry have under a valuation are those with which
-- a run begins.
pub record IsCauseOf (p : PureParts) (memory : MemoryName) (m : Actions) (spec : PureSpec) (most : ℕ) (e : PureEntry) (cause : PureCause)
    : Type 0 where
  pub of_spec : e.spec ≡ spec
  pub runs : HasRuns p memory m e most cause
  pub shows : ShowsWhereDecided cause
