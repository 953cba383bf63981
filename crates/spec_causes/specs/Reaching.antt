-- Paths that checked runs of a specification reach from its starts.
use Rattle.std.specs.Prelude.{◌≡◌, ℕ, zero, suc, List, [], ◌∷◌, Some}
use Rattle.gil_values.specs.Pure.{PureValue}
use Rattle.gil_syntax.specs.Pure.{PureParts, PureSpec}
use Rattle.mem_model.specs.declared.keys.MemoryName.{MemoryName}
use Rattle.mem_model.specs.Actions.{Actions}
use Rattle.mem_model.specs.Heaps.{Heap}
use Rattle.checked_runs.specs.Checked.{Checked, Entry, IsStart}
use Rattle.pure_terms.specs.Meaning.{Satisfies, IsOver}
use Rattle.pure_terms.specs.Pure.{PureAtom, term_of}
use Rattle.sym_model.specs.Lists.{Each}
use Rattle.sym_model.specs.Terms.{StateTerms}
use Rattle.sym_beginning.specs.Beginning.{PureStart, PureBeginnings}
use Rattle.sym_beginning.specs.Origins.{ComeOf}
use Rattle.sym_paths.specs.Steps.{counter_past}
use Rattle.checked_paths.specs.Causes.{PureShown, PureCause, failure, fault, bound, undecided, shown_in}
use Rattle.checked_paths.specs.Exactness.{HaveMoreOf}
use Rattle.checked_paths.specs.Meaning.{StandsForChecked, IsEntryOver}
use Rattle.checked_paths.specs.Pure.{PureEntry, PureChecking}
use Rattle.checked_paths.specs.Trails.{IsTrailStep}
use Rattle.checked_rows.specs.Asking.{MayAskAt}
use Rattle.spec_causes.specs.Causes.{MeetsAbove, MayBeMet, IsOnTheWay, HasRuns}

-- ---- starts

-- the entry with the terms of its beginnings
abbrev pub entry_at : {S : Type 0} → PureSpec → PureBeginnings S → PureEntry
entry_at spec b = record { spec = spec; args = b.args; variables = b.variables }

-- the path begins with these facts, and its frame passed no invariant
abbrev pub checked_start : {S : Type 0} → PureStart S → PureChecking S
checked_start s = record { path = s.path; facts = s.facts; passed = [] ∷ [] }

-- ---- what is reached

-- these conditions are the path's, and then only such that the command there may ask
abbrev pub AddsAsked : {S : Type 0} → PureParts → PureEntry → PureChecking S → List PureAtom → Type 0
AddsAsked p e x conds = HaveMoreOf (MayAskAt p e x) x.path.conds conds

-- a valuation that is shown meets the conditions that are shown
abbrev pub IsKnown : PureShown → Type 0
IsKnown shown = (u : List PureValue) → shown.valuation ≡ Some u → Satisfies shown.vars u shown.conds

module _ {S : Type 0} (p : PureParts) (memory : MemoryName) (m : Actions) (stands : S → List PureValue → Heap → Type 0)
    (terms : S → StateTerms) (e : PureEntry) where
  -- a start of a checked run for which the path stands
  pub record IsStartUnder (x : PureChecking S) (counter : ℕ) (v : List PureValue) (entry : Entry) (start : Checked) : Type 0 where
    pub is_start : IsStart p memory m entry start
    pub counted : start.machine.counter ≡ counter_past x.path.vars counter
    pub standing : StandsForChecked stands e x v entry start

  -- The path has made no step and no choice, and names only variables of its table. Wherever its conditions are met, it stands for a
  -- start of a checked run of the specification.
  pub record IsRealStart (x : PureChecking S) : Type 0 where
    pub conds_over : Each (λ a. IsOver x.path.vars (term_of a)) x.path.conds
    pub entry_over : IsEntryOver x.path.vars e
    pub no_choices : x.path.choices ≡ []
    pub no_steps : x.path.steps ≡ 0
    pub stands_there : (counter : ℕ) (v : List PureValue) → MeetsAbove counter x.path.vars x.path.conds v
        → (entry : Entry) × ((start : Checked) × IsStartUnder x counter v entry start)

  -- the path comes of the start by so many steps, at each of which only conditions are added that the command there may ask
  abbrev pub IsAskingTrail : PureChecking S → ℕ → PureChecking S → Type 0
  IsAskingTrail start zero x = x ≡ start
  IsAskingTrail start (suc n) x =
      (before : PureChecking S) × (IsAskingTrail start n before × IsTrailStep p memory m stands terms e before x
      × AddsAsked p e before x.path.conds)

  -- The path comes by as many steps as it has made of a real start, whose conditions come of adding the precondition and may be met.
  pub record IsReached (x : PureChecking S) : Type 0 where
    pub start : PureChecking S
    pub real : IsRealStart start
    pub come : ComeOf e.spec start.path.vars e.args e.variables e.spec.pre start.path.conds
    pub may_be_met : MayBeMet start.path.vars start.path.conds
    pub trail : IsAskingTrail start x.path.steps x

-- what is decided may be met
abbrev pub MayBeMetWhereDecided : PureCause → Type 0
MayBeMetWhereDecided (undecided reason shown) = Unit {0}
MayBeMetWhereDecided (failure t shown) = MayBeMet shown.vars shown.conds
MayBeMetWhereDecided (fault kind shown) = MayBeMet shown.vars shown.conds
MayBeMetWhereDecided (bound shown) = MayBeMet shown.vars shown.conds

-- what is decided is asked on the way of a run
abbrev pub IsOnTheWayWhereDecided : PureParts → MemoryName → Actions → PureEntry → ℕ → PureCause → Type 0
IsOnTheWayWhereDecided p memory m e most (undecided reason shown) = Unit {0}
IsOnTheWayWhereDecided p memory m e most (failure t shown) = IsOnTheWay p memory m e most shown
IsOnTheWayWhereDecided p memory m e most (fault kind shown) = IsOnTheWay p memory m e most shown
IsOnTheWayWhereDecided p memory m e most (bound shown) = IsOnTheWay p memory m e most shown

-- A cause with its runs, which may have no valuation that is shown.
pub record IsFoundCause (p : PureParts) (memory : MemoryName) (m : Actions) (e : PureEntry) (most : ℕ) (cause : PureCause) : Type 0 where
  pub runs : HasRuns p memory m e most cause
  pub may_be_met : MayBeMetWhereDecided cause
  pub way : IsOnTheWayWhereDecided p memory m e most cause
  pub known : IsKnown (shown_in cause)
