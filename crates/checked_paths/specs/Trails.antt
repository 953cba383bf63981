-- Trails of checked paths: each path is one that a step of the path before answers and that checked runs follow. What holds of paths at
-- their ends holds of checked runs: they make the steps and the choices of the path, and come to its cause.
use Rattle.std.specs.Prelude.{◌≡◌, ℕ, zero, suc, List, [], ◌++◌, Option, Some, ⊤}
use Rattle.gil_values.specs.declared.places.Place.{Place}
use Rattle.gil_values.specs.Pure.{PureValue}
use Rattle.gil_syntax.specs.Pure.{PureNumberedCommand, PureParts}
use Rattle.gil_machine.specs.Choices.{with_choice}
use Rattle.gil_machine.specs.Step.{command_at}
use Rattle.mem_model.specs.declared.keys.MemoryName.{MemoryName}
use Rattle.mem_model.specs.Actions.{Actions}
use Rattle.mem_model.specs.Heaps.{Heap}
use Rattle.checked_runs.specs.Checked.{Checked, Outcome, goes_on_to, has_fault, Entry}
use Rattle.pure_terms.specs.Meaning.{Satisfies}
use Rattle.sym_model.specs.Terms.{StateTerms}
use Rattle.checked_paths.specs.Causes.{PureCause, failure, fault, bound, undecided, shown_in, fault_of}
use Rattle.checked_paths.specs.Choosing.{LeadsAlong}
use Rattle.checked_paths.specs.Exactness.{IsContinued, CanBeMet, FailsWith, IsFollowed, IsRightCause}
use Rattle.checked_paths.specs.Meaning.{StandsForChecked, MayGoOn}
use Rattle.checked_paths.specs.Pure.{PureEntry, PureChecking}

-- ---- runs

module _ (p : PureParts) (memory : MemoryName) (m : Actions) (entry : Entry) where
  -- A checked run from the state makes so many steps and these choices, and comes to the other state.
  abbrev pub Runs : Checked → ℕ → List ℕ → Checked → Type 0
  Runs c0 zero choices c = (c ≡ c0) × (choices ≡ [])
  Runs c0 (suc n) choices c =
      (before : Checked) × ((earlier : List ℕ) × ((chosen : Option ℕ) × (Runs c0 n earlier before
      × LeadsAlong p memory m entry before chosen (goes_on_to c) × (choices ≡ earlier ++ with_choice chosen []))))

  -- the state stands at the command of this place
  abbrev pub StandsAt : Place → Checked → Type 0
  StandsAt place c =
      (n : PureNumberedCommand) × ((command_at p c.machine.current ≡ Some n) × (place ≡ record { proc = c.machine.current.procedure; at = n.at }))

  -- A checked run from the state makes so many steps, stands then at the command of this place, and there comes to such an outcome, with
  -- these choices.
  pub record RunsInto (c0 : Checked) (n : ℕ) (choices : List ℕ) (place : Place) (Is : Outcome → Type 0) : Type 0 where
    pub state : Checked
    pub there : StandsAt place state
    pub earlier : List ℕ
    pub runs : Runs c0 n earlier state
    pub chosen : Option ℕ
    pub outcome : Outcome
    pub leads : LeadsAlong p memory m entry state chosen outcome
    pub choices_are : choices ≡ earlier ++ with_choice chosen []
    pub is : Is outcome

-- ---- trails

module _ {S : Type 0} (p : PureParts) (memory : MemoryName) (m : Actions) (stands : S → List PureValue → Heap → Type 0)
    (terms : S → StateTerms) (e : PureEntry) where
  -- checked runs follow the path to the later one
  pub record IsTrailStep (x y : PureChecking S) : Type 0 where
    pub may : MayGoOn p terms e x
    pub followed : IsFollowed p memory m stands e x y

  -- the path comes of the start by so many steps
  abbrev pub IsTrail : PureChecking S → ℕ → PureChecking S → Type 0
  IsTrail start zero x = x ≡ start
  IsTrail start (suc n) x = (before : PureChecking S) × (IsTrail start n before × IsTrailStep before x)

  -- The path comes of the start, which stands for the checked state.
  pub record IsBeside (start : PureChecking S) (n : ℕ) (x : PureChecking S) (v0 : List PureValue) (entry : Entry) (c0 : Checked) : Type 0 where
    pub trail : IsTrail start n x
    pub standing : StandsForChecked stands e start v0 entry c0

  -- A run makes the steps and the choices of the path, which stands for what the run comes to.
  pub record IsFollowedBy (start : PureChecking S) (n : ℕ) (x : PureChecking S) (w : List PureValue) (entry : Entry) (c0 : Checked) : Type 0 where
    pub state : Checked
    pub choices : List ℕ
    pub runs : Runs p memory m entry c0 n choices state
    pub choices_are : x.path.choices ≡ start.path.choices ++ choices
    pub stands_for : StandsForChecked stands e x w entry state

-- what a cause says of the outcome under a valuation; no step comes to a bound, and what isn't decided is no outcome
abbrev pub IsOutcomeOf : PureCause → List PureValue → Outcome → Type 0
IsOutcomeOf (failure t shown) w out = FailsWith t w out
IsOutcomeOf (fault kind shown) w out = out ≡ has_fault (fault_of kind)
IsOutcomeOf (bound shown) w out = ⊥
IsOutcomeOf (undecided reason shown) w out = ⊥

-- the cause isn't that something isn't decided
abbrev pub IsDecided : PureCause → Type 0
IsDecided (undecided reason shown) = ⊥
IsDecided (failure t shown) = ⊤
IsDecided (fault kind shown) = ⊤
IsDecided (bound shown) = ⊤

-- ---- the laws

module _ {S : Type 0} (memory : MemoryName) (m : Actions) (stands : S → List PureValue → Heap → Type 0) (terms : S → StateTerms) where
  -- Where w goes on from the start's valuation and meets the path's conditions, a run follows the path.
  abbrev pub RunsFollowTrails : Type 0
  RunsFollowTrails =
      (p : PureParts) (e : PureEntry) (entry : Entry) (start : PureChecking S) (n : ℕ) (x : PureChecking S) (v0 w : List PureValue) (c0 : Checked)
      → IsBeside p memory m stands terms e start n x v0 entry c0 → IsContinued c0.machine.counter start.path.vars x.path.vars v0 w
      → Satisfies x.path.vars w x.path.conds → IsFollowedBy p memory m stands terms e start n x w entry c0

  -- Where w goes on from the start's valuation and meets the conditions that a right cause shows, a run comes to the cause at the place
  -- that is shown, and makes the choices that are shown.
  abbrev pub CausesAreOfRuns : Type 0
  CausesAreOfRuns =
      (p : PureParts) (e : PureEntry) (entry : Entry) (start : PureChecking S) (n : ℕ) (x : PureChecking S) (v0 w : List PureValue) (c0 : Checked)
      (cause : PureCause) → IsBeside p memory m stands terms e start n x v0 entry c0 → MayGoOn p terms e x
      → IsRightCause p memory m stands e x cause → IsDecided cause
      → IsContinued c0.machine.counter start.path.vars (shown_in cause).vars v0 w → Satisfies (shown_in cause).vars w (shown_in cause).conds
      → (choices : List ℕ) × (RunsInto p memory m entry c0 n choices (shown_in cause).place (IsOutcomeOf cause w)
      × ((shown_in cause).choices ≡ start.path.choices ++ choices))

  -- What can be met at the start can be met at the end of a trail, and where a right cause is shown that is decided.
  pub record TrailsCanBeMet : Type 0 where
    pub of_paths : (p : PureParts) (e : PureEntry) (start : PureChecking S) (n : ℕ) (x : PureChecking S)
        → IsTrail p memory m stands terms e start n x → CanBeMet start x.path.vars x.path.conds
    pub of_causes : (p : PureParts) (e : PureEntry) (start : PureChecking S) (n : ℕ) (x : PureChecking S) (cause : PureCause)
        → IsTrail p memory m stands terms e start n x → IsRightCause p memory m stands e x cause → IsDecided cause
        → CanBeMet start (shown_in cause).vars (shown_in cause).conds
