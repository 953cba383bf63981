-- What is answered of the next paths of a step of the machine.
use Rattle.std.specs.Prelude.{◌≡◌, ◌⊎◌, List, length, Bool, true, false, Option, Some, None, IsTrue, ⊤}
use Rattle.gil_values.specs.Pure.{PureValue}
use Rattle.gil_syntax.specs.Pure.{PureParts, PureCommand, assign, call, act, usym, isym, ifgoto, return, fail, throw, vanish, fold_use, unfold_use, assert_that, loop_invariant, PureNumberedCommand}
use Rattle.gil_machine.specs.Step.{step}
use Rattle.mem_model.specs.Actions.{Actions}
use Rattle.mem_model.specs.declared.keys.MemoryName.{MemoryName}
use Rattle.mem_model.specs.Heaps.{Heap}
use Rattle.checked_runs.specs.Checked.{Checked, Entry, stepped}
use Rattle.pure_terms.specs.Meaning.{Satisfies}
use Rattle.sym_model.specs.Terms.{StateTerms}
use Rattle.sym_paths.specs.Meaning.{StandsForStep, command_of_path}
use Rattle.sym_paths.specs.Pure.{PureEnd, returned, failed, threw, missed, vanished, cut, unknown, PurePath}
use Rattle.sym_paths.specs.Steps.{Extends, IsUnknown}
use Rattle.sym_states.specs.Pure.{PureFact}
use Rattle.checked_paths.specs.Covering.{CoversOutcome, IsCaused}
use Rattle.checked_paths.specs.Meaning.{EachWith, StandsForChecked, IsCheckedOver, kept_by, SayTheSame}
use Rattle.checked_paths.specs.Pure.{PureEntry, PurePassed, PureChecking, PureNext, further, over, caused}

-- what is answered of a path that ends so: one that vanished is over, and any other one is a cause
abbrev pub IsStopOf : {S : Type 0} → PureEnd → PureNext S → Type 0
IsStopOf vanished n = n ≡ over
IsStopOf (returned t) n = IsCaused n
IsStopOf (failed t place) n = IsCaused n
IsStopOf (threw t place) n = IsCaused n
IsStopOf (missed k place) n = IsCaused n
IsStopOf cut n = IsCaused n
IsStopOf (unknown place reason) n = IsCaused n

-- the same where there is an end
abbrev pub IsStop : {S : Type 0} → Option PureEnd → Option (PureNext S) → Type 0
IsStop None None = ⊤
IsStop (Some how) (Some n) = IsStopOf how n
IsStop _ _ = ⊥

module _ {S : Type 0} (stands : S → List PureValue → Heap → Type 0) (terms : S → StateTerms) (facts : List PureFact)
    (passed : List (List (PurePassed S))) where
  -- the path goes on with these facts, and with what is kept of the passed invariants
  pub record GoesOnWith (path : PurePath S) (y : PureChecking S) : Type 0 where
    pub same_path : y.path ≡ path
    pub same_facts : y.facts ≡ facts
    pub kept : SayTheSame stands terms (kept_by (length path.stack) passed) y.passed

  abbrev pub IsAnswerTo : PurePath S → Option PureEnd → PureNext S → Type 0
  IsAnswerTo path None n = (y : PureChecking S) × ((n ≡ further y) × GoesOnWith path y)
  IsAnswerTo path (Some how) n = IsStopOf how n

  -- What is answered of a next path: without an end it goes on, one that vanished is over, and any other one is a cause.
  abbrev pub IsAnswered : PurePath S → PureNext S → Type 0
  IsAnswered path n = IsAnswerTo path path.ending n

  abbrev pub EachIsAnswered : List (PurePath S) → List (PureNext S) → Type 0
  EachIsAnswered paths ns = EachWith IsAnswered paths ns

-- where a path goes on, this holds of it
abbrev pub OfGoing : {S : Type 0} → (PurePath S → Type 0) → PureNext S → Type 0
OfGoing P (further y) = P y.path
OfGoing P over = ⊤
OfGoing P (caused cause) = ⊤

-- a command of the machine that is no call
abbrev pub is_of_machine : PureCommand → Bool
is_of_machine (assign x e) = true
is_of_machine (act x action es) = true
is_of_machine (usym x) = true
is_of_machine (isym x k) = true
is_of_machine (ifgoto e i) = true
is_of_machine (return e) = true
is_of_machine (fail e) = true
is_of_machine (throw e) = true
is_of_machine vanish = true
is_of_machine (call x e es handler) = false
is_of_machine (fold_use u) = false
is_of_machine (unfold_use u) = false
is_of_machine (assert_that items) = false
is_of_machine (loop_invariant xs ps items) = false

-- such a command with which no frame ends
abbrev pub stays_in_frame : PureCommand → Bool
stays_in_frame (return e) = false
stays_in_frame (throw e) = false
stays_in_frame command = is_of_machine command

abbrev pub IsAtMachineCommand : {S : Type 0} → PureParts → PurePath S → Type 0
IsAtMachineCommand p path = (n : PureNumberedCommand) × ((command_of_path p path ≡ Some n) × IsTrue (is_of_machine n.command))

abbrev pub StaysInFrame : {S : Type 0} → PureParts → PurePath S → Type 0
StaysInFrame p path = (n : PureNumberedCommand) × ((command_of_path p path ≡ Some n) × IsTrue (stays_in_frame n.command))

-- Where a next path stands for what a step of the machine comes to, what is answered of it covers what the checked state leads to by this
-- step.
abbrev pub AnswersCover : {S : Type 0} → MemoryName → Actions → (S → List PureValue → Heap → Type 0) → (S → StateTerms) → Type 0
AnswersCover {S} memory m stands terms =
    (p : PureParts) (e : PureEntry) (x : PureChecking S) (next : PurePath S) (n : PureNext S) (v w : List PureValue) (entry : Entry) (c : Checked)
    (inputs : List PureValue) → IsCheckedOver terms e x → IsAnswered stands terms x.facts x.passed next n → StandsForChecked stands e x v entry c
    → Extends inputs c.machine x.path next v w
    → StandsForStep p m stands next w c.machine next.ending (step p m inputs c.machine)
    ⊎ (IsUnknown next.ending × Satisfies next.vars w next.conds)
    → CoversOutcome stands e entry v (stepped p memory m entry c (step p m inputs c.machine)) n
