-- Of which specifications a check decides: where the runs of a contained one do as it tells, no fault of it is shown.
use Rattle.std.specs.Prelude.{◌≡◌, ℕ, List, Some, slice_get, ⊤}
use Rattle.gil_syntax.specs.Pure.{PureSpec, PureParts}
use Rattle.mem_model.specs.declared.keys.MemoryName.{MemoryName}
use Rattle.mem_model.specs.Actions.{Actions}
use Rattle.checked_paths.specs.Causes.{PureCause, failure, fault, bound, undecided, cause_view}
use Rattle.checked_paths.specs.Plainly.{IsSureCause}
use Rattle.plain_specs.specs.Contained.{IsContained, RunsAlone}
use Rattle.spec_answers.specs.declared.answers.SpecAnswer.{SpecAnswer}
use Rattle.spec_answers.specs.declared.answers.Verdict.{Verdict}
use Rattle.spec_causes.specs.declared.meeting.Met.{Met}
pub use Rattle.spec_exploration.specs.Plain.{IsPlainSpec}

-- the cause is that something isn't decided
abbrev pub IsDoubt : PureCause → Type 0
IsDoubt (undecided reason shown) = ⊤
IsDoubt (failure t shown) = ⊥
IsDoubt (fault kind shown) = ⊥
IsDoubt (bound shown) = ⊥

-- the verdict is the specification's own, and not that of another one
abbrev pub IsOwn : Verdict Met → Type 0
IsOwn (Verdict.DependsOn g) = ⊥
IsOwn Verdict.Verified = ⊤
IsOwn (Verdict.Vacuous proof) = ⊤
IsOwn (Verdict.Unproved met) = ⊤

-- neither a fault nor the bound is shown
abbrev pub ShowsNoFault : Verdict Met → Type 0
ShowsNoFault (Verdict.Unproved met) = IsDoubt (cause_view met.cause)
ShowsNoFault Verdict.Verified = ⊤
ShowsNoFault (Verdict.Vacuous proof) = ⊤
ShowsNoFault (Verdict.DependsOn g) = ⊥

-- Contained: each contained specification depends on no other one. Where its runs, with nothing beside its precondition's heap, end within
-- the bound and as it tells, it is verified or vacuous, or something of it isn't decided.
pub record AreDecided (p : PureParts) (memory : MemoryName) (m : Actions) (most : ℕ) (answers : List (SpecAnswer Met)) : Type 0 where
  pub each_own : (k : ℕ) (s : PureSpec) (a : SpecAnswer Met) → slice_get p.specs k ≡ Some s → slice_get answers k ≡ Some a → IsContained p s
      → IsOwn a.verdict
  pub each_decided : (k : ℕ) (s : PureSpec) (a : SpecAnswer Met) → slice_get p.specs k ≡ Some s → slice_get answers k ≡ Some a
      → IsContained p s → RunsAlone p memory m s most → ShowsNoFault a.verdict

-- a cause isn't that something isn't decided
abbrev pub IsSureIfUnproved : Verdict Met → Type 0
IsSureIfUnproved (Verdict.Unproved met) = IsSureCause (cause_view met.cause)
IsSureIfUnproved _ = ⊤

-- verified, or vacuous
abbrev pub IsProved : Verdict Met → Type 0
IsProved Verdict.Verified = ⊤
IsProved (Verdict.Vacuous proof) = ⊤
IsProved (Verdict.Unproved met) = ⊥
IsProved (Verdict.DependsOn g) = ⊥

-- Plain: nothing of a plain specification is left undecided. Where its runs, with nothing beside its precondition's heap, end within the
-- bound and as it tells, it is verified or vacuous.
pub record AreSettled (p : PureParts) (memory : MemoryName) (m : Actions) (most : ℕ) (answers : List (SpecAnswer Met)) : Type 0 where
  pub each_sure : (k : ℕ) (s : PureSpec) (a : SpecAnswer Met) → slice_get p.specs k ≡ Some s → slice_get answers k ≡ Some a → IsPlainSpec p s
      → IsSureIfUnproved a.verdict
  pub each_proved : (k : ℕ) (s : PureSpec) (a : SpecAnswer Met) → slice_get p.specs k ≡ Some s → slice_get answers k ≡ Some a
      → IsPlainSpec p s → RunsAlone p memory m s most → IsProved a.verdict
