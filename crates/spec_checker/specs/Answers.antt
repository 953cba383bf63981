-- What the answers to a program's specifications show, place by place.
use Rattle.std.specs.Prelude.{◌≡◌, ℕ, List, length, Some, slice_get, ⊤}
use Rattle.gil_syntax.specs.Pure.{PureSpec, PureParts}
use Rattle.mem_model.specs.declared.keys.MemoryName.{MemoryName}
use Rattle.mem_model.specs.Actions.{Actions}
use Rattle.checked_runs.specs.Checked.{HasNoFault}
use Rattle.checked_paths.specs.Causes.{cause_view}
use Rattle.solver_proof.specs.Closing.{Closes}
use Rattle.solver_proof.specs.View.{proof_view}
use Rattle.spec_answers.specs.declared.answers.SpecAnswer.{SpecAnswer}
use Rattle.spec_answers.specs.declared.answers.Verdict.{Verdict}
use Rattle.spec_answers.specs.Holding.{LeadsToCause}
use Rattle.spec_causes.specs.Causes.{IsCauseOf, entry_for}
use Rattle.spec_causes.specs.declared.meeting.Met.{Met}
pub use Rattle.spec_exploration.specs.Calls.{IsUsedByRuns}
pub use Rattle.spec_exploration.specs.Ending.{NoneIsCut}
use Rattle.spec_checker.specs.Examining.{IsRefutable}
use Rattle.spec_vacuity.specs.Translation.{precondition_table, precondition_atoms}

-- The proof of a vacuous one closes the atoms of its precondition; what one depends on leads to one with a cause of its own.
abbrev pub Shows : List (SpecAnswer Met) → PureSpec → Verdict Met → Type 0
Shows answers s (Verdict.Vacuous proof) = Closes (precondition_table s) (precondition_atoms s) (proof_view proof)
Shows answers s (Verdict.DependsOn g) = LeadsToCause answers g
Shows answers s _ = ⊤

abbrev pub IsVacuous : Verdict Met → Type 0
IsVacuous (Verdict.Vacuous proof) = ⊤
IsVacuous _ = ⊥

-- A specification is vacuous where the list of its precondition's pure items is in the fragment and nothing makes it true.
pub record IsAnswered (answers : List (SpecAnswer Met)) (s : PureSpec) (a : SpecAnswer Met) : Type 0 where
  pub same_name : a.name ≡ s.name
  pub shows : Shows answers s a.verdict
  pub refuted : IsRefutable s → IsVacuous a.verdict

pub record AnswerEach (ss : List PureSpec) (answers : List (SpecAnswer Met)) : Type 0 where
  pub as_many : length answers ≡ length ss
  pub each_answered : (k : ℕ) (s : PureSpec) (a : SpecAnswer Met) → slice_get ss k ≡ Some s → slice_get answers k ≡ Some a → IsAnswered answers s a

-- Why the specification is unproved: under each valuation that meets what is shown, one of its checked runs comes to the cause. The values
-- that the terms of the entry have under a valuation are those with which a run begins.
abbrev pub IsCauseIfUnproved : PureParts → MemoryName → Actions → ℕ → PureSpec → Verdict Met → Type 0
IsCauseIfUnproved p memory m most s (Verdict.Unproved met) = IsCauseOf p memory m s most (entry_for s met.entered) (cause_view met.cause)
IsCauseIfUnproved p memory m most s _ = ⊤

-- the same of each specification of the program, place by place
pub record AreCauses (p : PureParts) (memory : MemoryName) (m : Actions) (most : ℕ) (answers : List (SpecAnswer Met)) : Type 0 where
  pub each_right : (k : ℕ) (s : PureSpec) (a : SpecAnswer Met) → slice_get p.specs k ≡ Some s → slice_get answers k ≡ Some a
      → IsCauseIfUnproved p memory m most s a.verdict

-- unless a cause of its own is answered, no checked run of the specification has a fault
abbrev pub HasNoFaultUnlessUnproved : PureParts → MemoryName → Actions → PureSpec → Verdict Met → Type 0
HasNoFaultUnlessUnproved p memory m s (Verdict.Unproved met) = ⊤
HasNoFaultUnlessUnproved p memory m s _ = HasNoFault p memory m s

-- The same of each specification of the program, place by place: of what is verified or vacuous, and of what depends on another one.
pub record AreFaultless (p : PureParts) (memory : MemoryName) (m : Actions) (answers : List (SpecAnswer Met)) : Type 0 where
  pub each_faultless : (k : ℕ) (s : PureSpec) (a : SpecAnswer Met) → slice_get p.specs k ≡ Some s → slice_get answers k ≡ Some a
      → HasNoFaultUnlessUnproved p memory m s a.verdict

-- Unless a cause of its own is answered, no checked run of the specification is under way after as many steps as the bound.
abbrev pub NoneIsCutUnlessUnproved : PureParts → MemoryName → Actions → ℕ → PureSpec → Verdict Met → Type 0
NoneIsCutUnlessUnproved p memory m most s (Verdict.Unproved met) = ⊤
NoneIsCutUnlessUnproved p memory m most s _ = NoneIsCut p memory m most s

-- the same of each specification of the program, place by place
pub record AreEnded (p : PureParts) (memory : MemoryName) (m : Actions) (most : ℕ) (answers : List (SpecAnswer Met)) : Type 0 where
  pub each_ended : (k : ℕ) (s : PureSpec) (a : SpecAnswer Met) → slice_get p.specs k ≡ Some s → slice_get answers k ≡ Some a
      → NoneIsCutUnlessUnproved p memory m most s a.verdict

-- The specification that another one depends on is one by which a checked run of that one calls, with fewer steps before than the bound; or
-- the conditions of adding its precondition aren't in the fragment, and such a run calls so wherever they are met, and others behind them.
abbrev pub IsUsedIfDependent : PureParts → MemoryName → Actions → ℕ → PureSpec → Verdict Met → Type 0
IsUsedIfDependent p memory m most s (Verdict.DependsOn g) = IsUsedByRuns p memory m s most g
IsUsedIfDependent p memory m most s _ = ⊤

-- the same of each specification of the program, place by place
pub record AreUsed (p : PureParts) (memory : MemoryName) (m : Actions) (most : ℕ) (answers : List (SpecAnswer Met)) : Type 0 where
  pub each_used : (k : ℕ) (s : PureSpec) (a : SpecAnswer Met) → slice_get p.specs k ≡ Some s → slice_get answers k ≡ Some a
      → IsUsedIfDependent p memory m most s a.verdict
