-- What is found out of specifications by themselves.
use Rattle.std.specs.Prelude.{◌≡◌, ℕ, List, [], length, Option, Some, None, slice_get, ⊤}
use Rattle.gil_syntax.specs.Pure.{PureSpec, PureParts}
use Rattle.mem_model.specs.declared.keys.MemoryName.{MemoryName}
use Rattle.mem_model.specs.Actions.{Actions}
use Rattle.checked_paths.specs.Causes.{cause_view}
use Rattle.checked_paths.specs.Plainly.{IsSureCause}
use Rattle.plain_specs.specs.Contained.{IsContained}
use Rattle.pure_terms.specs.Fragment.{InFragment}
use Rattle.pure_terms.specs.Meaning.{IsUnsatisfiable}
use Rattle.solver_proof.specs.Closing.{Closes}
use Rattle.solver_proof.specs.View.{proof_view}
use Rattle.spec_answers.specs.declared.answers.Examined.{Examined}
use Rattle.spec_answers.specs.declared.answers.Finding.{Finding}
use Rattle.spec_answers.specs.Holding.{FindingHolds}
use Rattle.spec_causes.specs.Causes.{IsCauseOf, entry_for}
use Rattle.spec_causes.specs.declared.meeting.Met.{Met}
use Rattle.spec_exploration.specs.Calls.{IsUsedByRuns}
use Rattle.spec_exploration.specs.declared.exploration.Explored.{Explored}
use Rattle.spec_exploration.specs.Ending.{NoneIsCut}
use Rattle.spec_exploration.specs.Plain.{IsPlainSpec}
use Rattle.spec_vacuity.specs.Translation.{precondition_table, precondition_atoms}
use Rattle.sym_model.specs.Lists.{Each}

abbrev pub finding_by : Option Met → List (List ℕ) → Finding Met
finding_by (Some met) uses = Finding.Caused met
finding_by None uses = Finding.Clean uses

abbrev pub IsFindingOf : Explored → Finding Met → Type 0
IsFindingOf explored finding = finding ≡ finding_by explored.cause explored.uses

-- a proof that is shown closes the precondition's atoms
abbrev pub ShowsProof : PureSpec → Finding Met → Type 0
ShowsProof s (Finding.Vacuous proof) = Closes (precondition_table s) (precondition_atoms s) (proof_view proof)
ShowsProof s _ = ⊤

-- the list of the precondition's pure items is in the fragment, and nothing makes it true
pub record IsRefutable (s : PureSpec) : Type 0 where
  pub inside : InFragment (precondition_atoms s)
  pub unsatisfiable : IsUnsatisfiable (precondition_table s) (precondition_atoms s)

-- a proof was found
abbrev pub IsVacuousFinding : Finding Met → Type 0
IsVacuousFinding (Finding.Vacuous proof) = ⊤
IsVacuousFinding _ = ⊥

-- a cause that was found isn't that something isn't decided
abbrev pub IsSureIfCaused : Finding Met → Type 0
IsSureIfCaused (Finding.Caused met) = IsSureCause (cause_view met.cause)
IsSureIfCaused _ = ⊤

-- what was found names no specification that is used
abbrev pub UsesNone : Finding Met → Type 0
UsesNone (Finding.Clean uses) = uses ≡ []
UsesNone _ = ⊤

-- the cause that was found is right
abbrev pub IsCauseIfCaused : PureParts → MemoryName → Actions → ℕ → PureSpec → Finding Met → Type 0
IsCauseIfCaused p memory m most s (Finding.Caused met) = IsCauseOf p memory m s most (entry_for s met.entered) (cause_view met.cause)
IsCauseIfCaused p memory m most s _ = ⊤

-- where no cause was found, no run is cut
abbrev pub NoneIsCutUnlessCaused : PureParts → MemoryName → Actions → ℕ → PureSpec → Finding Met → Type 0
NoneIsCutUnlessCaused p memory m most s (Finding.Caused met) = ⊤
NoneIsCutUnlessCaused p memory m most s _ = NoneIsCut p memory m most s

-- and runs use each specification that is named
abbrev pub NamesUsedByRuns : PureParts → MemoryName → Actions → ℕ → PureSpec → Finding Met → Type 0
NamesUsedByRuns p memory m most s (Finding.Clean uses) = Each (IsUsedByRuns p memory m s most) uses
NamesUsedByRuns p memory m most s _ = ⊤

-- of a memory that may keep the law of plain memories
module _ (p : PureParts) (memory : MemoryName) (m : Actions) (keeps : Type 0) (most : ℕ) where
  pub record IsFound (s : PureSpec) (finding : Finding Met) : Type 0 where
    pub holds : FindingHolds p memory m s finding
    pub shows : ShowsProof s finding
    pub refuted : IsRefutable s → IsVacuousFinding finding
    pub cause : IsCauseIfCaused p memory m most s finding
    pub ended : NoneIsCutUnlessCaused p memory m most s finding
    pub used : NamesUsedByRuns p memory m most s finding
    pub contained : IsContained p s → UsesNone finding
    pub plain : keeps → IsPlainSpec p s → IsSureIfCaused finding

  pub record IsExamined (s : PureSpec) (x : Examined Met) : Type 0 where
    pub same_name : x.name ≡ s.name
    pub found : IsFound s x.finding

  -- place by place
  pub record AreExamined (ss : List PureSpec) (xs : List (Examined Met)) : Type 0 where
    pub as_many : length xs ≡ length ss
    pub each_examined : (k : ℕ) (s : PureSpec) (x : Examined Met) → slice_get ss k ≡ Some s → slice_get xs k ≡ Some x → IsExamined s x
