-- What the answers to a program's specifications say.
use Rattle.std.specs.Prelude.{◌≡◌, ℕ, List, length, Some, slice_get, ⊤}
use Rattle.gil_syntax.specs.Pure.{PureSpec, PureParts}
use Rattle.mem_model.specs.declared.keys.MemoryName.{MemoryName}
use Rattle.mem_model.specs.Actions.{Actions}
use Rattle.checked_paths.specs.Causes.{cause_view}
use Rattle.checked_runs.specs.Checked.{HasNoFault}
use Rattle.checked_runs.specs.Specifications.{SpecHolds}
use Rattle.plain_specs.specs.Contained.{IsContained, RunsAlone}
use Rattle.solver_proof.specs.Closing.{Closes}
use Rattle.solver_proof.specs.Pure.{PureProof}
use Rattle.solver_proof.specs.View.{proof_view}
use Rattle.spec_answers.specs.declared.answers.SpecAnswer.{SpecAnswer}
use Rattle.spec_answers.specs.declared.answers.Verdict.{Verdict}
use Rattle.spec_causes.specs.declared.meeting.Met.{Met}
use Rattle.spec_causes.specs.Causes.{entry_for}
use Rattle.spec_vacuity.specs.Translation.{precondition_table, precondition_atoms}
use Rattle.gil_report.specs.Pure.{PureAnswer, PureCause, verified, vacuous, unproved, fails, lacks, undecided_cause, depends}
use Rattle.report_causes.specs.Causes.{IsRightCause, IsLeftOpen, IsTooWide}
use Rattle.report_causes.specs.Names.{variable_names}
use Rattle.report_causes.specs.Telling.{CanBeTold, TellsCause}
use Rattle.spec_checker.specs.Deciding.{IsPlainSpec}
use Rattle.spec_checker.specs.Examining.{IsRefutable}
use Rattle.report_names.specs.Named.{proof_of}

-- ---- what depends on others

-- the cause isn't that of a specification that is used
abbrev pub IsOwn : PureCause → Type 0
IsOwn (depends g) = ⊥
IsOwn _ = ⊤

-- from this name on, what one depends on leads to one with a cause of its own
pub data LeadsToCause (answers : List PureAnswer) : List ℕ → Type 0 where
  has_cause : {g : List ℕ} (k : ℕ) (cause : PureCause) → slice_get answers k ≡ Some (unproved g cause) → IsOwn cause → LeadsToCause answers g
  depends_on : {g : List ℕ} (k : ℕ) (h : List ℕ) → slice_get answers k ≡ Some (unproved g (depends h)) → LeadsToCause answers h
      → LeadsToCause answers g

-- what is depended on leads to a cause
abbrev pub IsLed : List PureAnswer → PureCause → Type 0
IsLed answers (depends g) = LeadsToCause answers g
IsLed answers _ = ⊤

-- ---- what is right

module _ (memory : MemoryName) (m : Actions) (bound : ℕ) (p : PureParts) (answers : List PureAnswer) where
  -- `verified` is right where the specification holds; `vacuous` where it holds and the proof closes the atoms of its precondition, with the
  -- names of its variables; `unproved` where a checked run that begins with the values that are shown comes to the cause within the bound,
  -- or the conditions that are shown aren't decided, or the specification that it depends on leads to one with a cause of its own.
  abbrev pub IsRightAnswer : PureSpec → PureAnswer → Type 0
  IsRightAnswer s (verified name) = (name ≡ s.name) × SpecHolds p memory m s
  IsRightAnswer s (vacuous name proof) =
      (name ≡ s.name) × SpecHolds p memory m s
      × ((q : PureProof) × (proof ≡ proof_of (variable_names s) q) × Closes (precondition_table s) (precondition_atoms s) q)
  IsRightAnswer s (unproved name cause) = (name ≡ s.name) × IsRightCause p memory m s bound cause × IsLed answers cause
  IsRightAnswer s _ = ⊥

  -- what isn't verified is left open: neither a fault nor the bound is told, nor that it depends on another one
  abbrev pub TellsNoFault : PureSpec → PureAnswer → Type 0
  TellsNoFault s (unproved name (undecided_cause q)) = IsLeftOpen p memory m s bound q
  TellsNoFault s (unproved name (fails v shown)) = ⊥
  TellsNoFault s (unproved name (lacks lack shown)) = ⊥
  TellsNoFault s (unproved name (depends g)) = ⊥
  TellsNoFault s _ = ⊤

  -- nothing is told to be undecided but a cause of which a value leaves 128 bits
  abbrev pub TellsNoDoubt : PureSpec → PureAnswer → Type 0
  TellsNoDoubt s (unproved name (undecided_cause q)) = IsTooWide p memory m s bound q
  TellsNoDoubt s _ = ⊤

-- Unless a cause of its own is told, no checked run of the specification has a fault, however many steps it makes: neither of what is verified
-- or vacuous, nor of what depends on another one.
abbrev pub HasNoFaultUnlessCaused : PureParts → MemoryName → Actions → PureSpec → PureAnswer → Type 0
HasNoFaultUnlessCaused p memory m s (verified name) = HasNoFault p memory m s
HasNoFaultUnlessCaused p memory m s (vacuous name proof) = HasNoFault p memory m s
HasNoFaultUnlessCaused p memory m s (unproved name (depends g)) = HasNoFault p memory m s
HasNoFaultUnlessCaused p memory m s _ = ⊤

abbrev pub IsVacuous : PureAnswer → Type 0
IsVacuous (vacuous name proof) = ⊤
IsVacuous _ = ⊥

-- verified, or vacuous
abbrev pub IsProved : PureAnswer → Type 0
IsProved (verified name) = ⊤
IsProved (vacuous name proof) = ⊤
IsProved _ = ⊥

-- One right answer for each specification of the program, in order. One is vacuous where the list of its precondition's pure items is in the
-- fragment and nothing makes it true. Of a contained one whose runs, with nothing beside its precondition's heap, end within the bound and as
-- it tells, no fault is told. A plain one is then verified or vacuous, if the memory keeps the law of plain memories, and nothing of it is ever
-- told to be undecided, but for values that leave 128 bits.
pub record AreRightAnswers (memory : MemoryName) (m : Actions) (keeps : Type 0) (bound : ℕ) (p : PureParts) (answers : List PureAnswer) : Type 0 where
  pub as_many : length answers ≡ length p.specs
  pub each_right : (k : ℕ) (s : PureSpec) (a : PureAnswer) → slice_get p.specs k ≡ Some s → slice_get answers k ≡ Some a
      → IsRightAnswer memory m bound p answers s a
  pub refuted : (k : ℕ) (s : PureSpec) (a : PureAnswer) → slice_get p.specs k ≡ Some s → slice_get answers k ≡ Some a
      → IsRefutable s → IsVacuous a
  pub faultless : (k : ℕ) (s : PureSpec) (a : PureAnswer) → slice_get p.specs k ≡ Some s → slice_get answers k ≡ Some a
      → HasNoFaultUnlessCaused p memory m s a
  pub contained : (k : ℕ) (s : PureSpec) (a : PureAnswer) → slice_get p.specs k ≡ Some s → slice_get answers k ≡ Some a
      → IsContained p s → RunsAlone p memory m s bound → TellsNoFault memory m bound p answers s a
  pub plain : keeps → (k : ℕ) (s : PureSpec) (a : PureAnswer) → slice_get p.specs k ≡ Some s → slice_get answers k ≡ Some a
      → IsPlainSpec p s → RunsAlone p memory m s bound → IsProved a
  pub sure : keeps → (k : ℕ) (s : PureSpec) (a : PureAnswer) → slice_get p.specs k ≡ Some s → slice_get answers k ≡ Some a
      → IsPlainSpec p s → TellsNoDoubt memory m bound p answers s a

-- ---- what is reported

-- the answer to a specification of this name that is reported where this is its verdict
abbrev pub IsReportOf : PureSpec → List ℕ → Verdict Met → PureAnswer → Type 0
IsReportOf s name Verdict.Verified a = a ≡ verified name
IsReportOf s name (Verdict.Vacuous proof) a = a ≡ vacuous name (proof_of (variable_names s) (proof_view proof))
IsReportOf s name (Verdict.Unproved met) a =
    (cause : PureCause) × ((a ≡ unproved name cause) × TellsCause s (entry_for s met.entered) (cause_view met.cause) cause)
IsReportOf s name (Verdict.DependsOn g) a = a ≡ unproved name (depends g)

-- place by place
pub record ReportsEach (ss : List PureSpec) (answers : List (SpecAnswer Met)) (reported : List PureAnswer) : Type 0 where
  pub as_many : length reported ≡ length ss
  pub each_reported : (k : ℕ) (s : PureSpec) (x : SpecAnswer Met) (a : PureAnswer) → slice_get ss k ≡ Some s → slice_get answers k ≡ Some x
      → slice_get reported k ≡ Some a → IsReportOf s x.name x.verdict a

-- a cause can be told
abbrev pub CanVerdictBeTold : Verdict Met → Type 0
CanVerdictBeTold (Verdict.Unproved met) = CanBeTold (cause_view met.cause)
CanVerdictBeTold _ = ⊤

-- place by place
abbrev pub CanEachBeTold : List PureSpec → List (SpecAnswer Met) → Type 0
CanEachBeTold ss answers =
    (k : ℕ) (s : PureSpec) (x : SpecAnswer Met) → slice_get ss k ≡ Some s → slice_get answers k ≡ Some x → CanVerdictBeTold x.verdict
