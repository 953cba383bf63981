-- What answers say of specifications: those that are answered verified hold.
use Rattle.std.specs.Prelude.{◌≡◌, ℕ, List, [], map, length, Bool, true, false, ◌&&◌, Some, IsTrue, slice_get, ⊤}
use Rattle.std.specs.List.{list_any}
use Rattle.std.specs.Str.{bytes_eq}
use Rattle.gil_syntax.specs.Programs.{find_spec}
use Rattle.gil_syntax.specs.Pure.{PureSpec, PureParts}
use Rattle.gil_syntax.specs.Valid.{IsValid, is_among}
use Rattle.gil_syntax.specs.WellMade.{is_well_made}
use Rattle.mem_model.specs.declared.keys.MemoryName.{MemoryName}
use Rattle.mem_model.specs.Actions.{Actions, IsMemory}
use Rattle.assert_logic.specs.Modes.{HasModes}
use Rattle.checked_runs.specs.Checked.{HasNoFault, UsesOnly}
use Rattle.checked_runs.specs.Specifications.{SpecHolds}
use Rattle.spec_answers.specs.declared.answers.Examined.{Examined}
use Rattle.spec_answers.specs.declared.answers.Finding.{Finding}
use Rattle.spec_answers.specs.declared.answers.SpecAnswer.{SpecAnswer}
use Rattle.spec_answers.specs.declared.answers.Verdict.{Verdict}

abbrev pub is_verified : {C : Type 0} → Verdict C → Bool
is_verified Verdict.Verified = true
is_verified (Verdict.Vacuous proof) = true
is_verified _ = false

-- the specification of this name is answered verified
abbrev pub is_verified_name : {C : Type 0} → List (SpecAnswer C) → List ℕ → Bool
is_verified_name answers x = list_any (λ a. bytes_eq a.name x && is_verified a.verdict) answers

-- what the findings of a program's specifications say

module _ (p : PureParts) (memory : MemoryName) (m : Actions) where
  abbrev pub FindingHolds : {C : Type 0} → PureSpec → Finding C → Type 0
  FindingHolds s (Finding.Clean xs) = HasNoFault p memory m s × UsesOnly p memory m (is_among xs) s
  FindingHolds s (Finding.Vacuous proof) = HasNoFault p memory m s × UsesOnly p memory m (is_among []) s
  FindingHolds s (Finding.Caused c) = ⊤

  -- each specification of the program was examined, in order
  pub record AreFindings {C : Type 0} (xs : List (Examined C)) : Type 0 where
    pub names : map (λ x. x.name) xs ≡ map (λ s. s.name) p.specs
    pub holds : (k : ℕ) (x : Examined C) → slice_get xs k ≡ Some x
        → (s : PureSpec) × (find_spec p.specs x.name ≡ Some s × FindingHolds s x.finding)

  -- each specification that is answered verified holds, and uses only such ones
  pub record AreTrue {C : Type 0} (answers : List (SpecAnswer C)) : Type 0 where
    pub holds : (s : PureSpec) → find_spec p.specs s.name ≡ Some s → IsTrue (is_verified_name answers s.name) → SpecHolds p memory m s
    pub uses_verified : (s : PureSpec) → find_spec p.specs s.name ≡ Some s → IsTrue (is_verified_name answers s.name)
        → UsesOnly p memory m (is_verified_name answers) s

-- ---- why a specification isn't verified

-- from this name on, what one depends on leads to one with a cause of its own
pub data LeadsToCause {C : Type 0} (answers : List (SpecAnswer C)) : List ℕ → Type 0 where
  has_cause : {g : List ℕ} (k : ℕ) (a : SpecAnswer C) (c : C) → slice_get answers k ≡ Some a → a.name ≡ g → a.verdict ≡ Verdict.Unproved c
      → LeadsToCause answers g
  depends : {g : List ℕ} (k : ℕ) (a : SpecAnswer C) (h : List ℕ) → slice_get answers k ≡ Some a → a.name ≡ g → a.verdict ≡ Verdict.DependsOn h
      → LeadsToCause answers h → LeadsToCause answers g

-- what is answered fits what was found
abbrev pub Fits : {C : Type 0} → List (SpecAnswer C) → Finding C → Verdict C → Type 0
Fits answers (Finding.Clean xs) Verdict.Verified = ⊤
Fits answers (Finding.Clean xs) (Verdict.DependsOn g) = IsTrue (is_among xs g) × LeadsToCause answers g
Fits answers (Finding.Clean xs) (Verdict.Vacuous proof) = ⊥
Fits answers (Finding.Clean xs) (Verdict.Unproved c) = ⊥
Fits answers (Finding.Vacuous proof) v = v ≡ Verdict.Vacuous proof
Fits answers (Finding.Caused c) v = v ≡ Verdict.Unproved c

pub record IsAnswerTo {C : Type 0} (answers : List (SpecAnswer C)) (x : Examined C) (a : SpecAnswer C) : Type 0 where
  pub same_name : a.name ≡ x.name
  pub fits : Fits answers x.finding a.verdict

-- ---- the answers to what was found

pub record AnswersAreRight {C : Type 0} (xs : List (Examined C)) (answers : List (SpecAnswer C)) : Type 0 where
  pub as_many : length answers ≡ length xs
  pub each_answers : (k : ℕ) (x : Examined C) (a : SpecAnswer C) → slice_get xs k ≡ Some x → slice_get answers k ≡ Some a → IsAnswerTo answers x a
  pub are_true : (p : PureParts) (memory : MemoryName) (m : Actions) → IsTrue (is_well_made p) → IsValid p → HasModes p memory → IsMemory memory m
      → AreFindings p memory m xs → AreTrue p memory m answers
