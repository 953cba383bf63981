-- Narrow trails: where each command on the way has a narrow form, a path that began narrow stays narrow.
use Rattle.std.specs.Prelude.{◌≡◌, ◌⊎◌, ℕ, ◌+◌, ◌*◌, ◌≤◌, ℤ, List, length, Some, None, IsSome, IsTrue}
use Rattle.gil_values.specs.Pure.{PureValue}
use Rattle.gil_syntax.specs.Pure.{PureParts, PureNumberedCommand}
use Rattle.gil_syntax.specs.Simple.{is_narrow_command}
use Rattle.mem_model.specs.Actions.{Actions}
use Rattle.mem_model.specs.Heaps.{Heap}
use Rattle.pure_terms.specs.Pure.{PureTerm}
use Rattle.sym_engine.specs.Narrow.{narrow_growth, IsNarrowPath}
use Rattle.sym_evaluation.specs.Plainly.{text_bound}
use Rattle.sym_step.specs.Exploring.{IsFrom, cut_off}
use Rattle.sym_step.specs.Plain.{EachStep}
use Rattle.sym_step.specs.Trails.{IsTrail}
use Rattle.sym_model.specs.Lists.{Each}
use Rattle.sym_model.specs.Terms.{StateTerms}
use Rattle.sym_paths.specs.Meaning.{command_of_path}
use Rattle.sym_paths.specs.Pure.{PurePath}
use Rattle.sym_paths.specs.Steps.{IsUnknown, narrow_bound}

-- the command of the path has a narrow form
abbrev pub IsAtNarrow : {S : Type 0} → PureParts → PurePath S → Type 0
IsAtNarrow p path = (c : PureNumberedCommand) × ((command_of_path p path ≡ Some c) × IsTrue (is_narrow_command c.command))

-- At a command of narrow form, a path that is narrow with numbers up to b, which are at least those of program texts, leads to one that is
-- narrow with slightly larger ones, and isn't unknown, as long as those are numbers of the fragment.
abbrev pub LeadsNarrowly : {S : Type 0} → PureParts → (S → StateTerms) → PurePath S → PurePath S → Type 0
LeadsNarrowly p terms path next =
    (b : ℕ) → IsAtNarrow p path → text_bound ≤ b → b + narrow_growth ≤ narrow_bound → IsNarrowPath terms b path
    → IsNarrowPath terms (b + narrow_growth) next × ¬ IsUnknown next.ending

-- the bound of the numbers after so many steps
abbrev pub grown_narrowly : ℕ → ℕ → ℕ
grown_narrowly n b = b + n * narrow_growth

-- Narrow: along a trail whose commands have narrow forms, a path that began narrow is narrow with numbers that grow with each step, and
-- isn't unknown, as long as they are numbers of the fragment.
pub record TrailsStayNarrow {S : Type 0} (p : PureParts) (m : Actions) (stands : S → List PureValue → Heap → Type 0)
    (terms : S → StateTerms) (asked : List ℕ → List PureTerm → List PureTerm × List PureTerm) : Type 0 where
  pub narrow_path : (start path : PurePath S) (earlier : List (PurePath S)) (b : ℕ)
      → IsTrail p m stands terms asked start earlier path → EachStep (LeadsNarrowly p terms) earlier path → Each (IsAtNarrow p) earlier
      → text_bound ≤ b → grown_narrowly (length earlier) b ≤ narrow_bound → IsNarrowPath terms b start
      → IsNarrowPath terms (grown_narrowly (length earlier) b) path
  pub known : (start path : PurePath S) (earlier : List (PurePath S)) (b : ℕ)
      → IsTrail p m stands terms asked start earlier path → EachStep (LeadsNarrowly p terms) earlier path → Each (IsAtNarrow p) earlier
      → text_bound ≤ b → grown_narrowly (length earlier) b ≤ narrow_bound → IsNarrowPath terms b start → ¬ IsUnknown start.ending
      → ¬ IsUnknown path.ending

module _ {S : Type 0} (p : PureParts) (m : Actions) (stands : S → List PureValue → Heap → Type 0) (terms : S → StateTerms)
    (asked : List ℕ → List PureTerm → List PureTerm × List PureTerm) (depends : S → List ℕ → List PureTerm → List PureValue → Heap → PureTerm → Type 0)
    (plain : S → ℤ → ℤ → Type 0) (keeps_plain : Type 0) (bound : ℕ) where
  -- the path comes from the start, and at commands of narrow form it stayed narrow
  pub record IsNarrowFrom (start path : PurePath S) : Type 0 where
    pub from : IsFrom p m stands terms asked depends plain keeps_plain bound start path
    pub narrow : EachStep (LeadsNarrowly p terms) from.earlier path

  -- The path has an end and comes so from the start; or a path without an end does, with as many steps as the bound, and it is that one, cut.
  abbrev pub IsNarrowEndedFrom : PurePath S → PurePath S → Type 0
  IsNarrowEndedFrom start path =
      (IsNarrowFrom start path × IsSome path.ending)
      ⊎ ((last : PurePath S) × (IsNarrowFrom start last × (last.ending ≡ None) × (last.steps ≡ bound) × (path ≡ cut_off last)))

  -- Wherever paths come from so, those that are left come from there so too, and those that are handed out do as ended ones.
  abbrev pub KeepNarrowTrails : List (PurePath S) → List (PurePath S) → List (PurePath S) → Type 0
  KeepNarrowTrails paths ended left =
      (start : PurePath S) → Each (IsNarrowFrom start) paths → Each (IsNarrowEndedFrom start) ended × Each (IsNarrowFrom start) left
