-- Plain trails: where each command on the way has a simple form, a path that began plain stays plain.
use Rattle.std.specs.Prelude.{◌≡◌, ℕ, ◌+◌, ◌*◌, ◌≤◌, ℤ, List, [], ◌∷◌, length, Some, IsTrue, ⊤}
use Rattle.gil_values.specs.Pure.{PureValue}
use Rattle.gil_syntax.specs.Pure.{PureParts, PureNumberedCommand}
use Rattle.gil_syntax.specs.Simple.{is_simple_command}
use Rattle.mem_model.specs.Actions.{Actions}
use Rattle.mem_model.specs.Heaps.{Heap}
use Rattle.pure_terms.specs.Pure.{PureTerm}
use Rattle.sym_step.specs.Trails.{IsTrail}
use Rattle.sym_model.specs.Lists.{Each}
use Rattle.sym_model.specs.Terms.{StateTerms}
use Rattle.sym_paths.specs.Meaning.{command_of_path}
use Rattle.sym_paths.specs.Pure.{PurePath}
use Rattle.sym_paths.specs.Steps.{IsPlainPath, IsUnknown, step_growth, narrow_bound}

-- what holds of each path of a trail and the path before it
abbrev pub EachStep : {S : Type 0} → (PurePath S → PurePath S → Type 0) → List (PurePath S) → PurePath S → Type 0
EachStep Holds [] path = ⊤
EachStep Holds (before ∷ earlier) path = Holds before path × EachStep Holds earlier before

-- the command of the path has a simple form
abbrev pub IsAtSimple : {S : Type 0} → PureParts → PurePath S → Type 0
IsAtSimple p path = (c : PureNumberedCommand) × ((command_of_path p path ≡ Some c) × IsTrue (is_simple_command c.command))

-- At a command of a simple form, a path that is plain with numbers up to b leads to one that is plain with larger ones, and isn't
-- unknown, as long as those are numbers of the fragment.
abbrev pub StaysPlain : {S : Type 0} → PureParts → (S → ℤ → ℤ → Type 0) → PurePath S → PurePath S → Type 0
StaysPlain p plain path next =
    (b : ℕ) → IsAtSimple p path → b + step_growth ≤ narrow_bound → IsPlainPath plain b path
    → IsPlainPath plain (b + step_growth) next × ¬ IsUnknown next.ending

-- the bound of the numbers after so many steps
abbrev pub grown : ℕ → ℕ → ℕ
grown n b = b + n * step_growth

-- Simple: along a trail whose commands have simple forms, a path that began plain is plain with numbers that grow with each step, and
-- isn't unknown, as long as they are numbers of the fragment. For 10,000 steps from a start without numbers they are.
pub record TrailsStayPlain {S : Type 0} (p : PureParts) (m : Actions) (stands : S → List PureValue → Heap → Type 0)
    (terms : S → StateTerms) (asked : List ℕ → List PureTerm → List PureTerm × List PureTerm) (plain : S → ℤ → ℤ → Type 0) : Type 0 where
  pub plain_path : (start path : PurePath S) (earlier : List (PurePath S)) (b : ℕ)
      → IsTrail p m stands terms asked start earlier path → EachStep (StaysPlain p plain) earlier path → Each (IsAtSimple p) earlier
      → grown (length earlier) b ≤ narrow_bound → IsPlainPath plain b start → IsPlainPath plain (grown (length earlier) b) path
  pub known : (start path : PurePath S) (earlier : List (PurePath S)) (b : ℕ)
      → IsTrail p m stands terms asked start earlier path → EachStep (StaysPlain p plain) earlier path → Each (IsAtSimple p) earlier
      → grown (length earlier) b ≤ narrow_bound → IsPlainPath plain b start → ¬ IsUnknown start.ending → ¬ IsUnknown path.ending
  pub narrow : (n : ℕ) → n ≤ 10000 → grown n 0 ≤ narrow_bound
