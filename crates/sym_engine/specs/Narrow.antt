-- Narrow paths, and narrow commands: from a narrow path they lead to narrow candidates.
use Rattle.std.specs.Prelude.{◌≡◌, ℕ, ◌+◌, ◌≤◌, ◌^◌, pos, neg_ℤ, List, length, Option, Some, None, IsTrue, ⊤}
use Rattle.gil_syntax.specs.Pure.{PureParts, PureCommand, PureNumberedCommand}
use Rattle.gil_syntax.specs.Simple.{is_narrow_command}
use Rattle.gil_syntax.specs.Valid.{IsValid}
use Rattle.pure_terms.specs.Pure.{PureTerm}
use Rattle.sym_evaluation.specs.Plainly.{text_bound}
use Rattle.sym_model.specs.Laws.{IsDecidedWithin}
use Rattle.sym_model.specs.Lists.{Each}
use Rattle.sym_model.specs.Plain.{IsNarrowWithin, IsNarrowState, IsNarrowKey}
use Rattle.sym_model.specs.Terms.{StateTerms}
use Rattle.sym_paths.specs.Meaning.{OfEachName, IsOverTable, command_of_path}
use Rattle.sym_paths.specs.Pure.{PureEnd, returned, failed, threw, missed, vanished, cut, unknown, PurePath}
use Rattle.sym_paths.specs.Settling.{Candidate}
use Rattle.sym_paths.specs.Steps.{IsUnknown, narrow_bound}

-- By how much the numbers of a path may grow in one step: narrow commands don't compute, so it is the growth of an action alone.
abbrev pub narrow_growth : ℕ
narrow_growth = 10000

-- narrow, with literals from -b to b
abbrev pub IsNarrow : ℕ → PureTerm → Type 0
IsNarrow b t = IsNarrowWithin (neg_ℤ (pos b)) (pos b) t

-- the term of an end is narrow, and what is missed is a narrow name
abbrev pub IsNarrowEnd : ℕ → Option PureEnd → Type 0
IsNarrowEnd b (Some (returned t)) = IsNarrow b t
IsNarrowEnd b (Some (failed t place)) = IsNarrow b t
IsNarrowEnd b (Some (threw t place)) = IsNarrow b t
IsNarrowEnd b (Some (missed k place)) = IsNarrowKey (neg_ℤ (pos b)) (pos b) k.loc k.sub
IsNarrowEnd b (Some vanished) = ⊤
IsNarrowEnd b (Some cut) = ⊤
IsNarrowEnd b (Some (unknown place reason)) = ⊤
IsNarrowEnd b None = ⊤

-- A path that is narrow with numbers from -b to b: the terms of its stores, its memory and its end are narrow, its conditions have forms of
-- the fragment, and it has at most one variable for each of its steps beside the 2^39 with which it may have begun. Its variables may be of
-- sort any.
pub record IsNarrowPath {S : Type 0} (terms : S → StateTerms) (b : ℕ) (path : PurePath S) : Type 0 where
  pub stores : Each (λ f. OfEachName (IsNarrow b) f.store) path.stack
  pub memory : IsNarrowState (terms path.memory) (neg_ℤ (pos b)) (pos b)
  pub conds : Each (IsDecidedWithin (neg_ℤ (pos b)) (pos b)) path.conds
  pub ending : IsNarrowEnd b path.ending
  pub few_variables : length path.vars ≤ path.steps + 2 ^ 39

module _ {S : Type 0} (terms : S → StateTerms) where
  -- each candidate's path is narrow with numbers from -b to b
  abbrev pub AreAllNarrow : ℕ → List (Candidate S) → Type 0
  AreAllNarrow b cs = Each (λ d. IsNarrowPath terms b d.path) cs

  -- Wherever the path stands at the command in the program, which is valid, if the command has a narrow form and the path is narrow with
  -- numbers up to b, which are at least those of program texts, these candidates are narrow with larger ones.
  abbrev pub StayNarrowIn : PureParts → PurePath S → PureCommand → List (Candidate S) → Type 0
  StayNarrowIn p path command cs =
      (c : PureNumberedCommand) (b : ℕ) → IsValid p → IsOverTable terms path → command_of_path p path ≡ Some c → c.command ≡ command
      → IsTrue (is_narrow_command command) → text_bound ≤ b → IsNarrowPath terms b path → AreAllNarrow (b + narrow_growth) cs

  -- the same of every program
  abbrev pub StayNarrow : PurePath S → PureCommand → List (Candidate S) → Type 0
  StayNarrow path command cs = (p : PureParts) → StayNarrowIn p path command cs

-- Narrow: at a command of narrow form, a path that is narrow with numbers up to b, which are at least those of program texts, leads to paths
-- that are narrow with slightly larger ones, of which none is unknown, as long as those are numbers of the fragment.
abbrev pub StaysNarrow : {S : Type 0} → PureParts → (S → StateTerms) → PurePath S → List (PurePath S) → Type 0
StaysNarrow p terms path nexts =
    (c : PureNumberedCommand) (b : ℕ) → command_of_path p path ≡ Some c → IsTrue (is_narrow_command c.command) → text_bound ≤ b
    → b + narrow_growth ≤ narrow_bound → IsNarrowPath terms b path
    → Each (λ next. IsNarrowPath terms (b + narrow_growth) next × ¬ IsUnknown next.ending) nexts
