-- Where inference leaves nothing undecided of a narrow program: each beginning that is left is narrow, and so is each path.
use Rattle.std.specs.Prelude.{◌≡◌, ℕ, ◌+◌, ◌*◌, ◌^◌, ◌≤◌, ℤ, List, ◌++◌, length, false, Option, Some, None, IsTrue, ⊤}
use Rattle.std.proofs.Common.{inl, inr}
use Rattle.gil_values.specs.Pure.{PureValue}
use Rattle.gil_syntax.specs.Pure.{PureProc, PureParts}
use Rattle.gil_syntax.specs.Simple.{is_narrow}
use Rattle.gil_syntax.specs.Valid.{is_among}
use Rattle.mem_model.specs.declared.cores.Core.{Core}
use Rattle.mem_model.specs.declared.keys.MemoryName.{MemoryName}
use Rattle.mem_model.specs.Actions.{Actions}
use Rattle.mem_model.specs.CoreNames.{has_core}
use Rattle.mem_model.specs.Heaps.{Heap}
use Rattle.checked_runs.specs.Specifications.{result_name}
use Rattle.pure_terms.specs.declared.variables.Sort.{Sort}
use Rattle.pure_terms.specs.Pure.{PureTerm, PureAtom}
use Rattle.sym_evaluation.specs.Plainly.{text_bound}
use Rattle.sym_step.specs.Narrow.{IsAtNarrow, IsNarrowEndedFrom}
use Rattle.sym_model.specs.Lists.{Each}
use Rattle.sym_model.specs.Terms.{StateTerms}
use Rattle.sym_paths.specs.Pure.{PureEnd, returned, failed, threw, missed, vanished, cut, unknown, PurePath}
use Rattle.bi_beginnings.specs.Beginnings.{PureBeginning}
use Rattle.bi_beginnings.specs.Narrowly.{IsNarrowBeginning, begun_bound, BeginsNarrow, MissesNarrowly, IsLarger}
use Rattle.biabduce.specs.Sound.{PureInference}

-- The memory has named keys, and the procedure has no parameter that is called as the result is, nor more than 2^38.
pub record IsNarrowEntry (memory : MemoryName) (q : PureProc) : Type 0 where
  pub has_names : IsTrue (has_core memory Core.Prop)
  pub few_params : length q.params ≤ 2 ^ 38
  pub no_result : is_among q.params result_name ≡ false

-- Nothing needs to be left undecided of such a procedure where each command of the program is of narrow form.
pub record IsNarrowlyDecidable (p : PureParts) (memory : MemoryName) (q : PureProc) : Type 0 where
  pub narrow : IsTrue (is_narrow p)
  pub entry : IsNarrowEntry memory q

-- By how much numbers may grow from a beginning to one that fixes a key more: 10,000 for each of 10,000 uses and 10,000 steps.
abbrev pub round_growth : ℕ
round_growth = 200000000

-- the bound of the numbers of a beginning with so many uses, of which the first has those of program texts
abbrev pub numbers_at : ℕ → ℕ
numbers_at k = text_bound + k * round_growth

-- The beginning is narrow; beside the parameters' variables it has one for each use; and it has no more uses than the bound.
pub record IsNarrowLeft (q : PureProc) (bound : ℕ) (b : PureBeginning) : Type 0 where
  pub narrow : IsNarrowBeginning (numbers_at (length b.uses)) b
  pub vars : length b.vars ≡ length q.params + length b.uses
  pub within : length b.uses ≤ bound

-- nothing was left undecided, and the beginnings that are left are narrow
pub record IsNarrowlyDecided (q : PureProc) (bound : ℕ) (i : PureInference) : Type 0 where
  pub left : Each (IsNarrowLeft q bound) i.left
  pub decided : i.undecided ≡ None

abbrev pub StaysNarrowlyDecided : PureProc → ℕ → PureInference → PureInference → Type 0
StaysNarrowlyDecided q bound i j = IsNarrowlyDecided q bound i → IsNarrowlyDecided q bound j

-- the path begins narrow, with the table of the beginning
pub record StartsNarrowly {S : Type 0} (terms : S → StateTerms) (b : PureBeginning) (start : PurePath S) : Type 0 where
  pub table : start.vars ≡ b.vars
  pub begins : BeginsNarrow terms (begun_bound (numbers_at (length b.uses)) b) start

-- the path is decided, and where it missed a key, that one is a narrow name
abbrev pub IsNarrowlyClosed : MemoryName → ℕ → PureBeginning → List Sort → List PureAtom → Option PureEnd → Type 0
IsNarrowlyClosed memory n b vars conds (Some (missed key place)) = MissesNarrowly memory n b vars conds key
IsNarrowlyClosed memory n b vars conds (Some (unknown place reason)) = ⊥
IsNarrowlyClosed memory n b vars conds (Some (returned t)) = ⊤
IsNarrowlyClosed memory n b vars conds (Some (failed t place)) = ⊤
IsNarrowlyClosed memory n b vars conds (Some (threw t place)) = ⊤
IsNarrowlyClosed memory n b vars conds (Some vanished) = ⊤
IsNarrowlyClosed memory n b vars conds (Some cut) = ⊤
IsNarrowlyClosed memory n b vars conds None = ⊤

-- nothing is left undecided that wasn't, and the beginnings that are left besides are narrow, and larger than this one
pub record BeginsNarrowly (n bound : ℕ) (b : PureBeginning) (i j : PureInference) : Type 0 where
  pub more : List PureBeginning
  pub left : j.left ≡ i.left ++ more
  pub undecided : j.undecided ≡ i.undecided
  pub each : Each (λ c. IsNarrowBeginning n c × IsLarger bound b c) more

-- the same beginnings are left, and the same is undecided
pub record LeavesAlone (i j : PureInference) : Type 0 where
  pub left : j.left ≡ i.left
  pub undecided : j.undecided ≡ i.undecided

-- each command on the way to the end of the path is of narrow form
module _ {S : Type 0} (p : PureParts) (m : Actions) (stands : S → List PureValue → Heap → Type 0) (terms : S → StateTerms)
    (asked : List ℕ → List PureTerm → List PureTerm × List PureTerm) (depends : S → List ℕ → List PureTerm → List PureValue → Heap → PureTerm → Type 0)
    (plain : S → ℤ → ℤ → Type 0) (keeps_plain : Type 0) (bound : ℕ) (start path : PurePath S) where
  abbrev pub IsNarrowAlong : IsNarrowEndedFrom p m stands terms asked depends plain keeps_plain bound start path → Type 0
  IsNarrowAlong (inl (come, some)) = Each (IsAtNarrow p) come.from.earlier
  IsNarrowAlong (inr (before, (come, goes, steps, is))) = Each (IsAtNarrow p) come.from.earlier
