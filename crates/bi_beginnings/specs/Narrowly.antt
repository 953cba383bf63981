-- Narrow beginnings: nothing of what comes of them is left undecided.
use Rattle.std.specs.Prelude.{◌≡◌, ◌⊎◌, ℕ, ◌+◌, ◌*◌, ◌^◌, ◌<◌, ◌≤◌, pos, neg_ℤ, List, ◌∷◌, ◌++◌, length, slice_get, Some, IsTrue, codes}
use Rattle.std.specs.Str.{bytes_eq}
use Rattle.mem_model.specs.declared.cores.Core.{Core}
use Rattle.mem_model.specs.declared.keys.MemoryName.{MemoryName}
use Rattle.mem_model.specs.CoreNames.{has_core}
use Rattle.pure_terms.specs.declared.variables.Sort.{Sort}
use Rattle.pure_terms.specs.declared.variables.Var.{Var}
use Rattle.pure_terms.specs.Meaning.{IsOver}
use Rattle.pure_terms.specs.Pure.{PureTerm, variable, PureAtom}
use Rattle.sym_model.specs.Laws.{IsDecidedWithin}
use Rattle.sym_model.specs.Lists.{Each}
use Rattle.sym_model.specs.Plain.{IsNarrowWithin, IsNarrowState, IsNarrowKey}
use Rattle.sym_model.specs.Pure.{PureUse, PureKey, sub_terms}
use Rattle.sym_model.specs.Terms.{StateTerms, AreEachOver}
use Rattle.sym_paths.specs.Pure.{PurePath}
use Rattle.sym_states.specs.Narrowly.{IsNarrowWith}
use Rattle.sym_states.specs.Plainly.{item_growth}
use Rattle.sym_states.specs.Pure.{PureState}
use Rattle.bi_beginnings.specs.declared.again.Again.{Again}
use Rattle.bi_beginnings.specs.Beginnings.{PureBeginning}
use Rattle.bi_beginnings.specs.View.{beginnings_view}

abbrev pub IsAny : Sort → Type 0
IsAny sort = sort ≡ Sort.Any

-- a use of `prop` with narrow terms, with numbers from -n to n
pub record IsNarrowCoreUse (n : ℕ) (u : PureUse) : Type 0 where
  pub of_name : IsTrue (bytes_eq u.core (codes "prop"))
  pub terms : Each (IsNarrowWithin (neg_ℤ (pos n)) (pos n)) (u.ins ++ u.outs)

-- Each variable is of sort any, and they are few; each use is one of `prop` with narrow terms, with numbers from -n to n; and the conditions
-- have forms of the fragment.
pub record IsNarrowBeginning (n : ℕ) (b : PureBeginning) : Type 0 where
  pub sorts : Each IsAny b.vars
  pub few : length b.vars ≤ 2 ^ 39
  pub uses : Each (IsNarrowCoreUse n) b.uses
  pub decided : Each (IsDecidedWithin (neg_ℤ (pos n)) (pos n)) b.conds

-- the bound of the numbers where all uses are produced
abbrev pub begun_bound : ℕ → PureBeginning → ℕ
begun_bound n b = n + length b.uses * item_growth

-- a narrow state over few variables of sort any
pub record IsNarrowStart {S : Type 0} (terms : S → StateTerms) (n : ℕ) (s : PureState S) : Type 0 where
  pub sorts : Each IsAny s.vars
  pub few : length s.vars ≤ 2 ^ 39
  pub narrow : IsNarrowWith terms n s

-- of a narrow beginning these are such states
abbrev pub StartNarrow : {S : Type 0} → (S → StateTerms) → PureBeginning → List (PureState S) → Type 0
StartNarrow terms b ss = (n : ℕ) → IsNarrowBeginning n b → Each (IsNarrowStart terms (begun_bound n b)) ss

-- the path begins with a narrow memory and with conditions of the fragment's forms, over few variables of sort any
pub record BeginsNarrow {S : Type 0} (terms : S → StateTerms) (n : ℕ) (path : PurePath S) : Type 0 where
  pub sorts : Each IsAny path.vars
  pub few : length path.vars ≤ 2 ^ 39
  pub decided : Each (IsDecidedWithin (neg_ℤ (pos n)) (pos n)) path.conds
  pub narrow_memory : IsNarrowState (terms path.memory) (neg_ℤ (pos n)) (pos n)

-- nothing is left undecided, and each path begins narrow
pub record OpensNarrow {S : Type 0} (terms : S → StateTerms) (n : ℕ) (undecided : Type 0) (starts : List (PurePath S)) : Type 0 where
  pub decided : ¬ undecided
  pub each_start : Each (BeginsNarrow terms n) starts

-- ---- again

-- the key names only variables of the table
abbrev pub IsKeyOver : List Sort → PureKey → Type 0
IsKeyOver vars key = AreEachOver vars (key.loc ∷ sub_terms key.sub)

-- a beginning that has one use and one variable more, and no more uses than the bound
pub record IsLarger (bound : ℕ) (b c : PureBeginning) : Type 0 where
  pub uses : length c.uses ≡ length b.uses + 1
  pub vars : length c.vars ≡ length b.vars + 1
  pub within : length c.uses ≤ bound

-- there are narrow beginnings, if any, which are larger, and no term of which nothing is known
abbrev pub IsNarrowAgain : ℕ → ℕ → PureBeginning → Again → Type 0
IsNarrowAgain bound n b (Again.With bs) = Each (λ c. IsNarrowBeginning n c × IsLarger bound b c) (beginnings_view bs)
IsNarrowAgain bound n b (Again.Late t) = ⊥

-- the term is a symbol that the run took
abbrev pub IsSymbolTaken : List Sort → PureTerm → Type 0
IsSymbolTaken vars t = (x : Var) × ((t ≡ variable x) × (slice_get vars x.number ≡ Some Sort.Fresh))

-- A path with this table, and with conditions of the fragment's forms, came of a narrow beginning and missed a narrow name. Each term of the
-- key names only what was there at the beginning, or is a symbol that the run took.
pub record MissesNarrowly (memory : MemoryName) (n : ℕ) (b : PureBeginning) (vars : List Sort) (conds : List PureAtom) (key : PureKey) : Type 0 where
  pub has_names : IsTrue (has_core memory Core.Prop)
  pub before : IsNarrowBeginning n b
  pub few : length b.vars < 2 ^ 39
  pub decided : Each (IsDecidedWithin (neg_ℤ (pos n)) (pos n)) conds
  pub narrow_key : IsNarrowKey (neg_ℤ (pos n)) (pos n) key.loc key.sub
  pub placed : Each (λ t. IsOver b.vars t ⊎ IsSymbolTaken vars t) (key.loc ∷ sub_terms key.sub)

-- what comes of such a path is narrow
abbrev pub AgainStaysNarrow : MemoryName → ℕ → PureBeginning → List Sort → List PureAtom → PureKey → Again → Type 0
AgainStaysNarrow memory bound b vars conds key again = (n : ℕ) → MissesNarrowly memory n b vars conds key → IsNarrowAgain bound n b again
