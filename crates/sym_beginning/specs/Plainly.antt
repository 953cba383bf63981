-- Where a specification begins whose names have plain sorts and whose precondition has plain items: on plain paths without facts.
use Rattle.std.specs.Prelude.{◌≡◌, ℕ, ◌+◌, ◌*◌, ◌^◌, ◌≤◌, ℤ, List, [], length, false, IsTrue}
use Rattle.gil_values.specs.Pure.{PureValue, list, no_values}
use Rattle.gil_syntax.specs.declared.assertions.Param.{Param}
use Rattle.gil_syntax.specs.Pure.{PureItem, PureProc, PureSpec}
use Rattle.gil_syntax.specs.Valid.{param_names, is_among}
use Rattle.mem_model.specs.declared.keys.MemoryName.{MemoryName}
use Rattle.mem_model.specs.Heaps.{Heap}
use Rattle.assert_logic.specs.Modes.{is_variable_of}
use Rattle.assert_logic.specs.Sorts.{fits_sorts}
use Rattle.sym_evaluation.specs.Plainly.{IsPlain, IsPlainStore, text_bound}
use Rattle.sym_model.specs.Lists.{Each}
use Rattle.sym_model.specs.Terms.{StateTerms}
use Rattle.sym_paths.specs.Steps.{IsPlainPath}
use Rattle.sym_paths.specs.Plain.{IsPlainItem}
use Rattle.sym_states.specs.Laws.{ComeFromItems}
use Rattle.sym_states.specs.Plainly.{StayPlain, item_growth}
use Rattle.sym_states.specs.Pure.{PureState}
use Rattle.sym_beginning.specs.Beginning.{PureBeginnings}
use Rattle.sym_beginning.specs.Entering.{PureEntryTerms}
use Rattle.sym_beginning.specs.Starting.{IsFirstState, BeginsEach}

-- ---- specifications

-- a sort other than any and list is declared for the name: no list has all its sorts
abbrev pub TakesNoList : List Param → List ℕ → Type 0
TakesNoList ps x = fits_sorts ps x (list no_values) ≡ false

-- Each parameter, and each variable that the precondition names, takes no list; and they are few.
pub record HasPlainSorts (s : PureSpec) : Type 0 where
  pub params : (x : List ℕ) → IsTrue (is_among (param_names s.params) x) → TakesNoList s.params x
  pub variables : (x : List ℕ) → IsTrue (is_variable_of s x) → TakesNoList s.logicals x
  pub few : length s.params + length s.logicals ≤ 2 ^ 39

-- and each item of the precondition is plain
pub record BeginsPlainly (s : PureSpec) : Type 0 where
  pub sorts : HasPlainSorts s
  pub items : Each IsPlainItem s.pre

-- ---- entries

-- the terms are plain, without numbers, over a table of few variables
pub record IsPlainEntry (e : PureEntryTerms) : Type 0 where
  pub args : Each (IsPlain 0) e.args
  pub variables : IsPlainStore 0 e.variables
  pub store : IsPlainStore 0 e.store
  pub few_variables : length e.vars ≤ 2 ^ 39

-- ---- beginnings

-- the bound of the numbers with which the paths of the specification begin
abbrev pub first_bound : PureSpec → ℕ
first_bound s = text_bound + length s.pre * item_growth

-- The terms of the entry are plain, and each path is plain and has no facts: so none needs a literal form.
pub record ArePlainBeginnings {S : Type 0} (plain : S → ℤ → ℤ → Type 0) (s : PureSpec) (b : PureBeginnings S) : Type 0 where
  pub args : Each (IsPlain 0) b.args
  pub variables : IsPlainStore 0 b.variables
  pub starts : Each (λ start. IsPlainPath plain (first_bound s) start.path × (start.facts ≡ [])) b.starts

-- The beginnings are over the terms of the entry: they are in states that adding the precondition to a state without conditions, keys and
-- facts gives, and these are plain where that one is.
pub record BeginsPlainlyWith {S : Type 0} (memory : MemoryName) (stands : S → List PureValue → Heap → Type 0) (terms : S → StateTerms)
    (kept : S → Type 0) (q : PureProc) (pre : List PureItem) (e : PureEntryTerms) (b : PureBeginnings S) : Type 0 where
  pub args : b.args ≡ e.args
  pub variables : b.variables ≡ e.variables
  pub first : PureState S
  pub is_first : IsFirstState stands terms kept e.vars first
  pub states : List (PureState S)
  pub origin : ComeFromItems stands terms e.store pre first states
  pub plain : StayPlain memory terms e.store pre first states
  pub starts : BeginsEach q e.args states b.starts
