-- Where inference begins: the values with which a procedure is entered, of which nothing is known, and heaps that fix the keys which
-- earlier paths missed. Bi-abduction is that of Calcagno, Distefano, O'Hearn, Yang, POPL 2009.
use Rattle.std.specs.Prelude.{◌≡◌, ◌⊎◌, ℕ, suc, ◌+◌, ◌≤◌, ◌<◌, ℤ, List, [], ◌∷◌, ◌++◌, map, length, Bool, false, IsTrue}
use Rattle.std.specs.FinMap.{empty, entries}
use Rattle.std.specs.List.{list_all, list_any}
use Rattle.gil_values.specs.declared.places.Place.{Place}
use Rattle.gil_values.specs.Pure.{PureValue}
use Rattle.gil_values.specs.Symbols.{AreBelow}
use Rattle.gil_syntax.specs.Pure.{PureProc}
use Rattle.mem_model.specs.declared.keys.MemoryName.{MemoryName}
use Rattle.mem_model.specs.Heaps.{Heap, IsHeapOf}
use Rattle.assert_logic.specs.Unions.{IsUnion}
use Rattle.fresh_atoms.specs.Laws.{is_any_or_list}
use Rattle.pure_terms.specs.declared.variables.Sort.{Sort}
use Rattle.pure_terms.specs.Meaning.{IsOver, Satisfies}
use Rattle.pure_terms.specs.Naming.{names_number}
use Rattle.pure_terms.specs.Pure.{PureTerm, variable, PureAtom, term_of}
use Rattle.sym_evaluation.specs.Meaning.{HaveValues}
use Rattle.sym_model.specs.Cores.{TakesBoth}
use Rattle.sym_model.specs.Listing.{AreUnion}
use Rattle.sym_model.specs.Lists.{Each, OneOf}
use Rattle.sym_model.specs.Meaning.{has_open}
use Rattle.sym_model.specs.Pure.{PureUse}
use Rattle.sym_model.specs.Terms.{StateTerms, AreEachOver}
use Rattle.sym_paths.specs.Beginning.{Begins}
use Rattle.sym_paths.specs.Meaning.{IsOverTable}
use Rattle.sym_paths.specs.Pure.{PurePath}
use Rattle.sym_paths.specs.Steps.{IsPlainPath}

-- ---- tables

-- a variable of sort any for each parameter
abbrev pub any_for_each : List (List ℕ) → List Sort
any_for_each params = map (λ x. Sort.Any) params

-- the variables of these sorts, of which the first has the number n
abbrev pub variables_from : ℕ → List Sort → List PureTerm
variables_from n [] = []
variables_from n (sort ∷ sorts) = variable (record { number = n; sort = sort }) ∷ variables_from (suc n) sorts

-- The variables of the parameters, of sort any, and behind them others of sorts any and list: the outs of what fixes missed keys.
pub record IsEntryTable (params : List (List ℕ)) (vars : List Sort) : Type 0 where
  pub others : List Sort
  pub table : vars ≡ any_for_each params ++ others
  pub sorts : IsTrue (list_all is_any_or_list others)

-- ---- beginnings

-- The table; the uses of core predicates that fix the missed keys; the conditions that are carried; and the place and the choices of the
-- path that missed the last key.
pub record PureBeginning : Type 0 where
  pub vars : List Sort
  pub uses : List PureUse
  pub conds : List PureAtom
  pub place : Place
  pub choices : List ℕ

-- the beginning that fixes and assumes nothing
abbrev pub first_beginning : PureProc → PureBeginning
first_beginning q =
    record { vars = any_for_each q.params; uses = []; conds = []; place = record { proc = q.name; at = 0 }; choices = [] }

-- one of the uses names the variable with the number
abbrev pub is_named_by : List PureUse → ℕ → Bool
is_named_by us k = list_any (λ u. list_any (names_number k) (u.ins ++ u.outs)) us

-- The table is that of an entry, the uses are of core predicates of the memory with their numbers of ins and outs, and these and the
-- conditions name only variables of the table. Each variable that isn't of a parameter stands in a use.
pub record IsBeginning (memory : MemoryName) (params : List (List ℕ)) (b : PureBeginning) : Type 0 where
  pub table : IsEntryTable params b.vars
  pub uses : Each (λ u. TakesBoth memory u.core u.ins u.outs × AreEachOver b.vars (u.ins ++ u.outs)) b.uses
  pub conds : Each (λ a. IsOver b.vars (term_of a)) b.conds
  pub named : (k : ℕ) → length params ≤ k → k < length b.vars → IsTrue (is_named_by b.uses k)

-- ---- paths on which runs begin

-- The path begins in the procedure with a variable for each parameter. Some valuation meets its conditions, none of which needs a
-- literal form, and under each one that does the memory has a heap. The memory is still one that is listed back.
pub record IsOpening {S : Type 0} (stands : S → List PureValue → Heap → Type 0) (terms : S → StateTerms) (kept : S → Type 0)
    (q : PureProc) (path : PurePath S) : Type 0 where
  pub table : IsEntryTable q.params path.vars
  pub begins : Begins q (variables_from 0 (any_for_each q.params)) path.vars path.conds path.memory path
  pub over : IsOverTable terms path
  pub no_form : has_open path.conds ≡ false
  pub is_met : (v : List PureValue) × Satisfies path.vars v path.conds
  pub has_heap : (v : List PureValue) → Satisfies path.vars v path.conds → (h : Heap) × stands path.memory v h
  pub still_kept : kept path.memory

-- under the valuation the path begins with this heap
pub record BeginsWith {S : Type 0} (stands : S → List PureValue → Heap → Type 0) (vars : List Sort) (v : List PureValue) (own : Heap)
    (path : PurePath S) : Type 0 where
  pub table : path.vars ≡ vars
  pub meets : Satisfies path.vars v path.conds
  pub heap : stands path.memory v own

-- The path has the table of the beginning, and where its conditions are true it begins with exactly the heap that the uses say.
pub record BeginsExactly {S : Type 0} (stands : S → List PureValue → Heap → Type 0) (b : PureBeginning) (path : PurePath S) : Type 0 where
  pub table : path.vars ≡ b.vars
  pub lists : (v : List PureValue) (own : Heap) → Satisfies path.vars v path.conds → stands path.memory v own → AreUnion v b.uses own
  pub back : (v : List PureValue) (own : Heap) → Satisfies path.vars v path.conds → AreUnion v b.uses own → stands path.memory v own

-- Cover: where a heap is what the uses of the beginning say, and its conditions are true, one of the paths begins with it, if nothing is left
-- undecided.
abbrev pub CoversBeginning : {S : Type 0} → MemoryName → (S → List PureValue → Heap → Type 0) → PureBeginning → Type 0 → List (PurePath S)
    → Type 0
CoversBeginning memory stands b undecided starts =
    (v : List PureValue) (own : Heap) → Satisfies b.vars v b.conds → AreUnion v b.uses own → IsHeapOf memory own
    → undecided ⊎ OneOf (BeginsWith stands b.vars v own) starts

-- ---- where there is nothing

-- the beginning has no variable, fixes nothing and assumes nothing
pub record IsBare (b : PureBeginning) : Type 0 where
  pub no_variable : b.vars ≡ []
  pub no_use : b.uses ≡ []
  pub no_condition : b.conds ≡ []

-- The path has no variable and no condition, its memory has no key, and it is plain without numbers.
pub record BeginsBare {S : Type 0} (stands : S → List PureValue → Heap → Type 0) (plain : S → ℤ → ℤ → Type 0) (path : PurePath S) : Type 0 where
  pub no_variable : path.vars ≡ []
  pub no_condition : path.conds ≡ []
  pub no_key : stands path.memory [] empty
  pub plain_path : IsPlainPath plain 0 path

-- nothing is left undecided, and each path begins bare
pub record OpensBare {S : Type 0} (stands : S → List PureValue → Heap → Type 0) (plain : S → ℤ → ℤ → Type 0) (undecided : Type 0)
    (starts : List (PurePath S)) : Type 0 where
  pub decided : ¬ undecided
  pub each_start : Each (BeginsBare stands plain) starts

-- ---- runs that are awaited

-- The beginning awaits the runs of the procedure with these arguments from the heap, with a counter: under some values its conditions are
-- true, and its uses are a part of the heap. They and the keys of the rest are n at most.
pub record Awaits (params : List (List ℕ)) (args : List PureValue) (whole : Heap) (counter n : ℕ) (b : PureBeginning) : Type 0 where
  pub values : List PureValue
  pub meets : Satisfies b.vars values b.conds
  pub arguments : HaveValues values (variables_from 0 (any_for_each params)) args
  pub below : AreBelow counter values
  pub own : Heap
  pub rest : Heap
  pub union : IsUnion whole own rest
  pub uses : AreUnion values b.uses own
  pub few : length b.uses + length (entries rest) ≤ n
