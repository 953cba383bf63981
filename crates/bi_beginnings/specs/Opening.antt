-- The states in which a procedure may be entered, and what comes of them.
use Rattle.std.specs.Prelude.{◌≡◌, ◌⊎◌, ◌↔◌, ℕ, ◌+◌, ◌<◌, List, [], ◌∷◌, length, slice_get, false, if◌then◌else◌, Option, Some, None, IsTrue}
use Rattle.std.specs.FinMap.{empty}
use Rattle.std.specs.Str.{bytes_eq}
use Rattle.gil_values.specs.declared.places.Place.{Place}
use Rattle.gil_values.specs.Pure.{PureValue}
use Rattle.mem_model.specs.declared.keys.MemoryName.{MemoryName}
use Rattle.mem_model.specs.Heaps.{Heap, IsHeapOf}
use Rattle.assertion_terms.specs.Named.{table_names, assertion_of}
use Rattle.pure_terms.specs.declared.queries.Query.{Query}
use Rattle.pure_terms.specs.declared.variables.Sort.{Sort}
use Rattle.pure_terms.specs.declared.variables.Var.{Var}
use Rattle.pure_terms.specs.Meaning.{Satisfies}
use Rattle.pure_terms.specs.Pure.{PureTerm, variable, PureAtom}
use Rattle.pure_terms.specs.View.{atoms_view}
use Rattle.sym_evaluation.specs.Pure.{PureStore, term_at}
use Rattle.sym_model.specs.Listing.{AreUnion}
use Rattle.sym_model.specs.Lists.{OneOf}
use Rattle.sym_model.specs.Meaning.{has_open}
use Rattle.sym_model.specs.Terms.{StateTerms, no_state_terms}
use Rattle.sym_paths.specs.Pure.{PurePath}
use Rattle.sym_paths.specs.View.{path_view}
use Rattle.sym_states.specs.Meaning.{IsOverTable}
use Rattle.sym_states.specs.Producing.{IsProduced, IsStopped}
use Rattle.sym_states.specs.Pure.{PureState, with_conditions}
use Rattle.bi_beginnings.specs.declared.opening.Opening.{Opening}
use Rattle.bi_beginnings.specs.Beginnings.{IsEntryTable, PureBeginning, BeginsWith}

-- the term is a variable of the table
abbrev pub IsVariableOf : List Sort → PureTerm → Type 0
IsVariableOf vars t = (x : Var) × ((t ≡ variable x) × (slice_get vars x.number ≡ Some x.sort))

-- each name that has a term has a variable of the table
abbrev pub HasVariables : List Sort → PureStore → Type 0
HasVariables vars bs = (x : List ℕ) (t : PureTerm) → term_at bs x ≡ Some t → IsVariableOf vars t

-- what a name has after the variable with a number, if the table has that one, is given to the name x
abbrev pub named_further : Option Sort → ℕ → List ℕ → PureStore → List ℕ → Option PureTerm
named_further (Some sort) n x before y = if bytes_eq x y then Some (variable (record { number = n; sort = sort })) else term_at before y
named_further None n x before y = term_at before y

abbrev pub IsNamedFurther : List Sort → ℕ → List ℕ → PureStore → PureStore → Type 0
IsNamedFurther vars n x before after = (y : List ℕ) → term_at after y ≡ named_further (slice_get vars n) n x before y

-- the first n of the names have the variables with their numbers
abbrev pub AreNamed : List (List ℕ) → List Sort → ℕ → PureStore → Type 0
AreNamed names vars n bs =
    (i : ℕ) (x : List ℕ) (sort : Sort) → i < n → slice_get names i ≡ Some x → slice_get vars i ≡ Some sort
    → term_at bs x ≡ Some (variable (record { number = i; sort = sort }))

-- no condition, no key and no fact
pub record IsFirstState {S : Type 0} (stands : S → List PureValue → Heap → Type 0) (terms : S → StateTerms) (kept : S → Type 0)
    (vars : List Sort) (s : PureState S) : Type 0 where
  pub table : s.vars ≡ vars
  pub conds : s.conds ≡ []
  pub given : s.given ≡ []
  pub facts : s.facts ≡ []
  pub heap : (v : List PureValue) → stands s.memory v empty
  pub no_terms : terms s.memory ≡ no_state_terms
  pub still_kept : kept s.memory

-- The table is that of an entry. Under each valuation that meets the conditions the memory has a heap, unless one of them is that a
-- literal form is needed. All that the state names is in the table, and its memory is one that is listed back.
pub record IsEntryState {S : Type 0} (stands : S → List PureValue → Heap → Type 0) (terms : S → StateTerms) (kept : S → Type 0)
    (params : List (List ℕ)) (s : PureState S) : Type 0 where
  pub table : IsEntryTable params s.vars
  pub over : IsOverTable terms s
  pub has_heap : has_open s.conds ≡ false → (v : List PureValue) → Satisfies s.vars v s.conds → (h : Heap) × stands s.memory v h
  pub still_kept : kept s.memory

-- the state has no variable, no condition, no key and no term
pub record IsBareState {S : Type 0} (stands : S → List PureValue → Heap → Type 0) (terms : S → StateTerms) (s : PureState S) : Type 0 where
  pub no_variable : s.vars ≡ []
  pub no_condition : s.conds ≡ []
  pub no_key : stands s.memory [] empty
  pub no_terms : terms s.memory ≡ no_state_terms

-- ---- cover

-- The valuation meets the conditions of the state, and the memory has this heap, unless one of the conditions is that a literal form is
-- needed.
pub record IsEnteredWith {S : Type 0} (stands : S → List PureValue → Heap → Type 0) (vars : List Sort) (v : List PureValue) (own : Heap)
    (s : PureState S) : Type 0 where
  pub table : s.vars ≡ vars
  pub meets : Satisfies s.vars v s.conds
  pub heap : IsTrue (has_open s.conds) ⊎ stands s.memory v own

-- Cover: where a heap is what the uses of the beginning say, and its conditions are true, some state is entered with it.
abbrev pub AreEntered : {S : Type 0} → MemoryName → (S → List PureValue → Heap → Type 0) → PureBeginning → List (PureState S) → Type 0
AreEntered memory stands b ss =
    (v : List PureValue) (own : Heap) → Satisfies b.vars v b.conds → AreUnion v b.uses own → IsHeapOf memory own
    → OneOf (IsEnteredWith stands b.vars v own) ss

-- ---- exactness

-- The state has the table of the beginning. Under each valuation that meets its conditions the memory has exactly the heap that the uses
-- say, unless one of the conditions is that a literal form is needed.
pub record IsEnteredExactly {S : Type 0} (stands : S → List PureValue → Heap → Type 0) (b : PureBeginning) (s : PureState S) : Type 0 where
  pub table : s.vars ≡ b.vars
  pub heaps : has_open s.conds ≡ false → (v : List PureValue) (own : Heap) → Satisfies s.vars v s.conds
      → stands s.memory v own ↔ AreUnion v b.uses own

-- ---- conditions that are carried

-- the state with the conditions behind its own, unless one of these is that a literal form is needed
abbrev pub carrying : {S : Type 0} → List PureAtom → PureState S → PureState S
carrying conds s = if has_open s.conds then s else with_conditions conds s

-- the beginning that carries no condition
abbrev pub without_conditions : PureBeginning → PureBeginning
without_conditions b = record b { conds = [] }

-- ---- paths that begin

-- what the state is entered with, one of the paths begins with, if nothing is left undecided
abbrev pub IsOpenedBy : {S : Type 0} → (S → List PureValue → Heap → Type 0) → PureState S → Type 0 → List (PurePath S) → Type 0
IsOpenedBy stands s undecided starts =
    (vars : List Sort) (v : List PureValue) (own : Heap) → IsEnteredWith stands vars v own s
    → undecided ⊎ OneOf (BeginsWith stands vars v own) starts

-- ---- what comes of states

-- the path that comes of a state, and the query, where there is one
abbrev pub starts_of : {S : Type 0} → Opening S → List (PurePath S)
starts_of (Opening.Start path) = path_view path ∷ []
starts_of Opening.Nowhere = []
starts_of (Opening.Undecided query) = []

abbrev pub undecided_of : {S : Type 0} → Opening S → Option Query
undecided_of (Opening.Start path) = None
undecided_of Opening.Nowhere = None
undecided_of (Opening.Undecided query) = Some query

-- ---- what is asked where a beginning begins

module _ {S : Type 0} (stands : S → List PureValue → Heap → Type 0) (terms : S → StateTerms) (kept : S → Type 0) (params : List (List ℕ))
    (b : PureBeginning) where
  -- To a state without conditions and keys, the items that say the uses of the beginning were added one after another, all of them, or up to
  -- one at which a literal form is needed. Each name of the table has its variable.
  pub record IsBegunFrom (r : PureState S) : Type 0 where
    pub first : PureState S
    pub is_first : IsFirstState stands terms kept b.vars first
    pub others : ℕ
    pub counted : length params + others ≡ length b.vars
    pub names : List (List ℕ)
    pub of_table : names ≡ table_names params others
    pub store : PureStore
    pub variables : HasVariables b.vars store
    pub named : AreNamed names b.vars (length names) store
    pub comes : IsProduced terms store first (assertion_of names b.uses []) r ⊎ IsStopped stands terms store first (assertion_of names b.uses []) r

  -- the state came of such a one, with the conditions that the beginning carries behind its own, unless a literal form is needed there
  abbrev pub IsEnteredFrom : PureState S → Type 0
  IsEnteredFrom s = (r : PureState S) × (IsBegunFrom r × (s ≡ carrying b.conds r))

  -- What is asked of the beginning: at its place, with its choices and its variables, where nothing is assumed, the conditions of such a state.
  pub record IsAskedThere (place : Place) (choices : List ℕ) (vars : List Sort) (given conds : List PureAtom) : Type 0 where
    pub at_place : place ≡ b.place
    pub same_choices : choices ≡ b.choices
    pub table : vars ≡ b.vars
    pub none_given : given ≡ []
    pub state : PureState S
    pub begun : IsBegunFrom state
    pub asks : conds ≡ (carrying b.conds state).conds

-- the query has place and choices of the beginning, table and conditions of the state, and assumes nothing
pub record IsQueryOf {S : Type 0} (b : PureBeginning) (s : PureState S) (q : Query) : Type 0 where
  pub at_place : q.place ≡ b.place
  pub same_choices : q.path ≡ b.choices
  pub table : q.vars ≡ s.vars
  pub none_given : atoms_view q.given ≡ []
  pub asks : atoms_view q.query ≡ s.conds
