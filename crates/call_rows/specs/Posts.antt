-- What comes of postconditions, added to what matching a precondition left.
use Rattle.std.specs.Prelude.{◌≡◌, ℕ, ◌+◌, List, [], ◌∷◌, Option, Some, None, slice_get}
use Rattle.gil_values.specs.declared.places.Place.{Place}
use Rattle.gil_values.specs.Pure.{PureValue}
use Rattle.gil_syntax.specs.declared.assertions.Param.{Param}
use Rattle.gil_syntax.specs.Pure.{PureParts, PureItem}
use Rattle.mem_model.specs.declared.keys.MemoryName.{MemoryName}
use Rattle.mem_model.specs.Heaps.{Heap}
use Rattle.checked_runs.specs.Specifications.{result_name}
use Rattle.footprint.specs.Pure.{PureMatch}
use Rattle.pure_terms.specs.Meaning.{IsOver}
use Rattle.pure_terms.specs.Pure.{PureTerm, PureAtom, term_of}
use Rattle.sym_evaluation.specs.Meaning.{IsStoreOver}
use Rattle.sym_evaluation.specs.Pure.{PureStore, term_at}
use Rattle.sym_model.specs.Lists.{Each}
use Rattle.sym_model.specs.Terms.{StateTerms}
use Rattle.sym_states.specs.Naming.{IsNaming, NamesAll}
use Rattle.sym_states.specs.Meaning.{IsOverTable}
use Rattle.sym_states.specs.Pure.{PureState}
use Rattle.sym_unfolding.specs.Adding.{AddsItems}
use Rattle.checked_paths.specs.Meaning.{EachWith, IsEntryOver}
use Rattle.checked_paths.specs.Pure.{PureEntry, PureChecking, PureNext}
use Rattle.call_rows.specs.declared.leaving.Completion.{Completion}
use Rattle.call_rows.specs.Gathering.{GathersNexts}
use Rattle.call_rows.specs.Leaving.{IsCompleted}

-- a state to which a postcondition may be added, the terms of names, and that of the result
pub record PureReady (S : Type 0) : Type 0 where
  pub state : PureState S
  pub store : PureStore
  pub result : PureTerm

abbrev pub only_result : List (List ℕ)
only_result = result_name ∷ []

-- the state and the store of a match, in which the result has its name: it is a new variable, unless a parameter has this name
pub record IsReady {S : Type 0} (scope : List Param) (m : PureMatch S) (ready : PureReady S) : Type 0 where
  pub state : ready.state ≡ record m.state { vars = ready.state.vars }
  pub naming : IsNaming scope only_result m.state.vars m.store (record { vars = ready.state.vars; store = ready.store })
  pub result : term_at ready.store result_name ≡ Some ready.result

-- or no value has all the sorts that are declared for its name
abbrev pub IsReadyIfAny : {S : Type 0} → List Param → PureMatch S → Option (PureReady S) → Type 0
IsReadyIfAny scope m (Some ready) = IsReady scope m ready
IsReadyIfAny scope m None = NamesAll scope only_result m.state.vars m.store None

-- what state, store, result, entry and what was assumed name is in the state's table
pub record ReadyOver {S : Type 0} (terms : S → StateTerms) (e : PureEntry) (given : List PureAtom) (ready : PureReady S) : Type 0 where
  pub state : IsOverTable terms ready.state
  pub store : IsStoreOver ready.state.vars ready.store
  pub result : IsOver ready.state.vars ready.result
  pub entry : IsEntryOver ready.state.vars e
  pub assumed : Each (λ a. IsOver ready.state.vars (term_of a)) given

module _ {S : Type 0} (p : PureParts) (memory : MemoryName) (stands : S → List PureValue → Heap → Type 0) (terms : S → StateTerms)
    (kept : S → Type 0) (e : PureEntry) (y : PureChecking S) (here : Place) (scope : List Param) (ready : PureReady S) (how : Completion) where
  -- the postcondition of this number is added, and each state is answered
  abbrev pub AnswersPost : ℕ → List PureItem → List (PureNext S) → Type 0
  AnswersPost number items ks =
      (rs : List (PureState S)) × (AddsItems memory stands terms kept scope ready.store [] items ready.state rs
      × EachWith (IsCompleted p stands terms e y here how number ready.result) rs ks)

  -- the same of one of these, of which the first one has the number `first`
  abbrev pub AnswersOneOf : ℕ → List (List PureItem) → List PureItem → List (PureNext S) → Type 0
  AnswersOneOf first posts items ks = (i : ℕ) × ((slice_get posts i ≡ Some items) × AnswersPost (first + i) items ks)

  abbrev pub AnswersPosts : ℕ → List (List PureItem) → List (PureNext S) → Type 0
  AnswersPosts first posts ks = GathersNexts (AnswersOneOf first posts) posts ks
