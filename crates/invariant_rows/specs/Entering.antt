-- A checked path in a loop that it reaches for the first time: each listed name has a new variable.
use Rattle.std.specs.Prelude.{◌≡◌, ◌⊎◌, ℕ, List, [], ◌∷◌, false, Option, Some, None}
use Rattle.gil_values.specs.declared.places.Place.{Place}
use Rattle.gil_values.specs.Pure.{PureValue}
use Rattle.gil_syntax.specs.declared.assertions.Param.{Param}
use Rattle.gil_syntax.specs.Pure.{PureItem}
use Rattle.mem_model.specs.declared.keys.MemoryName.{MemoryName}
use Rattle.mem_model.specs.Heaps.{Heap}
use Rattle.pure_terms.specs.declared.deciders.Reason.{Reason}
use Rattle.pure_terms.specs.Meaning.{Satisfies, IsUnsatisfiable}
use Rattle.sym_paths.specs.Asking.{IsOutside}
use Rattle.sym_evaluation.specs.Pure.{PureStore}
use Rattle.sym_model.specs.Meaning.{has_open}
use Rattle.sym_model.specs.Terms.{StateTerms}
use Rattle.sym_states.specs.Naming.{PureNamed, IsNaming, NamesAll}
use Rattle.sym_paths.specs.Pure.{PureFrame, PurePath}
use Rattle.sym_states.specs.Pure.{PureState}
use Rattle.sym_unfolding.specs.Adding.{AddsItems}
use Rattle.checked_paths.specs.declared.nexts.FaultKind.{FaultKind}
use Rattle.checked_paths.specs.Meaning.{EachWith, SayTheSame}
use Rattle.checked_paths.specs.Pure.{PureEntry, PureChecking, PureNext, over}
use Rattle.checked_rows.specs.Doubts.{beyond, IsDoubtNext}
use Rattle.checked_rows.specs.Folding.{GoesOnIn}
use Rattle.checked_rows.specs.Names.{AreNames}
use Rattle.checked_rows.specs.States.{IsStateOf, with_state}
use Rattle.invariant_rows.specs.Passing.{with_one}

-- the frame that runs has this store
abbrev pub running_with : PureStore → List PureFrame → List PureFrame
running_with bs [] = []
running_with bs (f ∷ fs) = record f { store = bs } ∷ fs

-- the index of the command at which the frame that runs stands
abbrev pub running_next : List PureFrame → ℕ
running_next [] = 0
running_next (f ∷ fs) = f.next

abbrev pub opened : {S : Type 0} → PurePath S → PureNamed → PurePath S
opened path named = record path { vars = named.vars; stack = running_with named.store path.stack }

-- The path with a new variable for each of the names, of the sorts that are declared for it, where the frame that runs has these terms
-- besides; none, where a name can have no value.
abbrev pub OpensPath : {S : Type 0} → List Param → List (List ℕ) → PureStore → PurePath S → Option (PurePath S) → Type 0
OpensPath ps xs bs path (Some q) = (named : PureNamed) × (IsNaming ps xs path.vars bs named × (q ≡ opened path named))
OpensPath ps xs bs path None = NamesAll ps xs path.vars bs None

-- The checked path in the loop, of which the state s is left: each listed name has a new variable, the others have their terms, and what is
-- left is kept with them.
pub record IsInLoop {S : Type 0} (stands : S → List PureValue → Heap → Type 0) (terms : S → StateTerms) (ps : List Param)
    (xs : List (List ℕ)) (bs : PureStore) (x : PureChecking S) (s : PureState S) (y : PureChecking S) : Type 0 where
  pub named : PureNamed
  pub naming : IsNaming ps xs s.vars bs named
  pub same_path : y.path ≡ opened (with_state x.path s) named
  pub same_facts : y.facts ≡ s.facts
  pub passed : SayTheSame stands terms
      (with_one (record { at = running_next x.path.stack; memory = s.memory; facts = s.facts; unlisted = bs }) x.passed) y.passed

-- none where a listed name can have no value
abbrev pub IsInLoopIfAny : {S : Type 0} → (S → List PureValue → Heap → Type 0) → (S → StateTerms) → List Param → List (List ℕ) → PureStore
    → PureChecking S → PureState S → Option (PureChecking S) → Type 0
IsInLoopIfAny stands terms ps xs bs x s (Some y) = IsInLoop stands terms ps xs bs x s y
IsInLoopIfAny stands terms ps xs bs x s None = NamesAll ps xs s.vars bs None

-- What is answered of a state to which the invariant was added: some valuation meets its conditions, none of which needs a literal form, and
-- its path goes on; or none does; or they aren't decided, and this shows the path as it would go on in the state.
abbrev pub IsAdditionAnswered : {S : Type 0} → (S → List PureValue → Heap → Type 0) → (S → StateTerms) → Place → PureChecking S → PureState S
    → PureNext S → Type 0
IsAdditionAnswered stands terms here y s k =
    ((has_open s.conds ≡ false) × (((w : List PureValue) × Satisfies s.vars w s.conds) × GoesOnIn stands terms y s s.facts k))
    ⊎ (((k ≡ over) × IsUnsatisfiable s.vars s.conds)
    ⊎ ((reason : Reason) × (IsOutside s.conds reason × IsDoubtNext FaultKind.Invariant here (with_state y.path s) (beyond s.conds reason) k)))

-- The items are added where the checked path stands, and each state that this gives is answered.
pub record AreAdded {S : Type 0} (memory : MemoryName) (stands : S → List PureValue → Heap → Type 0) (terms : S → StateTerms)
    (kept : S → Type 0) (e : PureEntry) (ps : List Param) (items : List PureItem) (here : Place) (y : PureChecking S)
    (nexts : List (PureNext S)) : Type 0 where
  pub state : PureState S
  pub is_state : IsStateOf stands terms y.path y.facts state
  pub store : PureStore
  pub names : AreNames y.path.stack e.variables store
  pub added : List (PureState S)
  pub adds : AddsItems memory stands terms kept ps store [] items state added
  pub answered : EachWith (IsAdditionAnswered stands terms here y) added nexts

-- what is answered of a first visit that leaves the state s
abbrev pub AreEntered : {S : Type 0} → MemoryName → (S → List PureValue → Heap → Type 0) → (S → StateTerms) → (S → Type 0) → PureEntry
    → List (List ℕ) → List Param → List PureItem → PureStore → Place → PureChecking S → PureState S → List (PureNext S) → Type 0
AreEntered {S} memory stands terms kept e xs ps items bs here x s nexts =
    (NamesAll ps xs s.vars bs None × (nexts ≡ []))
    ⊎ ((y : PureChecking S) × (IsInLoop stands terms ps xs bs x s y × AreAdded memory stands terms kept e ps items here y nexts))
