-- What ends the entry: a return or a throw, whose postconditions are matched with nothing left.
use Rattle.std.specs.Prelude.{◌≡◌, ◌⊎◌, ℕ, List, ◌++◌, Option, Some, None, true, false, ⊤}
use Rattle.gil_values.specs.declared.places.Place.{Place}
use Rattle.gil_values.specs.Pure.{PureValue}
use Rattle.gil_syntax.specs.Pure.{PureParts, PureItem, PureCommand, return, throw}
use Rattle.mem_model.specs.Heaps.{Heap}
use Rattle.assert_logic.specs.LogicStates.{LogicState}
use Rattle.checked_runs.specs.Checked.{Entry, result_store, some_matches}
use Rattle.pure_terms.specs.declared.variables.Sort.{Sort}
use Rattle.pure_terms.specs.Meaning.{value, IsUnsatisfiable}
use Rattle.pure_terms.specs.Pure.{PureTerm, PureAtom}
use Rattle.sym_model.specs.Alternatives.{other}
use Rattle.sym_evaluation.specs.Pure.{PureStore, term_at}
use Rattle.sym_model.specs.Lists.{Each, OneOf}
use Rattle.sym_model.specs.Terms.{StateTerms, AreEachOver}
use Rattle.sym_paths.specs.Frames.{terms_bound}
use Rattle.sym_paths.specs.Meaning.{end_terms}
use Rattle.sym_paths.specs.Pure.{PureEnd, returned, failed, threw, missed, vanished, cut, unknown, PurePath}
use Rattle.sym_states.specs.Meaning.{Stands, IsOverTable}
use Rattle.sym_states.specs.Pure.{PureFact, PureState}
use Rattle.checked_paths.specs.declared.nexts.FaultKind.{FaultKind}
use Rattle.checked_paths.specs.Causes.{ShowsEnd}
use Rattle.checked_paths.specs.Covering.{IsCaused}
use Rattle.checked_paths.specs.Following.{IsAnswered}
use Rattle.checked_paths.specs.Meaning.{EachWith, IsEntered, IsEntryOver}
use Rattle.checked_paths.specs.Pure.{PureEntry, PurePassed, PureNext, over}
use Rattle.checked_rows.specs.Doubts.{PureDoubt, IsDoubtNext, IsDoubtIn, IsToldThere}

-- the parameters have their arguments' terms, and other names those of the variables
abbrev pub AreEntryNames : List (List ℕ) → List PureTerm → PureStore → PureStore → Type 0
AreEntryNames params args variables bs = (x : List ℕ) → term_at bs x ≡ term_at (terms_bound params args ++ variables) x

module _ {S : Type 0} (p : PureParts) (stands : S → List PureValue → Heap → Type 0) (e : PureEntry) where
  -- A cause, or nothing is left to be looked at: wherever the state stands and the term has a value, one of the postconditions is matched
  -- with this result and nothing left.
  abbrev pub Finishes : List (List PureItem) → PureTerm → PureState S → PureNext S → Type 0
  Finishes posts t s k =
      IsCaused k
      ⊎ ((k ≡ over) × ((v : List PureValue) (entry : Entry) (l : LogicState) (w : PureValue) → IsEntered v e entry → Stands stands s v l
      → value v t ≡ Some w → some_matches p entry posts (result_store entry w) l ≡ true))

  -- whatever the state stands for under the valuation, none of the postconditions is matched with this result and nothing left
  abbrev pub MeetsNone : List (List PureItem) → PureTerm → PureState S → List PureValue → Type 0
  MeetsNone posts t s v =
      (entry : Entry) (l : LogicState) (w : PureValue) → IsEntered v e entry → Stands stands s v l → value v t ≡ Some w
      → some_matches p entry posts (result_store entry w) l ≡ false

  -- nothing is left to be looked at, or the answer is the doubt that a postcondition is met
  abbrev pub FinishesExactly : List (List PureItem) → PureTerm → Place → PurePath S → PureState S → PureNext S → Type 0
  FinishesExactly posts t here path s k =
      (k ≡ over) ⊎ ((doubt : PureDoubt) × (IsDoubtIn s (MeetsNone posts t s) doubt × IsDoubtNext FaultKind.Post here path doubt k))

-- under no valuation that meets the conditions has the term that has the result's name, if there is one, another value than the result
abbrev pub HasNoOther : List Sort → List PureAtom → PureTerm → Option PureTerm → Type 0
HasNoOther vars conds t None = ⊤
HasNoOther vars conds t (Some r) = Each (λ more. IsUnsatisfiable vars (conds ++ more)) (other r t)

-- the doubt is that there is one which has another value
abbrev pub DoubtsAResult : List Sort → List PureAtom → PureTerm → Option PureTerm → PureDoubt → Type 0
DoubtsAResult vars conds t None doubt = ⊥
DoubtsAResult vars conds t (Some r) doubt = OneOf (λ more. IsToldThere vars conds more doubt) (other r t)

-- the state where a path ends: its conditions over its table, and memory and facts as they were before the step
abbrev pub at_end : {S : Type 0} → PureState S → PurePath S → PureState S
at_end s next = record s { vars = next.vars; conds = next.conds }

-- how a path ends the entry
pub data PureFinish : Type 0 where
  by_return : PureTerm → PureFinish
  by_throw : PureTerm → PureFinish

abbrev pub finish_at : Option PureEnd → Option PureFinish
finish_at (Some (returned t)) = Some (by_return t)
finish_at (Some (threw t place)) = Some (by_throw t)
finish_at (Some (failed t place)) = None
finish_at (Some (missed k place)) = None
finish_at (Some vanished) = None
finish_at (Some cut) = None
finish_at (Some (unknown place reason)) = None
finish_at None = None

-- the state there, with a memory that stands for the same heaps
pub record IsThere {S : Type 0} (stands : S → List PureValue → Heap → Type 0) (terms : S → StateTerms) (s r : PureState S) : Type 0 where
  pub is : r ≡ record s { memory = r.memory }
  pub stands_for : (v : List PureValue) (h : Heap) → stands s.memory v h → stands r.memory v h
  pub same_terms : terms r.memory ≡ terms s.memory

-- what a path that ends names is in its table, and so is the state there
pub record MayEnd {S : Type 0} (terms : S → StateTerms) (e : PureEntry) (s : PureState S) (next : PurePath S) : Type 0 where
  pub state : IsOverTable terms (at_end s next)
  pub entry : IsEntryOver next.vars e
  pub ending : AreEachOver next.vars (end_terms next.ending)

module _ {S : Type 0} (p : PureParts) (stands : S → List PureValue → Heap → Type 0) (terms : S → StateTerms) (e : PureEntry) (s : PureState S)
    (facts : List PureFact) (passed : List (List (PurePassed S))) where
  -- What is answered of a next path: the entry's return meets a postcondition, a throw that nothing catches an error postcondition, and
  -- any other path goes on or stops as it does everywhere.
  abbrev pub IsEndedBy : PurePath S → Option PureFinish → PureNext S → Type 0
  IsEndedBy next (Some (by_return t)) k = Finishes p stands e e.spec.posts t (at_end s next) k
  IsEndedBy next (Some (by_throw t)) k = Finishes p stands e e.spec.errors t (at_end s next) k
  IsEndedBy next None k = IsAnswered stands terms facts passed next k

  abbrev pub IsEnded : PurePath S → PureNext S → Type 0
  IsEnded next k = IsEndedBy next (finish_at next.ending) k

  abbrev pub EachIsEnded : List (PurePath S) → List (PureNext S) → Type 0
  EachIsEnded nexts ks = EachWith IsEnded nexts ks

  -- The same exactly, told at this place: the entry's end as above, and any other path as it is told everywhere.
  abbrev pub IsExactlyEndedBy : Place → PurePath S → Option PureFinish → PureNext S → Type 0
  IsExactlyEndedBy here next (Some (by_return t)) k = FinishesExactly p stands e e.spec.posts t here next (at_end s next) k
  IsExactlyEndedBy here next (Some (by_throw t)) k = FinishesExactly p stands e e.spec.errors t here next (at_end s next) k
  IsExactlyEndedBy here next None k = IsAnswered stands terms facts passed next k × ShowsEnd here next k

  abbrev pub IsExactlyEnded : Place → PurePath S → PureNext S → Type 0
  IsExactlyEnded here next k = IsExactlyEndedBy here next (finish_at next.ending) k

  abbrev pub EachIsExactlyEnded : Place → List (PurePath S) → List (PureNext S) → Type 0
  EachIsExactlyEnded here nexts ks = EachWith (IsExactlyEnded here) nexts ks

-- a return or a throw
abbrev pub IsLeaving : PureCommand → Type 0
IsLeaving (return e) = ⊤
IsLeaving (throw e) = ⊤
IsLeaving command = ⊥
