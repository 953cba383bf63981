-- What adding the cases of a predicate to a state gives.
use Rattle.std.specs.Prelude.{◌≡◌, ◌⊎◌, ℕ, List, ◌++◌, map, slice_get, Some, IsTrue}
use Rattle.gil_values.specs.Pure.{PureValue}
use Rattle.gil_syntax.specs.declared.assertions.Param.{Param}
use Rattle.gil_syntax.specs.Evaluation.{Store, value_of}
use Rattle.gil_syntax.specs.Pure.{PureItem}
use Rattle.mem_model.specs.declared.keys.MemoryName.{MemoryName}
use Rattle.mem_model.specs.Heaps.{Heap}
use Rattle.assert_logic.specs.Adding.{IsAdding}
use Rattle.assert_logic.specs.LogicStates.{LogicState}
use Rattle.assert_logic.specs.Names.{named_by_items}
use Rattle.assert_logic.specs.Sorts.{HasSorts, Extends}
use Rattle.pure_terms.specs.Meaning.{all_true, IsProper, IsOver}
use Rattle.pure_terms.specs.Pure.{PureAtom, term_of}
use Rattle.sym_evaluation.specs.Meaning.{StandsFor, IsStoreOver}
use Rattle.sym_evaluation.specs.Pure.{PureStore}
use Rattle.sym_model.specs.Lists.{Each, OneOf}
use Rattle.sym_model.specs.Meaning.{has_open}
use Rattle.sym_model.specs.Terms.{StateTerms}
use Rattle.sym_states.specs.Naming.{PureNamed}
use Rattle.sym_states.specs.Laws.{CoversAddings, AreAddings, ComeFromItems, StayOverTable, AreKept}
use Rattle.sym_states.specs.Meaning.{Stands, IsOverTable}
use Rattle.sym_states.specs.Producing.{added_conds}
use Rattle.sym_states.specs.Pure.{PureState}
use Rattle.sym_unfolding.specs.Taking.{IsSameMemory}
use Rattle.sym_unfolding.specs.Further.{IsFurther}
use Rattle.sym_unfolding.specs.Origins.{IsAddedFrom}
use Rattle.sym_unfolding.specs.Unfolding.{PureUnfoldedCase, IsMetAfter}

abbrev pub numbered : {S : Type 0} → ℕ → List (PureState S) → List (PureUnfoldedCase S)
numbered number states = map (λ s. record { number = number; state = s }) states

-- one of the cases, by its number, was added to the state
abbrev pub IsCaseAddedFrom : {S : Type 0} → (S → StateTerms) → PureStore → List PureAtom → List (List PureItem) → PureState S
    → PureUnfoldedCase S → Type 0
IsCaseAddedFrom terms bs conds cases s r =
    (items : List PureItem) × ((slice_get cases r.number ≡ Some items) × IsAddedFrom terms bs conds items s r.state)

module _ {S : Type 0} (memory : MemoryName) (stands : S → List PureValue → Heap → Type 0) (terms : S → StateTerms)
    (kept : S → Type 0) where
  -- the items are added to the state over a larger table, under further conditions
  pub record AddsOver (named : PureNamed) (more : List PureAtom) (items : List PureItem) (s : PureState S) (rs : List (PureState S))
      : Type 0 where
    pub first : PureState S
    pub is : first ≡ record s { vars = named.vars; conds = s.conds ++ more; memory = first.memory }
    pub same_memory : IsSameMemory stands terms kept s.memory first.memory
    pub cover : CoversAddings memory stands terms named.store items first rs
    pub exact : AreAddings memory stands terms named.store items first rs
    pub origin : ComeFromItems stands terms named.store items first rs
    pub over : StayOverTable terms named.store first rs
    pub still_kept : kept first.memory → AreKept kept rs

  module _ (ps : List Param) (bs : PureStore) (more : List PureAtom) where
    -- Under the valuation the state and the store stand for these, and the conditions are true; the last store keeps the values of the
    -- store, and has the sorts that are declared.
    pub record MayBeAdded (s : PureState S) (v : List PureValue) (u t : Store) (left : LogicState) : Type 0 where
      pub over : IsOverTable terms s
      pub store_over : IsStoreOver s.vars bs
      pub conds_over : Each (λ a. IsOver s.vars (term_of a)) more
      pub stands_for : Stands stands s v left
      pub store : StandsFor v bs u
      pub conds_true : IsTrue (all_true v more)
      pub extends : Extends u t
      pub sorts : HasSorts ps t

    -- with values of the new variables, all of which are values of names of the items, the state stands for the next one
    pub record IsAddedAs (s : PureState S) (v : List PureValue) (items : List PureItem) (t : Store) (next : LogicState) (r : PureState S)
        : Type 0 where
      pub values : List PureValue
      pub come : Each (λ w. (x : List ℕ) × (IsTrue (named_by_items items x) × (value_of t x ≡ Some w))) values
      pub proper : IsProper r.vars (v ++ values)
      pub meets : IsTrue (all_true (v ++ values) r.conds)
      pub is : IsTrue (has_open (added_conds s r)) ⊎ Stands stands r (v ++ values) next

    -- ---- what an answered state stands for

    -- State, store and conditions name only variables of the table, and under the valuation the state stands for this.
    pub record IsBefore (s : PureState S) (v : List PureValue) (left : LogicState) : Type 0 where
      pub over : IsOverTable terms s
      pub store_over : IsStoreOver s.vars bs
      pub conds_over : Each (λ a. IsOver s.vars (term_of a)) more
      pub stands_for : Stands stands s v left

    -- Under the longer valuation the state stands for one to which the items were added, under a store that keeps the values of u and has
    -- the sorts that are declared.
    pub record IsAddingOf (u : Store) (left : LogicState) (items : List PureItem) (w : List PureValue) (r : PureState S) : Type 0 where
      pub store : Store
      pub extends : Extends u store
      pub sorts : HasSorts ps store
      pub next : LogicState
      pub adding : IsAdding memory store items left next
      pub stands_for : Stands stands r w next

    -- The conditions were true before, and there is such an adding under each store of the sorts for which the store of terms stands.
    pub record AddsExactly (v : List PureValue) (left : LogicState) (items : List PureItem) (w : List PureValue) (r : PureState S) : Type 0
      where
        pub conds_true : IsTrue (all_true v more)
        pub adding : (u : Store) → StandsFor v bs u → HasSorts ps u → IsAddingOf u left items w r

    --   cover: each adding is what some answered state stands for;
    --   exact: an answered state whose conditions a longer valuation meets, and in which no literal form is needed, stands for an adding;
    --   follow: the answered states go on from the first one.
    pub record AddsItems (items : List PureItem) (s : PureState S) (rs : List (PureState S)) : Type 0 where
      pub cover : (v : List PureValue) (u t : Store) (left next : LogicState) → MayBeAdded s v u t left → IsAdding memory t items left next
          → OneOf (IsAddedAs s v items t next) rs
      pub exact : (v values : List PureValue) (left : LogicState) → IsBefore s v left
          → Each (λ r. IsMetAfter s r (v ++ values) → AddsExactly v left items (v ++ values) r) rs
      pub follow : IsOverTable terms s → IsStoreOver s.vars bs → Each (λ a. IsOver s.vars (term_of a)) more
          → Each (IsFurther terms kept s) rs

    pub record AddsCases (cases : List (List PureItem)) (s : PureState S) (rs : List (PureUnfoldedCase S)) : Type 0 where
      pub cover : (v : List PureValue) (u t : Store) (left next : LogicState) (number : ℕ) (items : List PureItem) → MayBeAdded s v u t left
          → slice_get cases number ≡ Some items → IsAdding memory t items left next
          → OneOf (λ r. (r.number ≡ number) × IsAddedAs s v items t next r.state) rs
      pub exact : (v values : List PureValue) (left : LogicState) → IsBefore s v left
          → Each (λ r. IsMetAfter s r.state (v ++ values) → (items : List PureItem) × ((slice_get cases r.number ≡ Some items)
          × AddsExactly v left items (v ++ values) r.state)) rs
      pub follow : IsOverTable terms s → IsStoreOver s.vars bs → Each (λ a. IsOver s.vars (term_of a)) more
          → Each (λ r. IsFurther terms kept s r.state) rs
      pub origin : Each (IsCaseAddedFrom terms bs more cases s) rs
