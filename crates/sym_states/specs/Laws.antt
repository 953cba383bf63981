-- The laws of production: adding the items of an assertion to a state of terms is, under every valuation, adding them to what the
-- state stands for. Production and consumption of assertions are those of Gillian, Part II (CAV 2021).
use Rattle.std.specs.Prelude.{◌≡◌, ◌⊎◌, List, false, IsTrue}
use Rattle.gil_values.specs.Pure.{PureValue}
use Rattle.gil_syntax.specs.Evaluation.{Store}
use Rattle.gil_syntax.specs.Pure.{PureItem}
use Rattle.mem_model.specs.declared.keys.MemoryName.{MemoryName}
use Rattle.mem_model.specs.Heaps.{Heap}
use Rattle.assert_logic.specs.Adding.{IsAdding}
use Rattle.assert_logic.specs.LogicStates.{LogicState}
use Rattle.pure_terms.specs.Meaning.{all_true}
use Rattle.sym_evaluation.specs.Meaning.{IsStoreOver}
use Rattle.sym_evaluation.specs.Pure.{PureStore}
use Rattle.sym_model.specs.Lists.{Each, OneOf}
use Rattle.sym_model.specs.Meaning.{has_open}
use Rattle.sym_model.specs.Terms.{StateTerms}
use Rattle.sym_states.specs.Meaning.{Stands, Serves, IsOverTable}
use Rattle.sym_states.specs.Producing.{IsProduced, IsStopped, added_conds}
use Rattle.sym_states.specs.Pure.{PureState}

module _ {S : Type 0} (memory : MemoryName) (stands : S → List PureValue → Heap → Type 0) (terms : S → StateTerms) where
  -- Cover: each adding is what some answered state stands for; or all conditions of some answered state are true, and an added one
  -- among them is that a literal form is needed.
  abbrev pub CoversAddings : PureStore → List PureItem → PureState S → List (PureState S) → Type 0
  CoversAddings bs items s rs =
      (v : List PureValue) (t : Store) (l m : LogicState) → Serves stands terms s bs v t l → IsAdding memory t items l m
      → OneOf (λ r. IsTrue (all_true v r.conds) × (IsTrue (has_open (added_conds s r)) ⊎ Stands stands r v m)) rs

  -- Exactness: an answered state of which no added condition is that a literal form is needed stands, where its conditions are true, for
  -- an adding.
  abbrev pub AreAddings : PureStore → List PureItem → PureState S → List (PureState S) → Type 0
  AreAddings bs items s rs =
      (v : List PureValue) (t : Store) (l : LogicState) → Serves stands terms s bs v t l
      → Each (λ r. IsTrue (all_true v r.conds) → has_open (added_conds s r) ≡ false
      → (m : LogicState) × (IsAdding memory t items l m × Stands stands r v m)) rs

-- Origin: each answered state comes of adding the items one after another, all of them, or up to one at which a literal form is needed.
abbrev pub ComeFromItems : {S : Type 0} → (S → List PureValue → Heap → Type 0) → (S → StateTerms) → PureStore → List PureItem
    → PureState S → List (PureState S) → Type 0
ComeFromItems stands terms bs items s rs = Each (λ r. IsProduced terms bs s items r ⊎ IsStopped stands terms bs s items r) rs

-- the answered states name only variables of the table
abbrev pub StayOverTable : {S : Type 0} → (S → StateTerms) → PureStore → PureState S → List (PureState S) → Type 0
StayOverTable terms bs s rs = IsOverTable terms s → IsStoreOver s.vars bs → Each (IsOverTable terms) rs

-- the memories are still made by the calls of the memory, so that they are listed back
abbrev pub AreKept : {S : Type 0} → (S → Type 0) → List (PureState S) → Type 0
AreKept kept rs = Each (λ r. kept r.memory) rs
