-- What adding an item to several states gives, together.
use Rattle.std.proofs.Common.{⊎_elim, inl, inr, List, [], ◌++◌, IsTrue}
use Rattle.gil_values.specs.Pure.{PureValue}
use Rattle.gil_syntax.specs.Pure.{PureItem}
use Rattle.mem_model.specs.declared.keys.MemoryName.{MemoryName}
use Rattle.mem_model.specs.Heaps.{Heap}
use Rattle.assert_logic.specs.LogicStates.{LogicState}
use Rattle.pure_terms.specs.Meaning.{all_true}
use Rattle.sym_evaluation.specs.Pure.{PureStore}
use Rattle.sym_model.specs.Lists.{OneOf}
use Rattle.sym_model.specs.Terms.{StateTerms}
use Rattle.sym_model.proofs.ListLaws.{each_append, each_to, one_left, one_right, one_parts}
use Rattle.sym_states.specs.Meaning.{Stands, Serves}
use Rattle.sym_states.specs.Producing.{PureProduction, joined, IsAfter, NeedsForm, IsCovered, AddsToEach, no_states}
use Rattle.sym_states.specs.Pure.{PureState}

module _ {S : Type 0} (memory : MemoryName) (stands : S → List PureValue → Heap → Type 0) (terms : S → StateTerms) (kept : S → Type 0) (keeps narrows : Type 0) (bs : PureStore) (item : PureItem) where
  abbrev After : PureState S → PureState S → Type 0
  After = IsAfter memory stands terms kept keeps narrows bs item

  -- no state gives none
  pub adds_to_none : AddsToEach memory stands terms kept keeps narrows bs item [] no_states
  adds_to_none = record { cover = λ v t l m none is heap. absurd none; whole = tt; stopped = tt }

  covered_first : (v : List PureValue) (m : LogicState) (p q : PureProduction S) → IsCovered memory stands terms kept keeps narrows bs item v m p → IsCovered memory stands terms kept keeps narrows bs item v m (joined p q)
  covered_first v m p q one =
      ⊎_elim (λ is. inl (one_left (λ r. Stands stands r v m) p.whole q.whole is)) (λ is. inr (one_left (λ (r : PureState S). IsTrue (all_true v r.conds)) p.stopped q.stopped is)) one

  covered_second : (v : List PureValue) (m : LogicState) (p q : PureProduction S) → IsCovered memory stands terms kept keeps narrows bs item v m q → IsCovered memory stands terms kept keeps narrows bs item v m (joined p q)
  covered_second v m p q one =
      ⊎_elim (λ is. inl (one_right (λ r. Stands stands r v m) p.whole q.whole is)) (λ is. inr (one_right (λ (r : PureState S). IsTrue (all_true v r.conds)) p.stopped q.stopped is)) one

  pub adds_to_both : (ss more : List (PureState S)) (p q : PureProduction S) → AddsToEach memory stands terms kept keeps narrows bs item ss p → AddsToEach memory stands terms kept keeps narrows bs item more q
      → AddsToEach memory stands terms kept keeps narrows bs item (ss ++ more) (joined p q)
  adds_to_both ss more p q first second = record {
    cover = λ v t l m serves is heap.
        ⊎_elim (λ one. covered_first v m p q (first.cover v t l m one is heap)) (λ one. covered_second v m p q (second.cover v t l m one is heap))
        (one_parts (λ s. Serves stands terms s bs v t l) ss more serves);
    whole = each_append (λ r. OneOf (λ s. After s r) (ss ++ more)) p.whole q.whole
        (each_to (λ r. OneOf (λ s. After s r) ss) (λ r. OneOf (λ s. After s r) (ss ++ more)) p.whole (λ r one. one_left (λ s. After s r) ss more one) first.whole)
        (each_to (λ r. OneOf (λ s. After s r) more) (λ r. OneOf (λ s. After s r) (ss ++ more)) q.whole (λ r one. one_right (λ s. After s r) ss more one) second.whole);
    stopped = each_append (λ r. OneOf (λ s. After s r × NeedsForm stands terms bs item s r) (ss ++ more)) p.stopped q.stopped
        (each_to (λ r. OneOf (λ s. After s r × NeedsForm stands terms bs item s r) ss) (λ r. OneOf (λ s. After s r × NeedsForm stands terms bs item s r) (ss ++ more)) p.stopped (λ r one. one_left (λ s. After s r × NeedsForm stands terms bs item s r) ss more one) first.stopped)
        (each_to (λ r. OneOf (λ s. After s r × NeedsForm stands terms bs item s r) more) (λ r. OneOf (λ s. After s r × NeedsForm stands terms bs item s r) (ss ++ more)) q.stopped (λ r one. one_right (λ s. After s r × NeedsForm stands terms bs item s r) ss more one) second.stopped);
  }
