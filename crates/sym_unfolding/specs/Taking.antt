-- Copies of states, and states without a fact.
use Rattle.std.specs.Prelude.{◌≡◌, ◌++◌, ◌+◌, List, take, drop}
use Rattle.gil_values.specs.Pure.{PureValue}
use Rattle.mem_model.specs.Heaps.{Heap}
use Rattle.sym_model.specs.Terms.{StateTerms}
use Rattle.sym_states.specs.Pure.{PureState}
use Rattle.sym_unfolding.specs.Searching.{PureFound}

module _ {S : Type 0} (stands : S → List PureValue → Heap → Type 0) (terms : S → StateTerms) (kept : S → Type 0) where
  -- the memory stands for the same heaps, and has the same terms
  pub record IsSameMemory (m n : S) : Type 0 where
    pub stays : (v : List PureValue) (h : Heap) → stands m v h → stands n v h
    pub same_terms : terms n ≡ terms m
    pub still_kept : kept m → kept n

  -- the state over such a memory
  pub record IsOverAgain (s r : PureState S) : Type 0 where
    pub is : r ≡ record s { memory = r.memory }
    pub memory : IsSameMemory s.memory r.memory

  -- the conditions are added, and the fact at the place isn't there any more
  pub record TakesOut (found : PureFound) (s r : PureState S) : Type 0 where
    pub is : r ≡ record s {
      conds = s.conds ++ found.conds;
      memory = r.memory;
      facts = take found.place s.facts ++ drop (found.place + 1) s.facts;
    }
    pub memory : IsSameMemory s.memory r.memory
