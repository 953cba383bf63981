-- Listing a state as uses of core predicates, one key each.
use Rattle.std.specs.Prelude.{◌≡◌, ◌↔◌, ℕ, List, [], ◌∷◌, ◌++◌, Option, Some}
use Rattle.std.specs.FinMap.{empty, remove}
use Rattle.gil_values.specs.Pure.{PureValue}
use Rattle.mem_model.specs.declared.keys.Key.{Key}
use Rattle.mem_model.specs.declared.keys.MemoryName.{MemoryName}
use Rattle.mem_model.specs.Cores.{core_entry}
use Rattle.mem_model.specs.Heaps.{Heap, Holds, IsHeapOf}
use Rattle.pure_terms.specs.Meaning.{values}
use Rattle.pure_terms.specs.Pure.{PureTerm, from_list}
use Rattle.sym_model.specs.Cores.{TakesBoth}
use Rattle.sym_model.specs.Lists.{Each, IsAmong}
use Rattle.sym_model.specs.Pure.{PureUse}
use Rattle.sym_model.specs.Terms.{StateTerms, all_of}

-- the use stands for this key and this value
pub record IsUse (v : List PureValue) (u : PureUse) (k : Key) (w : PureValue) : Type 0 where
  pub ws : List PureValue
  pub have : values v (from_list (u.ins ++ u.outs)) ≡ Some ws
  pub entry : core_entry u.core ws ≡ Some (k, w)

-- The heap has what the uses say, and nothing else: with the key of each taken out in turn, nothing is left.
abbrev pub AreUnion : List PureValue → List PureUse → Heap → Type 0
AreUnion v [] h = h ≡ empty
AreUnion v (u ∷ us) h = (k : Key) × ((w : PureValue) × (IsUse v u k w × Holds h k w × AreUnion v us (remove h k)))

-- Listing: where the state stands for a heap, the uses are that heap; and from a kept state, where the uses are a heap of the memory,
-- the state stands for it. The list is empty exactly where the state has no terms. From a kept state each use is of a core predicate of
-- the memory with its numbers of ins and outs. Their terms are among those of the state.
pub record IsListing (memory : MemoryName) {S : Type 0} (stands : S → List PureValue → Heap → Type 0) (terms : S → StateTerms)
    (kept : S → Type 0) (s : S) (us : List PureUse) : Type 0 where
  pub lists : (v : List PureValue) (h : Heap) → stands s v h → AreUnion v us h
  pub back : kept s → (v : List PureValue) (h : Heap) → AreUnion v us h → IsHeapOf memory h → stands s v h
  pub none : (us ≡ []) ↔ (all_of (terms s) ≡ [])
  pub uses : kept s → Each (λ u. TakesBoth memory u.core u.ins u.outs) us
  pub among : Each (λ u. Each (λ t. IsAmong t (all_of (terms s))) (u.ins ++ u.outs)) us
