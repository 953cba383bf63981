-- What a core predicate stands for: a heap of one key. And what it needs of a heap to which its key is added.
use Rattle.std.specs.Prelude.{◌≡◌, ◌↔◌, ℕ, ◌+◌, ℤ, pos, ◌≤ℤ◌, ◌<ℤ◌, List, [], ◌∷◌, length, true, Option, Some, None, IsTrue, ⊤}
use Rattle.std.specs.Option.{option_map}
use Rattle.std.specs.FinMap.{empty, insert, remove}
use Rattle.gil_values.specs.Pure.{PureValue, symbol, text, integer, boolean}
use Rattle.mem_model.specs.declared.cores.Core.{Core}
use Rattle.mem_model.specs.declared.keys.Key.{Key}
use Rattle.mem_model.specs.declared.keys.MemoryName.{MemoryName}
use Rattle.mem_model.specs.declared.keys.Sub.{Sub}
use Rattle.mem_model.specs.declared.keys.Sub.TheVariants.{Name, At, Shape, Bound, Dom, Proto, Gone}
use Rattle.mem_model.specs.CoreNames.{core_of, core_name, ins_of, outs_of, has_core}
use Rattle.mem_model.specs.Heaps.{Heap, Holds, HasKey, IsHeapOf, IsCompatible, joined}
use Rattle.mem_model.specs.Keys.{key, has_subkey}
use Rattle.mem_model.specs.Names.{lists_name}

-- the key and the value that a core predicate stands for, by the values of its ins and then of its outs. `gone` holds true.
-- There is none where their number or the kind of an in is wrong.
abbrev pub entry_of : Core → List PureValue → Option (Key × PureValue)
entry_of Core.Prop (symbol l ∷ text p ∷ v ∷ []) = Some (key l (Name p), v)
entry_of Core.Cell (symbol l ∷ integer i ∷ v ∷ []) = Some (key l (At i), v)
entry_of Core.Shape (symbol l ∷ d ∷ []) = Some (key l Shape, d)
entry_of Core.Bound (symbol l ∷ n ∷ []) = Some (key l Bound, n)
entry_of Core.Dom (symbol l ∷ d ∷ []) = Some (key l Dom, d)
entry_of Core.Proto (symbol l ∷ v ∷ []) = Some (key l Proto, v)
entry_of Core.Gone (symbol l ∷ []) = Some (key l Gone, boolean true)
entry_of core ws = None

-- the same by the name of the core predicate
abbrev pub entry_named : Option Core → List PureValue → Option (Key × PureValue)
entry_named (Some core) ws = entry_of core ws
entry_named None ws = None

abbrev pub core_entry : List ℕ → List PureValue → Option (Key × PureValue)
core_entry name ws = entry_named (core_of name) ws

-- the heap of one key
abbrev pub one_key : Key → PureValue → Heap
one_key k w = insert empty k w

-- the heap that a core predicate stands for
abbrev pub core_heap : List ℕ → List PureValue → Option Heap
core_heap name ws = option_map (λ e. one_key e.0 e.1) (core_entry name ws)

-- ---- two keys of one location

abbrev pub IsWithin : PureValue → ℤ → Type 0
IsWithin (integer n) i = (pos 0 ≤ℤ i) × (i <ℤ n)
IsWithin _ i = ⊥

-- Two different keys of one location may stand beside each other with these values: nothing beside `Gone`; beside `Shape` and
-- `Dom` only names that they list; beside `Bound` only cells from 0 up to it; and no two of `Shape`, `Bound` and `Dom`.
abbrev pub FitTogether : Sub → PureValue → Sub → PureValue → Type 0
FitTogether Gone v t w = ⊥
FitTogether (Name p) v Gone w = ⊥
FitTogether (Name p) v Shape d = IsTrue (lists_name d p)
FitTogether (Name p) v Dom d = IsTrue (lists_name d p)
FitTogether (Name p) v t w = ⊤
FitTogether (At i) v Gone w = ⊥
FitTogether (At i) v Bound n = IsWithin n i
FitTogether (At i) v t w = ⊤
FitTogether Shape d (Name p) w = IsTrue (lists_name d p)
FitTogether Shape d (At i) w = ⊤
FitTogether Shape d Proto w = ⊤
FitTogether Shape d t w = ⊥
FitTogether Bound n (Name p) w = ⊤
FitTogether Bound n (At i) w = IsWithin n i
FitTogether Bound n Proto w = ⊤
FitTogether Bound n t w = ⊥
FitTogether Dom d (Name p) w = IsTrue (lists_name d p)
FitTogether Dom d (At i) w = ⊤
FitTogether Dom d Proto w = ⊤
FitTogether Dom d t w = ⊥
FitTogether Proto v Gone w = ⊥
FitTogether Proto v t w = ⊤

-- two different keys with these values: of one location they fit together
abbrev pub StandTogether : Key → PureValue → Key → PureValue → Type 0
StandTogether k v q w = k.loc ≡ q.loc → FitTogether k.sub v q.sub w

-- ---- laws

-- A heap with one key more is a heap of a memory exactly where the heap and the one key are, and the key stands together with
-- each key of the heap.
abbrev pub OneKeyMoreIsHeap : Type 0
OneKeyMoreIsHeap =
    (memory : MemoryName) (h : Heap) (k : Key) (w : PureValue) → ¬ HasKey h k
    → IsHeapOf memory (insert h k w)
    ↔ (IsHeapOf memory h × IsHeapOf memory (one_key k w) × ((q : Key) (u : PureValue) → Holds h q u → StandTogether k w q u))

-- With a key more that it lacks a heap is its union with the one key. It is a heap exactly where the two are heaps that are
-- compatible. What is compatible with the one key lacks the key. And a key that is taken out and put again is as it was.
pub record IsUnionWithKey (memory : MemoryName) (h : Heap) (k : Key) (w : PureValue) : Type 0 where
  pub union : ¬ HasKey h k → insert h k w ≡ joined h (one_key k w)
  pub compatible : ¬ HasKey h k → IsHeapOf memory (insert h k w) → IsCompatible h (one_key k w)
  pub is_heap : IsHeapOf memory h → IsHeapOf memory (one_key k w) → IsCompatible h (one_key k w) → IsHeapOf memory (insert h k w)
  pub lacks : IsCompatible h (one_key k w) → ¬ HasKey h k
  pub taken : Holds h k w → ¬ HasKey (remove h k) k × (insert (remove h k) k w ≡ h)

abbrev pub OneKeyMoreIsUnion : Type 0
OneKeyMoreIsUnion = (memory : MemoryName) (h : Heap) (k : Key) (w : PureValue) → IsUnionWithKey memory h k w

-- A core predicate is found by its name, is of the memories that have its key, and stands for a key only by as many values as it
-- has ins and outs.
pub record CoreStandsForKey (core : Core) : Type 0 where
  pub named : core_of (core_name core) ≡ Some core
  pub numbers : (ws : List PureValue) (k : Key) (w : PureValue) → entry_of core ws ≡ Some (k, w) → length ws ≡ ins_of core + outs_of core
  pub memories : (memory : MemoryName) (ws : List PureValue) (k : Key) (w : PureValue) → entry_of core ws ≡ Some (k, w)
      → has_core memory core ≡ has_subkey memory k.sub

abbrev pub CoresStandForKeys : Type 0
CoresStandForKeys = (core : Core) → CoreStandsForKey core
