-- What holds of all heaps and of the union of heaps, and of the memory without actions.
use Rattle.std.specs.Prelude.{◌≡◌, ◌⊎◌, not}
use Rattle.std.specs.Cmp.{IsTotalOrder}
use Rattle.std.specs.FinMap.{IsAntisymmetric, empty, contains_key, retain_keys}
use Rattle.gil_values.specs.Pure.{PureValue}
use Rattle.mem_model.specs.declared.keys.Key.{Key}
use Rattle.mem_model.specs.declared.keys.MemoryName.{MemoryName}
use Rattle.mem_model.specs.Keys.{key_cmp}
use Rattle.mem_model.specs.Heaps.{Heap, Holds, IsDisjoint, IsCompatible, IsPartOf, IsHeapOf, joined}
use Rattle.mem_model.specs.Actions.{no_memory, IsMemory}

-- keys are totally ordered, and only equal keys tie, so that two heaps that hold the same at each key are equal
pub record KeysAreOrdered : Type 0 where
  pub total : IsTotalOrder key_cmp
  pub ties_are_equal : IsAntisymmetric key_cmp

-- the union of disjoint heaps, either way round
abbrev pub JoinCommutes : Type 0
JoinCommutes = (g h : Heap) → IsDisjoint g h → joined g h ≡ joined h g

abbrev pub JoinAssociates : Type 0
JoinAssociates = (f g h : Heap) → joined (joined f g) h ≡ joined f (joined g h)

abbrev pub JoinHasUnit : Type 0
JoinHasUnit = (h : Heap) → (joined empty h ≡ h) × (joined h empty ≡ h)

-- the union of disjoint heaps holds what each of them holds, and nothing else
pub record HoldsBoth (g h : Heap) : Type 0 where
  pub first : (k : Key) (v : PureValue) → Holds g k v → Holds (joined g h) k v
  pub second : (k : Key) (v : PureValue) → Holds h k v → Holds (joined g h) k v
  pub nothing_else : (k : Key) (v : PureValue) → Holds (joined g h) k v → Holds g k v ⊎ Holds h k v

abbrev pub JoinHoldsBoth : Type 0
JoinHoldsBoth = (g h : Heap) → IsDisjoint g h → HoldsBoth g h

-- compatible heaps are so either way round, and their union is a heap of the memory where both are
abbrev pub CompatibleCommutes : Type 0
CompatibleCommutes = (g h : Heap) → IsCompatible g h → IsCompatible h g

abbrev pub JoinIsHeap : Type 0
JoinIsHeap = (memory : MemoryName) (g h : Heap) → IsHeapOf memory g → IsHeapOf memory h → IsCompatible g h → IsHeapOf memory (joined g h)

-- a heap that is compatible with a union is so with its parts: the three join in any grouping
abbrev pub CompatibleAssociates : Type 0
CompatibleAssociates = (f g h : Heap) → IsCompatible f g → IsCompatible (joined f g) h → IsCompatible g h × IsCompatible f (joined g h)

-- the heap on the keys that a part of it lacks
abbrev pub rest_of : Heap → Heap → Heap
rest_of h part = retain_keys h (λ k. not (contains_key part k))

-- a heap is the union of any part of it and of what is left
abbrev pub HeapsSplit : Type 0
HeapsSplit = (part h : Heap) → IsPartOf part h → IsDisjoint part (rest_of h part) × (joined part (rest_of h part) ≡ h)

-- the empty heap is a heap of every memory
abbrev pub EmptyIsHeap : Type 0
EmptyIsHeap = (memory : MemoryName) → IsHeapOf memory empty

-- the memory without actions keeps the laws, as each memory
abbrev pub NoMemoryIsOne : Type 0
NoMemoryIsOne = (memory : MemoryName) → IsMemory memory no_memory
