-- Heaps: finite maps from keys to values, which are well formed, and their union. The memory of Gillian, Part I
-- (PLDI 2020); heaps that join without overlap are those of Calcagno, O'Hearn, Yang, LICS 2007.
use Rattle.std.specs.Prelude.{◌≡◌, ◌⊎◌, ℕ, ◌<◌, ℤ, pos, ◌≤ℤ◌, ◌<ℤ◌, ◌++◌, true, Some, IsSome, IsTrue, ⊤}
use Rattle.std.specs.FinMap.{FinMap, get, entries, from_entries}
use Rattle.gil_values.specs.Pure.{PureValue, integer, boolean}
use Rattle.gil_values.specs.Symbols.{OccursIn, IsBelow}
use Rattle.mem_model.specs.declared.keys.Key.{Key}
use Rattle.mem_model.specs.declared.keys.Sub.{Sub}
use Rattle.mem_model.specs.declared.keys.Sub.TheVariants.{Name, At, Shape, Bound, Dom, Gone}
use Rattle.mem_model.specs.declared.keys.MemoryName.{MemoryName}
use Rattle.mem_model.specs.Keys.{key, key_cmp, has_subkey}
use Rattle.mem_model.specs.Names.{is_name_list, lists_name}

abbrev pub Heap : Type 0
Heap = FinMap key_cmp PureValue

-- the heap holds the value at the key
abbrev pub Holds : Heap → Key → PureValue → Type 0
Holds h k v = get h k ≡ Some v

abbrev pub HasKey : Heap → Key → Type 0
HasKey h k = IsSome (get h k)

-- the subkeys at which a list of names stands
abbrev pub HoldsNames : Sub → Type 0
HoldsNames Shape = ⊤
HoldsNames Dom = ⊤
HoldsNames _ = ⊥

-- the descriptors: the subkeys that say what a location is, a record, a block or an object
abbrev pub IsDescriptor : Sub → Type 0
IsDescriptor Shape = ⊤
IsDescriptor Bound = ⊤
IsDescriptor Dom = ⊤
IsDescriptor _ = ⊥

-- No location has `Gone` and another key. `Shape` and `Dom` hold lists of distinct texts, and where a location has
-- one of them, each name that it has is in that list. `Bound` holds a number, and where a location has it, the offset
-- of each of its cells is from 0 up to that number. A location has one descriptor at most.
pub record IsWellFormed (h : Heap) : Type 0 where
  pub gone_alone : (l : ℕ) (s : Sub) → HasKey h (key l Gone) → HasKey h (key l s) → s ≡ Gone
  pub gone_is_true : (l : ℕ) (v : PureValue) → Holds h (key l Gone) v → v ≡ boolean true
  pub name_lists : (l : ℕ) (s : Sub) (d : PureValue) → HoldsNames s → Holds h (key l s) d → IsTrue (is_name_list d)
  pub names_listed : (l : ℕ) (s : Sub) (d : PureValue) → HoldsNames s → Holds h (key l s) d → (p : _) → HasKey h (key l (Name p))
      → IsTrue (lists_name d p)
  pub bound_is_number : (l : ℕ) (v : PureValue) → Holds h (key l Bound) v → (n : ℤ) × (v ≡ integer n)
  pub cells_in_bound : (l : ℕ) (n i : ℤ) → Holds h (key l Bound) (integer n) → HasKey h (key l (At i)) → (pos 0 ≤ℤ i) × (i <ℤ n)
  pub one_descriptor : (l : ℕ) (s t : Sub) → IsDescriptor s → IsDescriptor t → HasKey h (key l s) → HasKey h (key l t) → s ≡ t

-- a heap of this memory: it has only the subkeys of the memory, and is well formed
pub record IsHeapOf (memory : MemoryName) (h : Heap) : Type 0 where
  pub subkeys : (k : Key) → HasKey h k → IsTrue (has_subkey memory k.sub)
  pub well_formed : IsWellFormed h

-- the union of two heaps, which counts where no key is in both
abbrev pub joined : Heap → Heap → Heap
joined g h = from_entries (entries g ++ entries h)

abbrev pub IsDisjoint : Heap → Heap → Type 0
IsDisjoint g h = (k : Key) → HasKey g k → ¬ HasKey h k

-- no key is in both, and the union is well formed
pub record IsCompatible (g h : Heap) : Type 0 where
  pub disjoint : IsDisjoint g h
  pub union_well_formed : IsWellFormed (joined g h)

-- a part of a heap is the heap on some of its keys
abbrev pub IsPartOf : Heap → Heap → Type 0
IsPartOf g h = (k : Key) (v : PureValue) → Holds g k v → Holds h k v

-- the symbol is a location of the heap, or occurs in a value that it holds
abbrev pub OccursInHeap : ℕ → Heap → Type 0
OccursInHeap n h = (k : Key) × ((v : PureValue) × (Holds h k v × ((k.loc ≡ n) ⊎ OccursIn n v)))

-- each location of the heap and each symbol in a value that it holds is below the counter
abbrev pub IsHeapBelow : ℕ → Heap → Type 0
IsHeapBelow counter h = (k : Key) (v : PureValue) → Holds h k v → (k.loc < counter) × IsBelow counter v
