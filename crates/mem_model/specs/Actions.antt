-- Actions: what a memory may do with a heap, and the laws that it keeps. A memory is a set of named actions, from
-- Gillian, Part I (PLDI 2020); locality is that of Calcagno, O'Hearn, Yang, LICS 2007.
use Rattle.std.specs.Prelude.{◌≡◌, ◌⊎◌, ◌↔◌, ℕ, List, Bool, false, Option, Some, IsSome, IsTrue, ⊤, codes}
use Rattle.gil_values.specs.Pure.{PureValue, text}
use Rattle.gil_values.specs.Symbols.{OccursIn, OccursAmong}
use Rattle.mem_model.specs.declared.keys.Key.{Key}
use Rattle.mem_model.specs.declared.keys.MemoryName.{MemoryName}
use Rattle.mem_model.specs.Pure.{PureOutcome, done, failed, miss}
use Rattle.mem_model.specs.Keys.{has_subkey}
use Rattle.mem_model.specs.Heaps.{Heap, HasKey, IsHeapOf, IsCompatible, joined, IsPartOf, OccursInHeap}

-- what an action comes to, and the heap after it
pub record ActionResult : Type 0 where
  pub outcome : PureOutcome
  pub heap : Heap

-- the meaning of a memory: which actions take a new symbol, and what an action, a new symbol where it takes one, and
-- arguments make of a heap
pub record Actions : Type 0 where
  pub takes_symbol : List ℕ → Bool
  pub act : List ℕ → Option ℕ → List PureValue → Heap → ActionResult

-- the memory that has no action
abbrev pub no_memory : Actions
no_memory = record { takes_symbol = λ _. false; act = λ _ _ _ h. record { outcome = failed (text (codes "action")); heap = h } }

-- The condition under which an action may be asked: the new symbol is there exactly where the action takes one, and
-- it occurs neither in the heap nor in the arguments.
pub record MayAct (m : Actions) (action : List ℕ) (fresh : Option ℕ) (args : List PureValue) (h : Heap) : Type 0 where
  pub symbol_where_taken : IsSome fresh ↔ IsTrue (m.takes_symbol action)
  pub new_in_heap : (n : ℕ) → fresh ≡ Some n → ¬ OccursInHeap n h
  pub new_in_arguments : (n : ℕ) → fresh ≡ Some n → ¬ OccursAmong n args

-- done or failed, and not a miss
abbrev pub IsSettled : PureOutcome → Type 0
IsSettled (done v) = ⊤
IsSettled (failed v) = ⊤
IsSettled (miss k) = ⊥

abbrev pub IsDone : PureOutcome → Type 0
IsDone (done v) = ⊤
IsDone (failed v) = ⊥
IsDone (miss k) = ⊥

abbrev pub OccursInOutcome : ℕ → PureOutcome → Type 0
OccursInOutcome n (done v) = OccursIn n v
OccursInOutcome n (failed v) = OccursIn n v
OccursInOutcome n (miss k) = k.loc ≡ n

-- two results are the same but for a rest, which the second one has besides
pub record IsSameBeside (rest : Heap) (small large : ActionResult) : Type 0 where
  pub outcome : large.outcome ≡ small.outcome
  pub heap : large.heap ≡ joined small.heap rest
  pub compatible : IsCompatible small.heap rest

-- Locality: what is done or fails on a heap is the same beside any compatible rest, which stays as it is.
abbrev pub IsLocal : MemoryName → Actions → Type 0
IsLocal memory m =
    (action : List ℕ) (fresh : Option ℕ) (args : List PureValue) (h rest : Heap)
    → IsHeapOf memory h → IsHeapOf memory rest → IsCompatible h rest
    → MayAct m action fresh args (joined h rest)
    → IsSettled (m.act action fresh args h).outcome
    → IsSameBeside rest (m.act action fresh args h) (m.act action fresh args (joined h rest))

-- No invention: each symbol of the outcome and of the new heap is the new one, or was in the arguments or the heap.
abbrev pub InventsNothing : MemoryName → Actions → Type 0
InventsNothing memory m =
    (action : List ℕ) (fresh : Option ℕ) (args : List PureValue) (h : Heap)
    → IsHeapOf memory h → MayAct m action fresh args h
    → (n : ℕ) → OccursInOutcome n (m.act action fresh args h).outcome ⊎ OccursInHeap n (m.act action fresh args h).heap
    → (fresh ≡ Some n) ⊎ (OccursAmong n args ⊎ OccursInHeap n h)

-- a heap of the memory stays one
abbrev pub KeepsHeaps : MemoryName → Actions → Type 0
KeepsHeaps memory m =
    (action : List ℕ) (fresh : Option ℕ) (args : List PureValue) (h : Heap)
    → IsHeapOf memory h → MayAct m action fresh args h
    → IsHeapOf memory (m.act action fresh args h).heap

-- an action that isn't done leaves the heap as it was
abbrev pub ChangesOnlyWhenDone : Actions → Type 0
ChangesOnlyWhenDone m =
    (action : List ℕ) (fresh : Option ℕ) (args : List PureValue) (h : Heap)
    → ¬ IsDone (m.act action fresh args h).outcome
    → (m.act action fresh args h).heap ≡ h

-- An action misses a key only where the heap lacks it, and only a key of the memory. Not every memory keeps it.
abbrev pub MissesWhatLacks : MemoryName → Actions → Type 0
MissesWhatLacks memory m =
    (action : List ℕ) (fresh : Option ℕ) (args : List PureValue) (h : Heap) (k : Key)
    → IsHeapOf memory h → MayAct m action fresh args h
    → (m.act action fresh args h).outcome ≡ miss k
    → ¬ HasKey h k × IsTrue (has_subkey memory k.sub)

-- what every memory keeps
pub record IsMemory (memory : MemoryName) (m : Actions) : Type 0 where
  pub locality : IsLocal memory m
  pub no_invention : InventsNothing memory m
  pub keeps_heaps : KeepsHeaps memory m
  pub changes_only_when_done : ChangesOnlyWhenDone m

-- Parts: a part of a heap is a heap.
abbrev pub PartsAreHeaps : Type 0
PartsAreHeaps = (memory : MemoryName) (g h : Heap) → IsPartOf g h → IsHeapOf memory h → IsHeapOf memory g
