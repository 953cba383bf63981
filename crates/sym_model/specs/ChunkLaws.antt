-- What holds of every list of chunks, and of asking every symbolic memory.
use Rattle.std.specs.Prelude.{◌≡◌, ℕ, List, [], ◌∷◌, ◌++◌, slice_get, Option, Some}
use Rattle.std.specs.List.{remove as remove_at}
use Rattle.std.specs.FinMap.{insert, remove}
use Rattle.gil_values.specs.Pure.{PureValue}
use Rattle.mem_model.specs.declared.keys.Key.{Key}
use Rattle.mem_model.specs.declared.keys.MemoryName.{MemoryName}
use Rattle.mem_model.specs.Actions.{Actions, MayAct}
use Rattle.mem_model.specs.Heaps.{Heap, Holds, HasKey}
use Rattle.pure_terms.specs.declared.variables.Sort.{Sort}
use Rattle.pure_terms.specs.declared.variables.Var.{Var}
use Rattle.pure_terms.specs.Meaning.{value}
use Rattle.pure_terms.specs.Pure.{PureTerm, PureAtom}
use Rattle.sym_model.specs.Chunks.{IsEntry, IsUnion, StandFor, with_held, terms_of}
use Rattle.sym_model.specs.Laws.{IsMeaning, MayBeAsked, Serves}
use Rattle.sym_model.specs.Meaning.{fresh_symbol}
use Rattle.sym_model.specs.Pure.{PureChunk}
use Rattle.sym_model.specs.Terms.{StateTerms, asked_of, nothing_asked, IsOwnCondition}

-- Lists of chunks have a meaning, whatever the memory.
abbrev pub ChunksAreMeaning : Type 0
ChunksAreMeaning = (memory : MemoryName) → IsMeaning memory (StandFor memory) terms_of

-- a chunk of the list stands for the key and the value
abbrev pub HasEntry : List PureValue → List PureChunk → Key → PureValue → Type 0
HasEntry v cs k w = (i : ℕ) × ((c : PureChunk) × ((slice_get cs i ≡ Some c) × IsEntry v c k w))

-- A union holds what its chunks stand for, and nothing else. It changes as its list does.
pub record UnionsChange : Type 0 where
  pub holds : (v : List PureValue) (cs : List PureChunk) (h : Heap) (k : Key) (w : PureValue) → IsUnion v cs h → HasEntry v cs k w
      → Holds h k w
  pub nothing_else : (v : List PureValue) (cs : List PureChunk) (h : Heap) (k : Key) (w : PureValue) → IsUnion v cs h → Holds h k w
      → HasEntry v cs k w
  pub changed : (v : List PureValue) (cs : List PureChunk) (h : Heap) (i : ℕ) (c : PureChunk) (k : Key) (w : PureValue) (t : PureTerm)
      (u : PureValue) → IsUnion v cs h → slice_get cs i ≡ Some c → IsEntry v c k w → value v t ≡ Some u → IsUnion v (with_held cs i t)
      (insert h k u)
  pub taken : (v : List PureValue) (cs : List PureChunk) (h : Heap) (i : ℕ) (c : PureChunk) (k : Key) (w : PureValue) → IsUnion v cs h
      → slice_get cs i ≡ Some c → IsEntry v c k w → IsUnion v (remove_at cs i) (remove h k)
  pub added : (v : List PureValue) (cs : List PureChunk) (h : Heap) (c : PureChunk) (k : Key) (w : PureValue) → IsUnion v cs h
      → IsEntry v c k w → ¬ HasKey h k → IsUnion v (cs ++ c ∷ []) (insert h k w)

-- Where nothing is asked about, a memory may give no condition.
abbrev pub NothingAskedGivesNoCondition : Type 0
NothingAskedGivesNoCondition = (state : StateTerms) (a : PureAtom) → ¬ IsOwnCondition (asked_of nothing_asked state) a

-- Where a valuation serves, the concrete action may be asked of the heap and the values that it gives.
abbrev pub ServingMayAct : {S : Type 0} → (S → List PureValue → Heap → Type 0) → (S → StateTerms) → Actions → Type 0
ServingMayAct {S} stands terms m =
    (action : List ℕ) (fresh : Option Var) (args : List PureTerm) (s : S) (vars : List Sort) (v args' : List PureValue) (h : Heap)
    → MayBeAsked m action fresh args (terms s) → Serves stands terms vars v fresh args s args' h
    → MayAct m action (fresh_symbol v fresh) args' h
