-- Parts of heaps, and values that stay below a counter that rises.
use Rattle.std.proofs.Common.{ℕ, ◌≤◌, List, [], ◌∷◌, All, sym, subst, arith}
use Rattle.std.proofs.lemmas.List.Elements.{All-nil, All-cons}
use Rattle.gil_values.specs.Pure.{PureValue}
use Rattle.gil_syntax.specs.Evaluation.{Store}
use Rattle.gil_syntax.proofs.Symbols.{HoldsOfAll, each_of_all}
use Rattle.mem_model.specs.declared.keys.MemoryName.{MemoryName}
use Rattle.mem_model.specs.Heaps.{Heap, Holds, IsHeapOf}
use Rattle.mem_model.proofs.Compatible.{first_part, second_part}
use Rattle.mem_model.proofs.Parts.{parts_are_heaps}
use Rattle.gil_machine.specs.Proper.{IsStoreBelow}
use Rattle.gil_machine.proofs.Proper.{Below}
use Rattle.assert_logic.specs.LogicStates.{Fact}
use Rattle.assert_logic.specs.Unions.{IsUnion}
use Rattle.assert_logic.proofs.MatchedValues.{EachFactHolds}
use Rattle.checked_runs.specs.Checked.{IsFactBelow}

-- ---- parts of heaps

pub union_parts : (memory : MemoryName) (h a b : Heap) → IsUnion h a b → IsHeapOf memory h → IsHeapOf memory a × IsHeapOf memory b
union_parts memory h a b u is = (
  parts_are_heaps memory a h (λ k v at. subst (λ x. Holds x k v) (sym u.union) (first_part a b u.disjoint k v at)) is,
  parts_are_heaps memory b h (λ k v at. subst (λ x. Holds x k v) (sym u.union) (second_part a b u.disjoint k v at)) is,
)

pub facts_below : (k : ℕ) (fs : List Fact) → EachFactHolds (Below k) fs → All (IsFactBelow k) fs
facts_below k [] h = All-nil (IsFactBelow k)
facts_below k (f ∷ fs) h = All-cons (IsFactBelow k) f fs (each_of_all (Below k) f.ins h.0.0, each_of_all (Below k) f.outs h.0.1) (facts_below k fs h.1)

pub values_raised : (j k : ℕ) → j ≤ k → (vs : List PureValue) → HoldsOfAll (Below j) vs → HoldsOfAll (Below k) vs
values_raised j k le [] h = tt
values_raised j k le (v ∷ vs) h = (λ n occurs. let lt = h.0 n occurs in omega (arith, lt, le), values_raised j k le vs h.1)

pub facts_raised : (j k : ℕ) → j ≤ k → (fs : List Fact) → EachFactHolds (Below j) fs → EachFactHolds (Below k) fs
facts_raised j k le [] h = tt
facts_raised j k le (f ∷ fs) h = ((values_raised j k le f.ins h.0.0, values_raised j k le f.outs h.0.1), facts_raised j k le fs h.1)

pub store_raised : (j k : ℕ) → j ≤ k → (s : Store) → IsStoreBelow j s → IsStoreBelow k s
store_raised j k le s h x v is n occurs = let lt = h x v is n occurs in omega (arith, lt, le)
