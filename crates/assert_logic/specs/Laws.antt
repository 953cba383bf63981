-- What holds of the meaning of assertions.
use Rattle.std.specs.Prelude.{◌≡◌, ◌↔◌, ◌⊎◌, ℕ, ◌≤◌, List, ◌++◌, length, nat_eq, Bool, true, false, Option, Some, None, IsSome, IsTrue}
use Rattle.std.specs.List.{list_all, Contains}
use Rattle.gil_values.specs.Pure.{PureValue}
use Rattle.gil_values.specs.Symbols.{OccursIn, OccursAmong}
use Rattle.gil_syntax.specs.Evaluation.{Store, value_of}
use Rattle.gil_syntax.specs.Pure.{PurePredUse, PureItem, pure, uses, PurePredDef, PureParts}
use Rattle.gil_syntax.specs.Valid.{param_names, is_among}
use Rattle.gil_syntax.specs.WellMade.{is_well_made_assertion, is_well_made}
use Rattle.mem_model.specs.declared.cores.Core.{Core}
use Rattle.mem_model.specs.declared.keys.MemoryName.{MemoryName}
use Rattle.mem_model.specs.CoreNames.{core_of, ins_of}
use Rattle.mem_model.specs.Heaps.{Heap, OccursInHeap}
use Rattle.assert_logic.specs.Names.{named_by_items}
use Rattle.assert_logic.specs.Modes.{Scope, known_at_first, assertion_fault, HasModes}
use Rattle.assert_logic.specs.Unions.{IsUnion}
use Rattle.assert_logic.specs.Meets.{Meets, HoldsAt, HoldsSomewhere}
use Rattle.assert_logic.specs.LogicStates.{Fact, LogicState, nothing, Realizes}
use Rattle.assert_logic.specs.Adding.{added}
use Rattle.assert_logic.specs.Matching.{Match, matched, CaseMatch, match_assertion, match_fold}
use Rattle.assert_logic.specs.Sorts.{HasSorts, Extends}
use Rattle.gil_syntax.specs.declared.assertions.Param.{Param}

-- what holds at a rank holds at each larger one
abbrev pub LargerRanksKeep : Type 0
LargerRanksKeep =
    (preds : List PurePredDef) (j k : ℕ) (name : List ℕ) (ins outs : List PureValue) (h : Heap)
    → j ≤ k → HoldsAt preds j name ins outs h → HoldsAt preds k name ins outs h

-- disjoint parts that meet some items and some others
abbrev pub SplitsInto : List PurePredDef → Store → List PureItem → List PureItem → Heap → Type 0
SplitsInto preds store xs ys h =
    (a : Heap) × ((b : Heap) × (IsUnion h a b × (Meets (HoldsSomewhere preds) store xs a × Meets (HoldsSomewhere preds) store ys b)))

-- A heap meets several items exactly where it is split among them, and their order doesn't matter.
pub record ItemsSplit (preds : List PurePredDef) (store : Store) (h : Heap) : Type 0 where
  pub split : (xs ys : List PureItem) → Meets (HoldsSomewhere preds) store (xs ++ ys) h ↔ SplitsInto preds store xs ys h
  pub any_order : (ws xs ys : List PureItem)
      → Meets (HoldsSomewhere preds) store (ws ++ (xs ++ ys)) h → Meets (HoldsSomewhere preds) store (ws ++ (ys ++ xs)) h

abbrev pub HeapsSplitAmongItems : Type 0
HeapsSplitAmongItems = (preds : List PurePredDef) (store : Store) (h : Heap) → ItemsSplit preds store h

-- Adding is complete: where a heap realizes a state, and a part beside it meets the items, they can be added, and the union
-- realizes the state with them.
abbrev pub AddingIsComplete : Type 0
AddingIsComplete =
    (preds : List PurePredDef) (store : Store) (items : List PureItem) (s : LogicState) (h part whole : Heap)
    → Realizes preds s h → IsUnion whole h part → Meets (HoldsSomewhere preds) store items part
    → (t : LogicState) × ((added store items s ≡ Some t) × Realizes preds t whole)

-- What was matched splits the heap: a part of it meets the items, under the store with the values that names got, and the rest
-- realizes what is left.
pub record SplitsHeap (preds : List PurePredDef) (items : List PureItem) (t : Store) (found : Match) (h : Heap) : Type 0 where
  pub part : Heap
  pub rest : Heap
  pub union : IsUnion h part rest
  pub meets : Meets (HoldsSomewhere preds) found.store items part
  pub realized : Realizes preds found.state rest
  pub extends : Extends t found.store

abbrev pub MatchingSplits : Type 0
MatchingSplits =
    (preds : List PurePredDef) (scope : List Param) (items : List PureItem) (t : Store) (s : LogicState) (found : Match) (h : Heap)
    → match_assertion preds scope items t s ≡ matched found → Realizes preds s h
    → SplitsHeap preds items t found h × (HasSorts scope t → HasSorts scope found.store)

-- A case that `fold` matched is one of the predicate's, so the predicate holds of the part that was taken, with the outs that were
-- asked for.
pub record FoldsHeap (preds : List PurePredDef) (name : List ℕ) (ins outs : List PureValue) (found : CaseMatch) (h : Heap) : Type 0 where
  pub part : Heap
  pub rest : Heap
  pub union : IsUnion h part rest
  pub holds_there : HoldsSomewhere preds name ins found.outs part
  pub outs_are_given : found.outs ≡ outs
  pub realized : Realizes preds found.state rest

abbrev pub FoldingSplits : Type 0
FoldingSplits =
    (preds : List PurePredDef) (name : List ℕ) (ins outs : List PureValue) (s : LogicState) (found : CaseMatch) (h : Heap)
    → match_fold preds name ins outs s ≡ Some found → Realizes preds s h → FoldsHeap preds name ins outs found h

-- Where an assertion is matched with nothing left, the whole heap meets it: a return leaves what its postcondition tells.
pub record IsMatchedWhole (preds : List PurePredDef) (scope : List Param) (items : List PureItem) (t : Store) (found : Match) (h : Heap)
    : Type 0 where
  pub meets : Meets (HoldsSomewhere preds) found.store items h
  pub extends : Extends t found.store
  pub sorts : HasSorts scope t → HasSorts scope found.store

abbrev pub ReturnsAreMatched : Type 0
ReturnsAreMatched =
    (preds : List PurePredDef) (scope : List Param) (items : List PureItem) (t : Store) (s : LogicState) (found : Match) (h : Heap)
    → match_assertion preds scope items t s ≡ matched found → found.state ≡ nothing → Realizes preds s h
    → IsMatchedWhole preds scope items t found h

-- Matching gives a value to a name only where the items have it, the scope lists it, and it had none.
abbrev pub MatchingGivesNames : Type 0
MatchingGivesNames =
    (preds : List PurePredDef) (scope : List Param) (items : List PureItem) (t : Store) (s : LogicState) (found : Match) (x : List ℕ)
    (v : PureValue)
    → match_assertion preds scope items t s ≡ matched found → value_of found.store x ≡ Some v
    → (value_of t x ≡ Some v) ⊎ (IsTrue (named_by_items items x) × (IsTrue (is_among (param_names scope) x) × (value_of t x ≡ None)))

-- a use of a core predicate, with as many ins as it has
abbrev pub is_core_use : Option Core → PurePredUse → Bool
is_core_use (Some core) u = nat_eq (length u.ins) (ins_of core)
is_core_use None u = false

abbrev pub is_core_item : PureItem → Bool
is_core_item (pure e) = true
is_core_item (uses u) = is_core_use (core_of u.pred) u

-- On core predicates nothing is chosen. Where the items can be read, and a store that gives the names that are known at first their
-- values becomes one under which a part of the heap meets them, they are matched, with values of that store alone, and what is
-- left is the rest of the heap: nothing, where the whole heap meets them.
pub record IsMatchedWithTheRest (preds : List PurePredDef) (declared : List Param) (items : List PureItem) (t store : Store)
    (whole rest : Heap) (facts : List Fact) : Type 0 where
  pub found : Match
  pub matches : match_assertion preds declared items t (record { heap = whole; facts = facts }) ≡ matched found
  pub left : found.state ≡ record { heap = rest; facts = facts }
  pub same_values : Extends found.store store

abbrev pub CoreHeapsAreMatched : Type 0
CoreHeapsAreMatched =
    (preds : List PurePredDef) (memory : MemoryName) (scope : Scope) (declared : List Param) (items : List PureItem) (t store : Store)
    (part rest whole : Heap) (facts : List Fact)
    → IsTrue (list_all is_core_item items) → assertion_fault memory scope items ≡ None
    → ((x : List ℕ) → IsTrue (named_by_items items x) → IsTrue (known_at_first scope x) → IsSome (value_of t x))
    → ((x : List ℕ) → IsTrue (named_by_items items x) → value_of t x ≡ None → IsTrue (is_among (param_names declared) x))
    → Extends t store → HasSorts declared store
    → Meets (HoldsSomewhere preds) store items part → IsUnion whole part rest
    → IsMatchedWithTheRest preds declared items t store whole rest facts

abbrev pub OccursInStore : ℕ → Store → Type 0
OccursInStore n t = (x : List ℕ) × ((v : PureValue) × ((value_of t x ≡ Some v) × OccursIn n v))

-- in the heap, or in a value of a fact
abbrev pub OccursInState : ℕ → LogicState → Type 0
OccursInState n s = OccursInHeap n s.heap ⊎ ((f : Fact) × (Contains s.facts f × (OccursAmong n f.ins ⊎ OccursAmong n f.outs)))

-- Matching invents nothing: each symbol of a value that it gives to a name was in the store or in the state.
abbrev pub MatchingInventsNothing : Type 0
MatchingInventsNothing =
    (p : PureParts) (scope : List Param) (items : List PureItem) (t : Store) (s : LogicState) (found : Match) (x : List ℕ) (v : PureValue)
    (n : ℕ)
    → IsTrue (is_well_made p) → IsTrue (is_well_made_assertion items) → match_assertion p.preds scope items t s ≡ matched found
    → value_of found.store x ≡ Some v → OccursIn n v → OccursInStore n t ⊎ OccursInState n s

-- a name that is known at first has a value in which the symbol occurs
abbrev pub IsKnownSymbol : Scope → Store → ℕ → Type 0
IsKnownSymbol scope t n =
    (y : List ℕ) × ((w : PureValue) × (IsTrue (known_at_first scope y) × ((value_of t y ≡ Some w) × OccursIn n w)))

-- Meeting invents nothing: where the items can be read, each symbol in the value of a name that they name occurs in the value of a
-- name that was known at first, or in the heap. And each symbol in the outs of a predicate occurs in its ins, or in its heap.
pub record InventsNothing (p : PureParts) (memory : MemoryName) : Type 0 where
  pub by_items : (scope : Scope) (items : List PureItem) (t : Store) (h : Heap) (x : List ℕ) (v : PureValue) (n : ℕ)
      → IsTrue (is_well_made_assertion items) → assertion_fault memory scope items ≡ None → Meets (HoldsSomewhere p.preds) t items h
      → IsTrue (named_by_items items x) → value_of t x ≡ Some v → OccursIn n v → IsKnownSymbol scope t n ⊎ OccursInHeap n h
  pub by_predicates : (name : List ℕ) (ins outs : List PureValue) (h : Heap) (n : ℕ)
      → HoldsSomewhere p.preds name ins outs h → OccursAmong n outs → OccursAmong n ins ⊎ OccursInHeap n h

abbrev pub MeetingInventsNothing : Type 0
MeetingInventsNothing = (p : PureParts) (memory : MemoryName) → IsTrue (is_well_made p) → HasModes p memory → InventsNothing p memory
