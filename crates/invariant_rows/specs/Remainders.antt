-- What surely is as it was before.
use Rattle.std.specs.Prelude.{◌≡◌, ℕ, List, Some, slice_get}
use Rattle.gil_values.specs.Pure.{PureValue}
use Rattle.gil_syntax.specs.Pure.{PureParts}
use Rattle.mem_model.specs.declared.keys.MemoryName.{MemoryName}
use Rattle.mem_model.specs.Actions.{Actions}
use Rattle.mem_model.specs.Heaps.{Heap}
use Rattle.assert_logic.specs.LogicStates.{LogicState}
use Rattle.checked_runs.specs.Checked.{Checked, Entry, Passed, IsAsBefore, unlisted_in}
use Rattle.sym_evaluation.specs.Meaning.{StandsFor}
use Rattle.sym_evaluation.specs.Pure.{PureStore}
use Rattle.sym_states.specs.Meaning.{AreFacts}
use Rattle.sym_states.specs.Pure.{PureFact}
use Rattle.checked_paths.specs.Meaning.{IsPassed}
use Rattle.checked_paths.specs.Pure.{PurePassed}

-- the same element at a place of both lists
abbrev pub AreSameAt : {A : Type 0} → List A → List A → ℕ → Type 0
AreSameAt {A} xs ys i = (x : A) × ((slice_get xs i ≡ Some x) × (slice_get ys i ≡ Some x))

-- In each program: under each valuation under which the memory, the facts and the store of the variables that aren't listed stand for something, and the
-- passed invariant does, these are as they were before.
abbrev pub IsSurelyAsBefore : {S : Type 0} → (S → List PureValue → Heap → Type 0) → S → List PureFact → PureStore → PurePassed S → Type 0
IsSurelyAsBefore stands memory facts unlisted former =
    (p : PureParts) (name : MemoryName) (m : Actions) (entry : Entry) (v : List PureValue) (xs : List (List ℕ)) (q : Passed) (left : LogicState)
    (c : Checked) → stands memory v left.heap → AreFacts v facts left.facts
    → StandsFor v unlisted (unlisted_in xs c.machine.current.store) → IsPassed stands v former q → IsAsBefore p name m entry xs q left c
