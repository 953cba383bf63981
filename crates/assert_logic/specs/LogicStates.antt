-- Logic states: a heap beside facts, which are user predicates that aren't unfolded. From Gillian, Part II (CAV 2021).
use Rattle.std.specs.Prelude.{◌≡◌, ℕ, List, [], ◌∷◌}
use Rattle.std.specs.FinMap.{empty}
use Rattle.gil_values.specs.Pure.{PureValue}
use Rattle.gil_syntax.specs.Pure.{PurePredDef}
use Rattle.mem_model.specs.Heaps.{Heap}
use Rattle.assert_logic.specs.Meets.{Predicates, HoldsSomewhere}
use Rattle.assert_logic.specs.Unions.{IsUnion}

-- a user predicate of these values
pub record Fact : Type 0 where
  pub pred : List ℕ
  pub ins : List PureValue
  pub outs : List PureValue

pub record LogicState : Type 0 where
  pub heap : Heap
  pub facts : List Fact

abbrev pub nothing : LogicState
nothing = record { heap = empty; facts = [] }

-- each fact holds of a part of its own
abbrev pub FactsHold : Predicates → List Fact → Heap → Type 0
FactsHold holds [] h = h ≡ empty
FactsHold holds (f ∷ fs) h =
    (part : Heap) × ((rest : Heap) × (IsUnion h part rest × (holds f.pred f.ins f.outs part × FactsHold holds fs rest)))

-- the heap is that of the state, and beside it the parts of which its facts hold
pub record Realizes (preds : List PurePredDef) (s : LogicState) (h : Heap) : Type 0 where
  pub own : Heap
  pub union : IsUnion h s.heap own
  pub facts : FactsHold (HoldsSomewhere preds) s.facts own
