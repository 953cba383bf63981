-- Adding an assertion to a logic state, under a store that gives each name that the items name its value: pure items are true,
-- each core predicate's key is new, and each other use is a fact, in order.
use Rattle.std.specs.Prelude.{◌≡◌, ℕ, List, [], ◌∷◌, ◌++◌, true, if◌then◌else◌, Option, Some, None, Ok}
use Rattle.std.specs.Option.{option_and_then}
use Rattle.std.specs.FinMap.{insert, contains_key}
use Rattle.gil_values.specs.Pure.{PureValue, boolean}
use Rattle.gil_values.specs.Operators.{Outcome}
use Rattle.gil_syntax.specs.Pure.{PureItem, pure, uses}
use Rattle.gil_syntax.specs.Evaluation.{Store, Outcomes, evaluate, evaluate_all}
use Rattle.mem_model.specs.declared.cores.Core.{Core}
use Rattle.mem_model.specs.declared.keys.Key.{Key}
use Rattle.mem_model.specs.declared.keys.MemoryName.{MemoryName}
use Rattle.mem_model.specs.CoreNames.{core_of}
use Rattle.mem_model.specs.Cores.{entry_of}
use Rattle.mem_model.specs.Heaps.{IsHeapOf}
use Rattle.assert_logic.specs.LogicStates.{LogicState}

abbrev pub where_true : Outcome → LogicState → Option LogicState
where_true (Ok (boolean true)) s = Some s
where_true _ s = None

abbrev pub with_key : Option (Key × PureValue) → LogicState → Option LogicState
with_key (Some e) s = if contains_key s.heap e.0 then None else Some (record s { heap = insert s.heap e.0 e.1 })
with_key None s = None

abbrev pub with_use : Option Core → List ℕ → List PureValue → List PureValue → LogicState → Option LogicState
with_use (Some core) name ins outs s = with_key (entry_of core (ins ++ outs)) s
with_use None name ins outs s = Some (record s { facts = s.facts ++ record { pred = name; ins = ins; outs = outs } ∷ [] })

abbrev pub with_values : List ℕ → Outcomes → Outcomes → LogicState → Option LogicState
with_values name (Ok ins) (Ok outs) s = with_use (core_of name) name ins outs s
with_values name _ _ s = None

abbrev pub with_item : Store → PureItem → LogicState → Option LogicState
with_item store (pure e) s = where_true (evaluate e store) s
with_item store (uses u) s = with_values u.pred (evaluate_all u.ins store) (evaluate_all u.outs store) s

abbrev pub added : Store → List PureItem → LogicState → Option LogicState
added store [] s = Some s
added store (item ∷ items) s = option_and_then (added store items) (with_item store item s)

-- the second state is the first one with the assertion added, and its heap is well formed
pub record IsAdding (memory : MemoryName) (store : Store) (items : List PureItem) (s t : LogicState) : Type 0 where
  pub added_is : added store items s ≡ Some t
  pub well_formed : IsHeapOf memory t.heap
