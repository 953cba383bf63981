-- What adding an assertion tells of the values of the names that stand in it.
use Rattle.std.specs.Prelude.{◌≡◌, ℕ, List, Some, None, IsSome, IsTrue}
use Rattle.gil_values.specs.Pure.{PureValue}
use Rattle.gil_values.specs.Symbols.{IsBelow, AreBelow}
use Rattle.gil_syntax.specs.Evaluation.{Store, value_of}
use Rattle.gil_syntax.specs.Pure.{PureItem}
use Rattle.gil_syntax.specs.WellMade.{is_well_made_assertion}
use Rattle.mem_model.specs.declared.keys.MemoryName.{MemoryName}
use Rattle.mem_model.specs.Heaps.{IsHeapBelow}
use Rattle.assert_logic.specs.Adding.{added}
use Rattle.assert_logic.specs.LogicStates.{LogicState}
use Rattle.assert_logic.specs.Modes.{Scope, known_at_first, assertion_fault}
use Rattle.assert_logic.specs.Names.{named_by_items}
use Rattle.sym_model.specs.Lists.{Each}

-- heap and facts have only symbols below the counter
pub record IsLogicBelow (counter : ℕ) (l : LogicState) : Type 0 where
  pub heap : IsHeapBelow counter l.heap
  pub facts : Each (λ f. AreBelow counter f.ins × AreBelow counter f.outs) l.facts

-- Adding reads the values of the names that stand in the items, and no other ones: each of them has one.
pub record AddingReadsNames : Type 0 where
  pub known : (t : Store) (items : List PureItem) (l m : LogicState) → added t items l ≡ Some m
      → (x : List ℕ) → IsTrue (named_by_items items x) → IsSome (value_of t x)
  pub same : (s t : Store) (items : List PureItem) (l : LogicState)
      → ((x : List ℕ) → IsTrue (named_by_items items x) → value_of s x ≡ value_of t x) → added s items l ≡ added t items l

-- Adding invents nothing: where the items can be read, the symbols in the values of the names that stand in them are below a counter
-- that is above those of the names that are known at first, and above those of the state to which they were added.
abbrev pub AddingInventsNothing : Type 0
AddingInventsNothing =
    (memory : MemoryName) (scope : Scope) (items : List PureItem) (t : Store) (l m : LogicState) (counter : ℕ)
    → IsTrue (is_well_made_assertion items) → assertion_fault memory scope items ≡ None → added t items l ≡ Some m
    → IsLogicBelow counter m
    → ((y : List ℕ) (w : PureValue) → IsTrue (known_at_first scope y) → value_of t y ≡ Some w → IsBelow counter w)
    → (x : List ℕ) (w : PureValue) → IsTrue (named_by_items items x) → value_of t x ≡ Some w → IsBelow counter w
