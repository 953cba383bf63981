-- A specification holds: with any frame, whatever the counter and the inputs, no run from a heap that contains its precondition
-- fails, and what a run leaves when it returns or throws, but for the frame, meets a postcondition. Frames are those of
-- O'Hearn, Reynolds, Yang, CSL 2001; specifications are those of Gillian, Part II (CAV 2021).
use Rattle.std.specs.Prelude.{◌≡◌, ℕ, List, [], ◌∷◌, ◌++◌, Bool, true, false, ◌&&◌, Some, IsTrue, slice_get, ⊤, codes}
use Rattle.gil_values.specs.Pure.{PureValue}
use Rattle.gil_syntax.specs.declared.assertions.Param.{Param}
use Rattle.gil_syntax.specs.Pure.{PureItem, PureSpec, PureParts}
use Rattle.gil_syntax.specs.Evaluation.{Store, value_of, Agrees}
use Rattle.gil_syntax.specs.Valid.{param_names}
use Rattle.mem_model.specs.declared.keys.MemoryName.{MemoryName}
use Rattle.mem_model.specs.Actions.{Actions}
use Rattle.mem_model.specs.Heaps.{Heap}
use Rattle.gil_machine.specs.Proper.{IsStoreBelow}
use Rattle.gil_machine.specs.Run.{run_of, IsProperStart}
use Rattle.gil_machine.specs.State.{Ending, returned, threw, failed}
use Rattle.gil_machine.specs.Step.{bind_all}
use Rattle.assert_logic.specs.Meets.{Meets, HoldsSomewhere}
use Rattle.assert_logic.specs.Modes.{is_variable_of}
use Rattle.assert_logic.specs.Sorts.{has_sort, HasSorts, Extends}
use Rattle.assert_logic.specs.Unions.{IsUnion}

-- as many values as parameters, each of its sort
abbrev pub fit_params : List Param → List PureValue → Bool
fit_params [] [] = true
fit_params (q ∷ qs) (v ∷ vs) = has_sort q.sort v && fit_params qs vs
fit_params _ _ = false

-- the values with which a specification is entered: of its parameters, and of the logical variables that its precondition names
pub record IsEntry (s : PureSpec) (args : List PureValue) (variables : Store) : Type 0 where
  pub arguments_fit : IsTrue (fit_params s.params args)
  pub only_variables : (x : List ℕ) (v : PureValue) → value_of variables x ≡ Some v → IsTrue (is_variable_of s x)
  pub sorts : HasSorts (s.params ++ s.logicals) variables

abbrev pub entry_store : PureSpec → List PureValue → Store → Store
entry_store s args variables = bind_all (param_names s.params) args ++ variables

-- the name of the result in postconditions
abbrev pub result_name : List ℕ
result_name = codes "ret"

-- Under which stores a postcondition is read: parameters and variables have the values that they had at entry, the result has
-- its name, and the other variables have any values of their sorts.
pub record IsPostStore (s : PureSpec) (args : List PureValue) (variables : Store) (v : PureValue) (t : Store) : Type 0 where
  pub parameters : Agrees t (param_names s.params) args
  pub variables_stay : Extends variables t
  pub result : value_of t result_name ≡ Some v
  pub sorts : HasSorts (s.params ++ s.logicals) t

-- some of these postconditions is met
pub record MeetsOne (p : PureParts) (s : PureSpec) (args : List PureValue) (variables : Store) (v : PureValue)
    (posts : List (List PureItem)) (h : Heap) : Type 0 where
  pub number : ℕ
  pub post : List PureItem
  pub is_post : slice_get posts number ≡ Some post
  pub store : Store
  pub is_store : IsPostStore s args variables v store
  pub meets : Meets (HoldsSomewhere p.preds) store post h

module _ (p : PureParts) (s : PureSpec) (args : List PureValue) (variables : Store) (frame : Heap) where
  -- the heap is the frame, and beside it what meets one of these postconditions
  abbrev pub Leaves : PureValue → List (List PureItem) → Heap → Type 0
  Leaves v posts h = (own : Heap) × (IsUnion h own frame × MeetsOne p s args variables v posts own)

  abbrev pub EndsAsTold : Ending → Heap → Type 0
  EndsAsTold (returned v) h = Leaves v s.posts h
  EndsAsTold (threw v place) h = Leaves v s.errors h
  EndsAsTold (failed v place) h = ⊥
  EndsAsTold _ h = ⊤

abbrev pub SpecHolds : PureParts → MemoryName → Actions → PureSpec → Type 0
SpecHolds p memory m s =
    (args : List PureValue) (variables : Store) (own frame whole : Heap) (counter : ℕ) (inputs : List PureValue) (n : ℕ)
    → IsEntry s args variables → Meets (HoldsSomewhere p.preds) (entry_store s args variables) s.pre own → IsUnion whole own frame
    → IsProperStart p memory s.name args whole counter → IsStoreBelow counter variables
    → EndsAsTold p s args variables frame (run_of p m s.name args whole counter inputs n).ending
    (run_of p m s.name args whole counter inputs n).heap
