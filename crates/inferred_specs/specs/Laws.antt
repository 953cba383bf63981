-- What holds of a specification's runs beside any frame, from its runs without one.
use Rattle.std.specs.Prelude.{ℕ, List, IsTrue}
use Rattle.std.specs.FinMap.{empty}
use Rattle.gil_values.specs.Pure.{PureValue}
use Rattle.gil_syntax.specs.Evaluation.{Store}
use Rattle.gil_syntax.specs.Pure.{PureSpec, PureParts}
use Rattle.gil_syntax.specs.WellMade.{is_well_made}
use Rattle.mem_model.specs.declared.keys.MemoryName.{MemoryName}
use Rattle.mem_model.specs.Actions.{Actions, IsMemory}
use Rattle.mem_model.specs.Heaps.{Heap}
use Rattle.gil_machine.specs.Run.{run_of}
use Rattle.gil_machine.specs.State.{End}
use Rattle.checked_runs.specs.Specifications.{EndsAsTold, SpecHolds}
use Rattle.inferred_specs.specs.Inferred.{Finishes, IsCutOff, StartsAlone, EachRun}

module _ (p : PureParts) (memory : MemoryName) (m : Actions) (s : PureSpec) where
  -- what holds of the end of each run without a frame, of at most n steps
  abbrev pub EachRunAlone : ℕ → (List PureValue → Store → End → Type 0) → Type 0
  EachRunAlone n Holds =
      (args : List PureValue) (variables : Store) (own : Heap) (counter : ℕ) (inputs : List PureValue)
      → StartsAlone p memory m s args variables own counter → Holds args variables (run_of p m s.name args own counter inputs n)

  -- the run returned or threw without a draw, and what it left meets a postcondition
  pub record FinishesAsTold (args : List PureValue) (variables : Store) (e : End) : Type 0 where
    pub finishes : Finishes e
    pub as_told : EndsAsTold p s args variables empty e.ending e.heap

-- Where each run without a frame returns or throws without a draw and leaves what meets a postcondition, the specification holds: of each
-- run of any length beside any frame. And each of these does so within as many steps. Where each run without a frame is cut, so is each one
-- beside any frame.
pub record RunsAloneTell : Type 0 where
  pub hold : (p : PureParts) (memory : MemoryName) (m : Actions) (s : PureSpec) (n : ℕ) → IsTrue (is_well_made p) → IsMemory memory m
      → EachRunAlone p memory m s n (FinishesAsTold p memory m s) → SpecHolds p memory m s
  pub finish : (p : PureParts) (memory : MemoryName) (m : Actions) (s : PureSpec) (n : ℕ) → IsTrue (is_well_made p) → IsMemory memory m
      → EachRunAlone p memory m s n (λ args variables e. Finishes e) → EachRun p memory m s n Finishes
  pub cut_off : (p : PureParts) (memory : MemoryName) (m : Actions) (s : PureSpec) (n : ℕ) → IsTrue (is_well_made p) → IsMemory memory m
      → EachRunAlone p memory m s n (λ args variables e. IsCutOff e) → EachRun p memory m s n IsCutOff
