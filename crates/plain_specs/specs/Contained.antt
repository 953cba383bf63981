-- Contained specifications: on the way from their start nothing but the machine is asked, and their assertions choose nothing. And what
-- their runs are told to do, where nothing is beside the precondition's heap.
use Rattle.std.specs.Prelude.{◌≡◌, ◌⊎◌, ℕ, List, Bool, true, false, Some, None, IsTrue, ⊤}
use Rattle.std.specs.List.{list_all}
use Rattle.gil_values.specs.Pure.{PureValue, procedure}
use Rattle.gil_syntax.specs.Evaluation.{Store}
use Rattle.gil_syntax.specs.Programs.{find_proc, find_spec}
use Rattle.gil_syntax.specs.Pure.{PureExpr, literal, PureCommand, assign, call, act, usym, isym, ifgoto, return, fail, throw, vanish, fold_use, unfold_use, assert_that, loop_invariant, PureNumberedCommand, PureSpec, PureParts}
use Rattle.gil_syntax.specs.Simple.{is_literal}
use Rattle.gil_machine.specs.Proper.{IsStoreBelow}
use Rattle.gil_machine.specs.Run.{run_of, IsProperStart}
use Rattle.gil_machine.specs.State.{Ending, returned, threw, failed, vanished, no_input, bad_input, cut}
use Rattle.gil_machine.specs.Step.{command_of}
use Rattle.mem_model.specs.declared.keys.MemoryName.{MemoryName}
use Rattle.mem_model.specs.Actions.{Actions}
use Rattle.mem_model.specs.Heaps.{Heap}
use Rattle.assert_logic.specs.Laws.{is_core_item}
use Rattle.assert_logic.specs.Meets.{Meets, HoldsSomewhere}
use Rattle.checked_runs.specs.Specifications.{IsEntry, entry_store, MeetsOne}

-- ---- which procedures may run

-- the procedure of this name has such a command
pub record HasCommand (p : PureParts) (f : List ℕ) (c : PureCommand) : Type 0 where
  pub index : ℕ
  pub numbered : PureNumberedCommand
  pub there : command_of (find_proc p.procs f) index ≡ Some numbered
  pub command : numbered.command ≡ c

-- it has a call of the other one by its name
abbrev pub CallsByName : PureParts → List ℕ → List ℕ → Type 0
CallsByName p f g = (x : List ℕ) × ((es : List PureExpr) × ((handler : _) × HasCommand p f (call x (literal (procedure g)) es handler)))

-- the procedures that one may call, directly or through others; itself where it may so be called again
pub data MayCall (p : PureParts) (f : List ℕ) : List ℕ → Type 0 where
  directly : {g : List ℕ} → CallsByName p f g → MayCall p f g
  through : {g h : List ℕ} → MayCall p f g → CallsByName p g h → MayCall p f h

abbrev pub MayRun : PureParts → List ℕ → List ℕ → Type 0
MayRun p f g = (g ≡ f) ⊎ MayCall p f g

-- no logic command, and no call of what only a run tells
abbrev pub is_told_by_itself : PureCommand → Bool
is_told_by_itself (call x e es handler) = is_literal e
is_told_by_itself (fold_use u) = false
is_told_by_itself (unfold_use u) = false
is_told_by_itself (assert_that items) = false
is_told_by_itself (loop_invariant xs ps items) = false
is_told_by_itself (assign x e) = true
is_told_by_itself (act x a es) = true
is_told_by_itself (usym x) = true
is_told_by_itself (isym x k) = true
is_told_by_itself (ifgoto e i) = true
is_told_by_itself (return e) = true
is_told_by_itself (fail e) = true
is_told_by_itself (throw e) = true
is_told_by_itself vanish = true

-- No procedure that may be called has a specification, no command that may run is a logic command, and the assertions name core
-- predicates alone.
pub record IsContained (p : PureParts) (s : PureSpec) : Type 0 where
  pub by_themselves : (f : List ℕ) (c : PureCommand) → MayRun p s.name f → HasCommand p f c → IsTrue (is_told_by_itself c)
  pub unspecified : (f : List ℕ) → MayCall p s.name f → find_spec p.specs f ≡ None
  pub core_precondition : IsTrue (list_all is_core_item s.pre)
  pub core_postconditions : IsTrue (list_all (list_all is_core_item) s.posts)
  pub core_errors : IsTrue (list_all (list_all is_core_item) s.errors)

-- ---- what its runs are told to do

-- a return or a throw leaves what meets a postcondition, and nothing fails or is cut
abbrev pub EndsAlone : PureParts → PureSpec → List PureValue → Store → Ending → Heap → Type 0
EndsAlone p s args variables (returned v) h = MeetsOne p s args variables v s.posts h
EndsAlone p s args variables (threw v place) h = MeetsOne p s args variables v s.errors h
EndsAlone p s args variables (failed v place) h = ⊥
EndsAlone p s args variables cut h = ⊥
EndsAlone p s args variables vanished h = ⊤
EndsAlone p s args variables (no_input k) h = ⊤
EndsAlone p s args variables (bad_input k) h = ⊤

-- Each run of the procedure from a heap that meets the precondition, with nothing beside it, ends so within this many steps.
abbrev pub RunsAlone : PureParts → MemoryName → Actions → PureSpec → ℕ → Type 0
RunsAlone p memory m s n =
    (args : List PureValue) (variables : Store) (h : Heap) (counter : ℕ) (inputs : List PureValue)
    → IsEntry s args variables → Meets (HoldsSomewhere p.preds) (entry_store s args variables) s.pre h
    → IsProperStart p memory s.name args h counter → IsStoreBelow counter variables
    → EndsAlone p s args variables (run_of p m s.name args h counter inputs n).ending (run_of p m s.name args h counter inputs n).heap
