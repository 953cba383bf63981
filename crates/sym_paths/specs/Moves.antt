-- The commands that ask nothing, and what they make of a path: new symbols, draws, the end of a path without an answer, and the
-- commands that do nothing in a run.
use Rattle.std.specs.Prelude.{◌≡◌, ℕ, ◌+◌, List, [], ◌∷◌, ◌++◌, Some, None, ⊤}
use Rattle.gil_syntax.specs.Pure.{PureParts, PureCommand, assign, call, act, usym, isym, ifgoto, return, fail, throw, vanish, fold_use, unfold_use, assert_that, loop_invariant, PureNumberedCommand}
use Rattle.gil_values.specs.declared.kinds.Kind.{Kind}
use Rattle.gil_values.specs.Pure.{PureValue}
use Rattle.mem_model.specs.Actions.{Actions}
use Rattle.mem_model.specs.Heaps.{Heap}
use Rattle.pure_terms.specs.declared.variables.Sort.{Sort}
use Rattle.pure_terms.specs.Pure.{PureAtom}
use Rattle.sym_evaluation.specs.Pure.{PureStore}
use Rattle.sym_model.specs.Terms.{StateTerms}
pub use Rattle.sym_paths.specs.Frames.{running_store, advanced, IsBound, draw_sort, next_variable}
use Rattle.sym_paths.specs.Meaning.{IsOverTable, command_of_path}
use Rattle.sym_paths.specs.Pure.{vanished, PurePath}
use Rattle.sym_paths.specs.Steps.{AreNextPaths}

-- the commands that do nothing in a run
abbrev pub IsLogic : PureCommand → Type 0
IsLogic (fold_use u) = ⊤
IsLogic (unfold_use u) = ⊤
IsLogic (assert_that items) = ⊤
IsLogic (loop_invariant xs ps items) = ⊤
IsLogic (assign x e) = ⊥
IsLogic (call x e es handler) = ⊥
IsLogic (act x action es) = ⊥
IsLogic (usym x) = ⊥
IsLogic (isym x k) = ⊥
IsLogic (ifgoto e i) = ⊥
IsLogic (return e) = ⊥
IsLogic (fail e) = ⊥
IsLogic (throw e) = ⊥
IsLogic vanish = ⊥

module _ {S : Type 0} (path : PurePath S) where
  abbrev pub vanishing : PurePath S
  vanishing = record path { steps = path.steps + 1; ending = Some vanished }

  abbrev pub passing : PurePath S
  passing = record path { stack = advanced (running_store path.stack) path.stack; steps = path.steps + 1 }

  -- with a variable more, and a store in which it may stand
  abbrev pub with_fresh : PureStore → PurePath S
  with_fresh bs = record path { vars = path.vars ++ Sort.Fresh ∷ []; stack = advanced bs path.stack; steps = path.steps + 1 }

  abbrev pub with_draw : Sort → PureStore → PurePath S
  with_draw sort bs = record path {
    vars = path.vars ++ sort ∷ [];
    stack = advanced bs path.stack;
    drawn = path.drawn ++ next_variable path sort ∷ [];
    steps = path.steps + 1;
  }

-- what holds of no condition
abbrev pub NoOwn : PureAtom → Type 0
NoOwn a = ⊥

-- A path without an end at such a command has one next path, without a new condition.
pub record AskNothing {S : Type 0} (stands : S → List PureValue → Heap → Type 0) (terms : S → StateTerms) : Type 0 where
  pub vanish_ends : (p : PureParts) (m : Actions) (path : PurePath S) (c : PureNumberedCommand) → IsOverTable terms path → path.ending ≡ None
      → command_of_path p path ≡ Some c → c.command ≡ vanish → AreNextPaths p m stands terms NoOwn NoOwn path (vanishing path ∷ [])
  pub logic_passes : (p : PureParts) (m : Actions) (path : PurePath S) (c : PureNumberedCommand) → IsOverTable terms path
      → path.ending ≡ None → command_of_path p path ≡ Some c → IsLogic c.command
      → AreNextPaths p m stands terms NoOwn NoOwn path (passing path ∷ [])
  pub usym_adds_a_symbol : (p : PureParts) (m : Actions) (path : PurePath S) (c : PureNumberedCommand) (x : List ℕ) (bs : PureStore)
      → IsOverTable terms path → path.ending ≡ None → command_of_path p path ≡ Some c → c.command ≡ usym x
      → IsBound (running_store path.stack) x (next_variable path Sort.Fresh) bs
      → AreNextPaths p m stands terms NoOwn NoOwn path (with_fresh path bs ∷ [])
  pub isym_adds_a_draw : (p : PureParts) (m : Actions) (path : PurePath S) (c : PureNumberedCommand) (x : List ℕ) (k : Kind) (sort : Sort)
      (bs : PureStore) → IsOverTable terms path → path.ending ≡ None → command_of_path p path ≡ Some c → c.command ≡ isym x k
      → draw_sort k ≡ Some sort → IsBound (running_store path.stack) x (next_variable path sort) bs
      → AreNextPaths p m stands terms NoOwn NoOwn path (with_draw path sort bs ∷ [])
