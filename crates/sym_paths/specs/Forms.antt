-- The law on literal forms along a path: an action needs the literal form of a term only where what it comes to depends on it.
use Rattle.std.specs.Prelude.{◌≡◌, ℕ, List, ◌++◌, Some, ⊤}
use Rattle.gil_values.specs.Pure.{PureValue}
use Rattle.gil_syntax.specs.Pure.{PureParts, PureExpr, PureCommand, assign, call, act, usym, isym, ifgoto, return, fail, throw, vanish, fold_use, unfold_use, assert_that, loop_invariant, PureNumberedCommand}
use Rattle.gil_machine.specs.State.{State}
use Rattle.mem_model.specs.Heaps.{Heap}
use Rattle.pure_terms.specs.Meaning.{Satisfies}
use Rattle.pure_terms.specs.Pure.{PureTerm, PureAtom}
use Rattle.sym_evaluation.specs.Questions.{AreTermsOf}
pub use Rattle.sym_model.specs.Forms.{OpensOnly}
use Rattle.sym_model.specs.Lists.{Each}
use Rattle.sym_paths.specs.Frames.{running_store}
use Rattle.sym_paths.specs.Meaning.{Stands, command_of_path}
use Rattle.sym_paths.specs.Pure.{PurePath}
use Rattle.sym_paths.specs.Steps.{Extends}

module _ {S : Type 0} (p : PureParts) (stands : S → List PureValue → Heap → Type 0)
    (depends : S → List ℕ → List PureTerm → List PureValue → Heap → PureTerm → Type 0) (path next : PurePath S) where
  -- With the terms of the expressions as arguments, in each state that the path stands for, under each valuation that meets all
  -- conditions of the next path, what the action comes to depends on the literal form of the term.
  abbrev pub Matters : List ℕ → List PureExpr → PureTerm → Type 0
  Matters action es t =
      (args : List PureTerm) × (AreTermsOf (running_store path.stack) es args
      × ((inputs v w : List PureValue) (s : State) → Stands stands path v s → Extends inputs s path next v w
      → Satisfies next.vars w next.conds → depends path.memory action args w s.heap t))

  -- each new condition that the literal form of a term is needed is of a term whose form matters to the action
  pub record NeedsOnly (action : List ℕ) (es : List PureExpr) : Type 0 where
    pub added : List PureAtom
    pub conds : next.conds ≡ path.conds ++ added
    pub each : Each (OpensOnly (Matters action es)) added

  abbrev pub NeedsAt : PureCommand → Type 0
  NeedsAt (act x action es) = NeedsOnly action es
  NeedsAt (assign x e) = ⊤
  NeedsAt (call x e es handler) = ⊤
  NeedsAt (usym x) = ⊤
  NeedsAt (isym x k) = ⊤
  NeedsAt (ifgoto e i) = ⊤
  NeedsAt (return e) = ⊤
  NeedsAt (fail e) = ⊤
  NeedsAt (throw e) = ⊤
  NeedsAt vanish = ⊤
  NeedsAt (fold_use u) = ⊤
  NeedsAt (unfold_use u) = ⊤
  NeedsAt (assert_that items) = ⊤
  NeedsAt (loop_invariant xs ps items) = ⊤

  -- Forms: at an action the next path needs only literal forms that matter to it.
  abbrev pub NeedsWhatMatters : Type 0
  NeedsWhatMatters = (c : PureNumberedCommand) → command_of_path p path ≡ Some c → NeedsAt c.command
