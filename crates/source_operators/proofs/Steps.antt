-- Single commands of operators, from where the commands behind them lead.
use Rattle.std.proofs.Common.{◌≡◌, ◌≢◌, ℕ, suc, ◌+◌, ◌≤◌, pos, List, Bool, true, false, Some, Ok, Err, slice_get, refl, ap, subst, ◌∙◌, arith}
use Rattle.gil_values.specs.declared.places.Place.{Place}
use Rattle.gil_values.specs.Operators.{Outcome}
use Rattle.gil_values.specs.Pure.{PureValue, boolean}
use Rattle.gil_syntax.specs.Pure.{PureExpr, literal, assign, fail, vanish, PureProc, PureParts}
use Rattle.gil_syntax.specs.Programs.{find_proc}
use Rattle.gil_syntax.specs.Evaluation.{Store, bind, after_value, evaluate}
use Rattle.mem_model.specs.Actions.{Actions}
use Rattle.gil_machine.specs.State.{Frame, vanished}
use Rattle.gil_machine.specs.Step as machine
use Rattle.gil_machine.specs.Run.{run}
use Rattle.source_language.specs.Code.{jump}
use Rattle.source_language.specs.Completions.{Situation, Completion, over, end_of, fails, with_value, choose}
use Rattle.source_language.specs.Names.{temporary}
use Rattle.source_language.specs.Procedures.{placed}
use Rattle.source_language.proofs.Following.{state_at, Here, Catcher, leads, Runs, fewer, runs_after, steps, one_step, value_runs, choice_runs}
use Rattle.source_language.proofs.Stores.{other_temporary_value}
use Rattle.source_operators.proofs.Leaving.{Keeps}

-- a temporary from a number on gets a value, and those below it keep theirs
pub keeps_bound : (i j : ℕ) (v : PureValue) (store : Store) → i ≤ j → Keeps i store (bind (temporary j) v store)
keeps_bound i j v store le k lt = other_temporary_value j k v store (let ne : j ≢ k = omega (arith, lt, le) in ne)

-- a value, and then another one that depends on it
pub value_then_value : (o : Outcome) (f : PureValue → Outcome) (here : Place) (s : Situation) (go : PureValue → Completion)
    → with_value (after_value o f) here s go ≡ with_value o here s (λ v. with_value (f v) here s go)
value_then_value (Ok v) f here s go = refl
value_then_value (Err fault) f here s go = refl

module _ (p : PureParts) (m : Actions) (inputs : List PureValue) (f : List ℕ) (q : PureProc) (found : find_proc p.procs f ≡ Some q)
    (callers : List Frame) (catcher : Catcher) (some end : ℕ) where
  abbrev pub RunsAt : ℕ → Store → Situation → Completion → Type 0
  RunsAt pc store s c = Runs (run p m inputs) catcher some f callers end (state_at f pc callers store s) c

  pub at_label : (k n : ℕ) (store : Store) (s : Situation) (c : Completion) → k ≡ n → RunsAt k store s c → RunsAt n store s c
  at_label k n store s c same r = subst (λ x. RunsAt x store s c) same r

  -- a jump at an expression with this value
  jump_step : (pc label at : ℕ) (e : PureExpr) (store : Store) (s : Situation) (b : Bool) → slice_get q.body pc ≡ Some (jump at e label)
      → evaluate e store ≡ Ok (boolean b)
      → machine.step p m inputs (state_at f pc callers store s) ≡ machine.branch (boolean b) (pos label) (Here f at) (state_at f pc callers store s)
  jump_step pc label at e store s b has is =
      steps p m inputs f q found callers catcher pc _ store s has
      ∙ ap (λ r. machine.with_value r (Here f at) (state_at f pc callers store s)
      (λ v. machine.branch v (pos label) (Here f at) (state_at f pc callers store s))) is

  pub jumps_to : (pc label at : ℕ) (e : PureExpr) (store : Store) (s : Situation) (c : Completion) → slice_get q.body pc ≡ Some (jump at e label)
      → evaluate e store ≡ Ok (boolean true) → RunsAt label store s c → RunsAt pc store s c
  jumps_to pc label at e store s c has is r =
      runs_after (run p m inputs) catcher some f callers end _ _ c
      (leads _ _ _ (one_step p m inputs f q found callers catcher _ _ (jump_step pc label at e store s true has is))) r

  pub passes : (pc label at : ℕ) (e : PureExpr) (store : Store) (s : Situation) (c : Completion) → slice_get q.body pc ≡ Some (jump at e label)
      → evaluate e store ≡ Ok (boolean false) → RunsAt (pc + 1) store s c → RunsAt pc store s c
  passes pc label at e store s c has is r =
      runs_after (run p m inputs) catcher some f callers end _ _ c
      (leads _ _ _ (one_step p m inputs f q found callers catcher _ _ (jump_step pc label at e store s false has is))) r

  -- a jump at an expression with this outcome
  pub chooses : (pc label at : ℕ) (e : PureExpr) (store : Store) (s : Situation) (o : Outcome) (on off : Situation → Completion)
      → slice_get q.body pc ≡ Some (jump at e label) → evaluate e store ≡ o → RunsAt label store s (on s) → RunsAt (pc + 1) store s (off s)
      → RunsAt pc store s (with_value o (Here f at) s (λ v. choose v (Here f at) on off s))
  chooses pc label at e store s o on off has is on_runs off_runs =
      fewer (run p m inputs) catcher some (suc some) f callers end _ _ (omega arith)
      (choice_runs p m inputs f q found callers catcher some pc label end store s (Here f at) o on off
      (steps p m inputs f q found callers catcher pc _ store s has
      ∙ ap (λ r. machine.with_value r (Here f at) (state_at f pc callers store s)
      (λ v. machine.branch v (pos label) (Here f at) (state_at f pc callers store s))) is) on_runs off_runs)

  -- a jump at an expression without a value fails
  pub jump_fails : (pc label at : ℕ) (e : PureExpr) (store : Store) (s : Situation) (fault : _) (then : PureValue → Completion)
      → slice_get q.body pc ≡ Some (jump at e label) → evaluate e store ≡ Err fault
      → RunsAt pc store s (with_value (Err fault) (Here f at) s then)
  jump_fails pc label at e store s fault then has is = (
    leads _ _ _ (one_step p m inputs f q found callers catcher _ _ (steps p m inputs f q found callers catcher pc _ store s has
        ∙ ap (λ r. machine.with_value r (Here f at) (state_at f pc callers store s)
        (λ v. machine.branch v (pos label) (Here f at) (state_at f pc callers store s))) is)),
    tt,
  )

  -- a temporary gets the value of an expression with this outcome
  pub assigns : (pc at t : ℕ) (e : PureExpr) (store : Store) (s : Situation) (o : Outcome) (then : PureValue → Completion)
      → slice_get q.body pc ≡ Some (placed at (assign (temporary t) e)) → evaluate e store ≡ o
      → ((v : PureValue) → RunsAt (pc + 1) (bind (temporary t) v store) s (then v))
      → RunsAt pc store s (with_value o (Here f at) s then)
  assigns pc at t e store s o then has is next =
      value_runs p m inputs f q found callers catcher some pc end store s (Here f at) o _ _
      (steps p m inputs f q found callers catcher pc _ store s has
      ∙ ap (λ r. machine.with_value r (Here f at) (state_at f pc callers store s) (λ w. machine.assigned (temporary t) w (state_at f pc callers store s))) is)
      (λ v stepped. runs_after (run p m inputs) catcher some f callers end _ _ _
      (leads _ _ _ (one_step p m inputs f q found callers catcher _ _ stepped)) (next v))

  -- a temporary gets a value that is known
  pub gets : (pc at t : ℕ) (v : PureValue) (store : Store) (s : Situation) (c : Completion)
      → slice_get q.body pc ≡ Some (placed at (assign (temporary t) (literal v)))
      → RunsAt (pc + 1) (bind (temporary t) v store) s c → RunsAt pc store s c
  gets pc at t v store s c has r =
      runs_after (run p m inputs) catcher some f callers end _ _ c
      (leads _ _ _ (one_step p m inputs f q found callers catcher _ _ (steps p m inputs f q found callers catcher pc _ store s has))) r

  -- a failure, and the end of a path
  pub fails_here : (pc at : ℕ) (v : PureValue) (store : Store) (s : Situation) → slice_get q.body pc ≡ Some (placed at (fail (literal v)))
      → RunsAt pc store s (fails v (Here f at) s)
  fails_here pc at v store s has = (leads _ _ _ (one_step p m inputs f q found callers catcher _ _ (steps p m inputs f q found callers catcher pc _ store s has)), tt)

  pub vanishes_here : (pc at : ℕ) (store : Store) (s : Situation) → slice_get q.body pc ≡ Some (placed at vanish)
      → RunsAt pc store s (over (end_of vanished s))
  vanishes_here pc at store s has = (leads _ _ _ (one_step p m inputs f q found callers catcher _ _ (steps p m inputs f q found callers catcher pc _ store s has)), tt)
