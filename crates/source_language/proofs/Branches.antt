-- The machine follows choices, loops, assertions and assumptions of languages whose conditions are booleans, and passes what only proofs
-- look at.
use Rattle.std.proofs.Common.{◌≡◌, ℕ, zero, suc, ◌+◌, ◌-◌, ◌≤◌, List, [], ◌∷◌, ◌++◌, pos, true, Option, Some, None, Ok, Err, length, slice_get, refl, ap, subst, ◌∙◌, arith, length-append}
use Rattle.std.specs.Prelude.{codes}
use Rattle.gil_values.specs.Pure.{PureValue, text}
use Rattle.gil_values.specs.Operators.{Outcome}
use Rattle.gil_syntax.specs.Pure.{PureExpr, PureNumberedCommand, PureProc, PureParts}
use Rattle.gil_syntax.specs.Programs.{find_proc}
use Rattle.gil_syntax.specs.Evaluation.{Store, evaluate}
use Rattle.mem_model.specs.Actions.{Actions}
use Rattle.gil_machine.specs.State.{Frame, State, goes_on, vanished}
use Rattle.gil_machine.specs.Step as machine
use Rattle.gil_machine.specs.Run.{run}
use Rattle.source_language.specs.Code.{truth, jump}
use Rattle.source_language.specs.Compiled.{if_code, while_code, assert_code, assume_code, invariant_code, logic_command}
use Rattle.source_language.specs.Completions.{Situation, Completion, normal, returns, throws, over, unfinished, then_do, end_of, fails, with_value, choose, Test, turns, value_test}
use Rattle.source_language.specs.Names.{is_source_expr, IsExtendedBy}
use Rattle.source_language.specs.Procedures.{placed}
use Rattle.source_language.specs.Pure.{PureLogic, fold_use, unfold_use, assert_that, invariant_by_itself, PureInvariant}
use Rattle.source_language.proofs.Following.{state_at, Here, Catcher, Leads, leads, leads_on, stays, Runs, fewer, runs_after, runs_then, at_place, steps, one_step, matched, choice_runs}
use Rattle.source_language.proofs.Stores.{same_value}
use Rattle.source_language.proofs.Stretches.{HasAt, has_back}

module _ (p : PureParts) (m : Actions) (inputs : List PureValue) (f : List ℕ) (q : PureProc) (found : find_proc p.procs f ≡ Some q)
    (callers : List Frame) (catcher : Catcher) where
  -- an unconditional jump
  pub jumps : (pc label at : ℕ) (store : Store) (s : Situation) → slice_get q.body pc ≡ Some (jump at truth label)
      → Leads (run p m inputs) (state_at f pc callers store s) (goes_on (state_at f label callers store s))
  jumps pc label at store s has = leads _ _ _ (one_step p m inputs f q found callers catcher _ _
      (steps p m inputs f q found callers catcher pc _ store s has))

  -- commands, and a jump after them
  pub then_jumps : (some pc pc' at : ℕ) (st : State) (c : Completion) → slice_get q.body pc ≡ Some (jump at truth pc')
      → Runs (run p m inputs) catcher some f callers pc st c → Runs (run p m inputs) catcher some f callers pc' st c
  then_jumps some pc pc' at st (normal s) has r = (r.0, r.1, leads_on _ _ _ _ r.2 (jumps pc pc' at r.0 s has))
  then_jumps some pc pc' at st (returns v s) has r = r
  then_jumps some pc pc' at st (throws v here s) has r = r
  then_jumps some pc pc' at st (over e) has r = r
  then_jumps some pc pc' at st unfinished has r = r

  -- where commands have come to their end
  pub is_there : (some pc : ℕ) (store : Store) (s : Situation) → IsExtendedBy s.store store → Runs (run p m inputs) catcher some f callers pc (state_at f pc callers store s) (normal s)
  is_there some pc store s ext = (store, ext, stays (run p m inputs) _)

  module _ (least : ℕ) where
    -- a condition with this outcome, after which the machine goes on at a label or at the next command
    tested : (pc label pc' at : ℕ) (e : PureExpr) (store : Store) (s : Situation) (o : Outcome) (on off : Situation → Completion)
        → evaluate e store ≡ o → slice_get q.body pc ≡ Some (jump at e label) → Runs (run p m inputs) catcher least f callers pc' (state_at f label callers store s) (on s)
        → Runs (run p m inputs) catcher least f callers pc' (state_at f (pc + 1) callers store s) (off s)
        → Runs (run p m inputs) catcher least f callers pc' (state_at f pc callers store s) (with_value o (Here f at) s (λ v. choose v (Here f at) on off s))
    tested pc label pc' at e store s o on off is has on_runs off_runs =
        fewer (run p m inputs) catcher least (suc least) f callers pc' _ _ (omega arith)
        (choice_runs p m inputs f q found callers catcher least pc label pc' store s (Here f at) o on off
        (steps p m inputs f q found callers catcher pc _ store s has
        ∙ ap (λ r. machine.with_value r (Here f at) (state_at f pc callers store s)
        (λ v. machine.branch v (pos label) (Here f at) (state_at f pc callers store s))) is) on_runs off_runs)

    pub assert_runs : (pc at : ℕ) (e : PureExpr) (store : Store) (s : Situation) (o : Outcome) → evaluate e store ≡ o
        → IsExtendedBy s.store store → HasAt q.body pc (assert_code pc at e)
        → Runs (run p m inputs) catcher least f callers (pc + 2) (state_at f pc callers store s)
        (with_value o (Here f at) s (λ v. choose v (Here f at) (λ t. normal t) (λ t. fails (text (codes "assert")) (Here f at) t) s))
    assert_runs pc at e store s o is ext has =
        tested pc (pc + 2) (pc + 2) at e store s o (λ t. normal t) (λ t. fails (text (codes "assert")) (Here f at) t) is has.0
        (is_there least (pc + 2) store s ext)
        (matched p m inputs f q found callers catcher least (pc + 2) _ _ (fails (text (codes "assert")) (Here f at) s)
        (steps p m inputs f q found callers catcher (pc + 1) _ store s has.1.0) (refl, tt))

    pub assume_runs : (pc at : ℕ) (e : PureExpr) (store : Store) (s : Situation) (o : Outcome) → evaluate e store ≡ o
        → IsExtendedBy s.store store → HasAt q.body pc (assume_code pc at e)
        → Runs (run p m inputs) catcher least f callers (pc + 2) (state_at f pc callers store s)
        (with_value o (Here f at) s (λ v. choose v (Here f at) (λ t. normal t) (λ t. over (end_of vanished t)) s))
    assume_runs pc at e store s o is ext has =
        tested pc (pc + 2) (pc + 2) at e store s o (λ t. normal t) (λ t. over (end_of vanished t)) is has.0
        (is_there least (pc + 2) store s ext)
        (matched p m inputs f q found callers catcher least (pc + 2) _ _ (over (end_of vanished s))
        (steps p m inputs f q found callers catcher (pc + 1) _ store s has.1.0) (refl, tt))

    -- a choice, from where its two blocks lead
    pub if_runs : (pc at : ℕ) (e : PureExpr) (off on : List PureNumberedCommand) (store : Store) (s : Situation) (o : Outcome)
        (then other : Situation → Completion) → evaluate e store ≡ o → HasAt q.body pc (if_code pc at e off on)
        → (HasAt q.body (pc + 1 + length off + 1) on
        → Runs (run p m inputs) catcher least f callers (pc + 1 + length off + 1 + length on) (state_at f (pc + 1 + length off + 1) callers store s) (then s))
        → Runs (run p m inputs) catcher least f callers (pc + 1 + length off) (state_at f (pc + 1) callers store s) (other s)
        → Runs (run p m inputs) catcher least f callers (pc + length (if_code pc at e off on)) (state_at f pc callers store s)
        (with_value o (Here f at) s (λ v. choose v (Here f at) then other s))
    if_runs pc at e off on store s o then other is has on_runs off_runs =
        tested pc (pc + 1 + length off + 1) end at e store s o then other is has.0
        (at_place (run p m inputs) catcher least f callers _ end _ _ ends (on_runs at_on.1))
        (then_jumps least (pc + 1 + length off) end at _ _ (at_on.0 ∙ ap (λ k. Some (jump at truth k)) ends) off_runs)
      where
        end : ℕ
        end = pc + length (if_code pc at e off on)

        at_on : HasAt q.body (pc + 1 + length off) (jump at truth (pc + 1 + length off + 1 + length on) ∷ on)
        at_on = has_back q.body (pc + 1) off _ has.1

        ends : pc + 1 + length off + 1 + length on ≡ end
        ends = omega (arith, length-append off (jump at truth (pc + 1 + length off + 1 + length on) ∷ on))

    -- what only proofs look at in front of a test is passed
    pub invariant_leads : (pc at : ℕ) (added : List (List ℕ)) (invariant : Option PureInvariant) (store : Store) (s : Situation)
        → HasAt q.body pc (invariant_code at added invariant)
        → Leads (run p m inputs) (state_at f pc callers store s) (goes_on (state_at f (pc + length (invariant_code at added invariant)) callers store s))
    invariant_leads pc at added None store s has = let e : pc ≡ pc + 0 = omega arith in subst
        (λ k. Leads (run p m inputs) (state_at f pc callers store s) (goes_on (state_at f k callers store s))) e (stays (run p m inputs) _)
    invariant_leads pc at added (Some i) store s has = leads _ _ _ (one_step p m inputs f q found callers catcher _ _
        (steps p m inputs f q found callers catcher pc _ store s has.0))

    -- The commands from a place on, and a jump at the expression behind them, do what a test does: where the test goes on with a
    -- value, the machine is at the jump, and the expression has the value there.
    abbrev pub Tests : ℕ → ℕ → ℕ → PureExpr → Test → Type 0
    Tests pc pc' end e test = (some : ℕ) → some ≤ least → (go_on : PureValue → Situation → Completion) (store : Store) (s : Situation)
        → IsExtendedBy s.store store
        → ((v : PureValue) (more : Store) (t : Situation) → IsExtendedBy t.store more → evaluate e more ≡ Ok v
        → Runs (run p m inputs) catcher some f callers end (state_at f pc' callers more t) (go_on v t))
        → Runs (run p m inputs) catcher some f callers end (state_at f pc callers store s) (test s go_on)

    -- a test that is the value of the expression itself, behind commands that change nothing
    pub value_tests : (pc pc' label end at : ℕ) (e : PureExpr) → is_source_expr e ≡ true
        → slice_get q.body pc' ≡ Some (jump at e label)
        → ((store : Store) (s : Situation) → Leads (run p m inputs) (state_at f pc callers store s) (goes_on (state_at f pc' callers store s)))
        → Tests pc pc' end e (value_test (λ t. evaluate e t.store) (Here f at))
    value_tests pc pc' label end at e names has front some le go_on store s ext next =
        runs_after (run p m inputs) catcher some f callers end _ _ _ (front store s)
        (with_outcome (evaluate e s.store) (same_value e s.store store ext names))
      where
        with_outcome : (o : Outcome) → evaluate e store ≡ o
            → Runs (run p m inputs) catcher some f callers end (state_at f pc' callers store s) (with_value o (Here f at) s (λ v. go_on v s))
        with_outcome (Ok v) is = next v store s ext is
        with_outcome (Err fault) is = (
          leads _ _ _ (one_step p m inputs f q found callers catcher _ _
              (steps p m inputs f q found callers catcher pc' _ store s has
              ∙ ap (λ o. machine.with_value o (Here f at) (state_at f pc' callers store s)
              (λ v. machine.branch v (pos label) (Here f at) (state_at f pc' callers store s))) is)),
          tt,
        )

    -- a loop of at most n turns
    pub loop_runs : (pc at : ℕ) (e : PureExpr) (front code : List PureNumberedCommand) (test : Test) (body : Situation → Completion)
        → HasAt q.body pc (while_code pc at e front code)
        → Tests pc (pc + length front) (pc + length (while_code pc at e front code)) e test
        → ((store : Store) (s : Situation) → IsExtendedBy s.store store
        → Runs (run p m inputs) catcher least f callers (pc + length front + 1 + 1 + length code) (state_at f (pc + length front + 1 + 1) callers store s) (body s))
        → (n some : ℕ) → some ≤ n → some ≤ least → (store : Store) (s : Situation) → IsExtendedBy s.store store
        → Runs (run p m inputs) catcher some f callers (pc + length (while_code pc at e front code)) (state_at f pc callers store s) (turns n test (Here f at) body s)
    loop_runs pc at e front code test body has tests follows zero some le le' store s ext = (0, omega arith, refl)
    loop_runs pc at e front code test body has tests follows (suc n) some le le' store s ext =
        tests some le' (λ v t. choose v (Here f at) (λ u. then_do (body u) (turns n test (Here f at) body)) (λ u. normal u) t) store s ext
        (λ v more t ext' is.
        fewer (run p m inputs) catcher some (suc (some - 1)) f callers end _ _ (omega arith)
        (choice_runs p m inputs f q found callers catcher (some - 1) pc1 (pc1 + 1 + 1) end more t (Here f at) (Ok v) _ _
        (steps p m inputs f q found callers catcher pc1 _ more t at_test.0
        ∙ ap (λ o. machine.with_value o (Here f at) (state_at f pc1 callers more t)
        (λ w. machine.branch w (pos (pc1 + 1 + 1)) (Here f at) (state_at f pc1 callers more t))) is)
        (turned more t ext' (loop_runs pc at e front code test body has tests follows n (some - 1) (omega arith) (omega arith)))
        (more, ext', jumps (pc1 + 1) end at more t (at_test.1.0 ∙ ap (λ k. Some (jump at truth k)) ends))))
      where
        back : List PureNumberedCommand
        back = code ++ jump at truth pc ∷ []

        pc1 : ℕ
        pc1 = pc + length front

        end : ℕ
        end = pc + length (while_code pc at e front code)

        at_test : HasAt q.body pc1 (jump at e (pc1 + 1 + 1) ∷ jump at truth (pc1 + 1 + 1 + length code + 1) ∷ back)
        at_test = has_back q.body pc front _ has

        ends : pc1 + 1 + 1 + length code + 1 ≡ end
        ends = omega (
          arith,
          length-append front (jump at e (pc1 + 1 + 1) ∷ jump at truth
              (pc1 + 1 + 1 + length code + 1) ∷ back),
          length-append code (jump at truth pc ∷ []),
        )

        -- the body, the jump back, and the other turns
        turned : (store : Store) (s : Situation) → IsExtendedBy s.store store
            → ((more : Store) (t : Situation) → IsExtendedBy t.store more
            → Runs (run p m inputs) catcher (some - 1) f callers end (state_at f pc callers more t) (turns n test (Here f at) body t))
            → Runs (run p m inputs) catcher (some - 1) f callers end (state_at f (pc1 + 1 + 1) callers store s) (then_do (body s) (turns n test (Here f at) body))
        turned store s ext again = runs_then (run p m inputs) catcher (some - 1) f callers (pc1 + 1 + 1 + length code) end _ (body s) _
            (fewer (run p m inputs) catcher (some - 1) least f callers _ _ _ (omega arith) (follows store s ext))
            (λ more t ext'. runs_after (run p m inputs) catcher (some - 1) f callers end _ _ _
            (jumps (pc1 + 1 + 1 + length code) pc at more t (has_back q.body (pc1 + 1 + 1) code _ at_test.1.1).0)
            (again more t ext'))

    pub logic_runs : (pc at : ℕ) (c : PureLogic) (store : Store) (s : Situation) → IsExtendedBy s.store store
        → HasAt q.body pc (placed at (logic_command c) ∷ []) → Runs (run p m inputs) catcher least f callers (pc + 1) (state_at f pc callers store s) (normal s)
    logic_runs pc at (fold_use u) store s ext has = matched p m inputs f q found callers catcher least (pc + 1) _ _ (normal s)
        (steps p m inputs f q found callers catcher pc _ store s has.0) (store, ext, refl)
    logic_runs pc at (unfold_use u) store s ext has = matched p m inputs f q found callers catcher least (pc + 1) _ _ (normal s)
        (steps p m inputs f q found callers catcher pc _ store s has.0) (store, ext, refl)
    logic_runs pc at (assert_that items) store s ext has = matched p m inputs f q found callers catcher least (pc + 1) _ _ (normal s)
        (steps p m inputs f q found callers catcher pc _ store s has.0) (store, ext, refl)
    logic_runs pc at (invariant_by_itself i) store s ext has = matched p m inputs f q found callers catcher least (pc + 1) _ _ (normal s)
        (steps p m inputs f q found callers catcher pc _ store s has.0) (store, ext, refl)
