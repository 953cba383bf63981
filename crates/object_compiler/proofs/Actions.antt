-- The commands of statements that do actions of the memory follow what the statements do.
use Rattle.std.proofs.Common.{◌≡◌, ℕ, ◌+◌, List, [], ◌∷◌, true, false, Some, length, ap, ◌∙◌}
use Rattle.std.specs.Prelude.{None, codes}
use Rattle.std.specs.List.{list_all}
use Rattle.gil_values.specs.Pure.{PureValue}
use Rattle.gil_syntax.specs.Pure.{act, PureNumberedCommand, PureProc, PureParts}
use Rattle.gil_syntax.specs.Programs.{find_proc}
use Rattle.gil_syntax.specs.Evaluation.{Store, bind}
use Rattle.mem_model.specs.Actions.{Actions}
use Rattle.gil_machine.specs.State.{Frame}
use Rattle.gil_machine.specs.Step as machine
use Rattle.gil_machine.specs.Run.{run}
use Rattle.source_language.specs.Completions.{Situation}
use Rattle.source_language.specs.Names.{IsExtendedBy}
use Rattle.source_language.specs.Procedures.{placed}
use Rattle.source_language.proofs.Following.{state_at, Here, Catcher, Runs, steps, values_run, outcome_runs}
use Rattle.source_language.proofs.Stretches.{HasAt, has_front, has_back}
use Rattle.source_operators.specs.Codes.{all_uses, results}
use Rattle.source_operators.specs.Names.{is_source_expression}
use Rattle.source_operators.specs.Operands.{read_all}
use Rattle.source_operators.proofs.Leaving.{OperatorsRun, all_stand_for, operands_leave}
use Rattle.source_statements.specs.Values.{Continuation}
use Rattle.object_operators.specs.Codes.{codes_of_operators}
use Rattle.object_operators.specs.Meaning.{meanings}
use Rattle.object_operators.specs.Pure.{PureExpression}
use Rattle.object_lang.specs.Meaning.{acts, creates}
use Rattle.object_compiler.specs.Compiled.{first_codes, action_code}

-- which actions take a new symbol
pub record TakesForObjects (m : Actions) : Type 0 where
  pub new : m.takes_symbol (codes "new") ≡ true
  pub get : m.takes_symbol (codes "get") ≡ false
  pub set : m.takes_symbol (codes "set") ≡ false
  pub delete : m.takes_symbol (codes "delete") ≡ false
  pub has : m.takes_symbol (codes "has") ≡ false
  pub getproto : m.takes_symbol (codes "getproto") ≡ false
  pub setproto : m.takes_symbol (codes "setproto") ≡ false

module _ (p : PureParts) (m : Actions) (inputs : List PureValue) (f : List ℕ) (q : PureProc) (found : find_proc p.procs f ≡ Some q)
    (callers : List Frame) (catcher : Catcher) (least end loops : ℕ)
    (operators : OperatorsRun p m inputs f q callers catcher least end (meanings m loops) codes_of_operators) where
  -- an action that takes no symbol, whose value a variable of the machine gets
  pub action_runs : (pc at : ℕ) (x action : List ℕ) (es : List PureExpression) (store : Store) (s : Situation) (go : Continuation)
      → m.takes_symbol action ≡ false → IsExtendedBy s.store store → list_all is_source_expression es ≡ true
      → HasAt q.body pc (action_code pc at x action es)
      → ((v : PureValue) (more : Store) (t : Situation) → IsExtendedBy t.store more
      → Runs (run p m inputs) catcher least f callers end (state_at f (pc + length (first_codes pc at es) + 1) callers (bind x v more) t) (go v t))
      → Runs (run p m inputs) catcher least f callers end (state_at f pc callers store s) (acts m loops action es (Here f at) s go)
  action_runs pc at x action es store s go takes ext names has next =
      operands_leave p m inputs f q callers catcher least end (meanings m loops) codes_of_operators operators es pc at 0 names
      (has_front q.body pc front last has) store s _ ext
      (λ all more t ext' keeps stand.
      values_run p m inputs f q found callers catcher least n end more t (Here f at) (read_all all t.store) _ _
      (steps p m inputs f q found callers catcher n _ more t (has_back q.body pc front last has).0
      ∙ ap (λ o. machine.with_values o (Here f at) (state_at f n callers more t)
      (λ args. machine.do_action (m.takes_symbol action) m x action args (Here f at) (state_at f n callers more t)))
      (all_stand_for all (results codes_of_operators es 0) (0 + all_uses codes_of_operators es) t.store more ext' stand))
      (λ args is. outcome_runs p m inputs f q found callers catcher least n end x more (record t { heap = (m.act action None args t.heap).heap }) (Here f at) _
      (m.act action None args t.heap).outcome go
      (is ∙ ap (λ b. machine.do_action b m x action args (Here f at) (state_at f n callers more t)) takes)
      (λ v. next v more (record t { heap = (m.act action None args t.heap).heap }) ext')))
    where
      front : List PureNumberedCommand
      front = first_codes pc at es

      last : List PureNumberedCommand
      last = placed at (act x action (results codes_of_operators es 0)) ∷ []

      n : ℕ
      n = pc + length front

  -- a new object, which a variable of the machine gets
  pub creation_runs : (pc at : ℕ) (x : List ℕ) (e : PureExpression) (store : Store) (s : Situation) (go : Continuation)
      → m.takes_symbol (codes "new") ≡ true → IsExtendedBy s.store store → list_all is_source_expression (e ∷ []) ≡ true
      → HasAt q.body pc (action_code pc at x (codes "new") (e ∷ []))
      → ((v : PureValue) (more : Store) (t : Situation) → IsExtendedBy t.store more
      → Runs (run p m inputs) catcher least f callers end (state_at f (pc + length (first_codes pc at (e ∷ [])) + 1) callers (bind x v more) t) (go v t))
      → Runs (run p m inputs) catcher least f callers end (state_at f pc callers store s) (creates m loops e (Here f at) s go)
  creation_runs pc at x e store s go takes ext names has next =
      operands_leave p m inputs f q callers catcher least end (meanings m loops) codes_of_operators operators (e ∷ []) pc at 0 names
      (has_front q.body pc front last has) store s _ ext
      (λ all more t ext' keeps stand.
      values_run p m inputs f q found callers catcher least n end more t (Here f at) (read_all all t.store) _ _
      (steps p m inputs f q found callers catcher n _ more t (has_back q.body pc front last has).0
      ∙ ap (λ o. machine.with_values o (Here f at) (state_at f n callers more t)
      (λ args. machine.do_action (m.takes_symbol (codes "new")) m x (codes "new") args (Here f at) (state_at f n callers more t)))
      (all_stand_for all (results codes_of_operators (e ∷ []) 0) (0 + all_uses codes_of_operators (e ∷ [])) t.store more ext' stand))
      (λ args is. outcome_runs p m inputs f q found callers catcher least n end x more
      (record t { heap = (m.act (codes "new") (Some t.counter) args t.heap).heap; counter = t.counter + 1 }) (Here f at) _
      (m.act (codes "new") (Some t.counter) args t.heap).outcome go
      (is ∙ ap (λ b. machine.do_action b m x (codes "new") args (Here f at) (state_at f n callers more t)) takes)
      (λ v. next v more (record t { heap = (m.act (codes "new") (Some t.counter) args t.heap).heap; counter = t.counter + 1 }) ext')))
    where
      front : List PureNumberedCommand
      front = first_codes pc at (e ∷ [])

      last : List PureNumberedCommand
      last = placed at (act x (codes "new") (results codes_of_operators (e ∷ []) 0)) ∷ []

      n : ℕ
      n = pc + length front
