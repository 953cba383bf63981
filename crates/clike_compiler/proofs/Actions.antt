-- The commands of C-like statements that do actions of the memory follow what the statements do.
use Rattle.std.proofs.Common.{◌≡◌, ℕ, ◌+◌, List, [], ◌∷◌, Bool, true, false, cond, Some, None, Ok, Err, length, slice_get, refl, ap, subst, ◌∙◌, arith}
use Rattle.std.specs.Prelude.{codes}
use Rattle.gil_values.specs.declared.kinds.Kind.TheVariants.{Null}
use Rattle.gil_values.specs.declared.operators.BinOp.TheVariants.{Equal}
use Rattle.gil_values.specs.declared.places.Place.{Place}
use Rattle.gil_values.specs.Equality.{same_value}
use Rattle.gil_values.specs.Operators.{Outcome, binary}
use Rattle.gil_values.specs.Pure.{PureValue, boolean, kind}
use Rattle.gil_syntax.specs.Pure.{PureExpr, binary_of, act, PureProc, PureParts}
use Rattle.gil_syntax.specs.Programs.{find_proc}
use Rattle.gil_syntax.specs.Evaluation.{Store, bind, both, after_value, evaluate}
use Rattle.mem_model.specs.Actions.{Actions, ActionResult}
use Rattle.gil_machine.specs.State.{Frame, State, Step, goes_on}
use Rattle.gil_machine.specs.Step as machine
use Rattle.gil_machine.specs.Run.{run}
use Rattle.source_language.specs.Completions.{Situation, Completion, normal, with_value, after_action}
use Rattle.source_language.specs.Names.{temporary, IsExtendedBy}
use Rattle.source_language.specs.Procedures.{null, placed}
use Rattle.source_language.proofs.Following.{state_at, Here, Leads, steps, value_runs, outcome_runs, stays}
use Rattle.source_language.proofs.Stores.{extended_more}
use Rattle.source_language.proofs.Stretches.{HasAt, has_front, has_back}
use Rattle.source_operators.specs.Operands.{Operand, read}
use Rattle.source_operators.proofs.Leaving.{Stands, stands_for, stands_on}
use Rattle.source_operators.proofs.Steps as at_commands
use Rattle.source_operators.proofs.Steps.{jumps_to, passes, at_label}
use Rattle.source_statements.specs.Values.{Continuation}
use Rattle.clike_operators.specs.Codes.{cell_code, address_expr}
use Rattle.clike_operators.specs.Meaning.{address}
use Rattle.clike_operators.proofs.Cells.{address_value, cell_runs}
use Rattle.clike_lang.specs.Meaning.{allocates, frees, stores}
use Rattle.clike_compiler.specs.Compiled.{free_code, store_code}

-- which actions take a new symbol
pub record TakesForBlocks (m : Actions) : Type 0 where
  pub alloc : m.takes_symbol (codes "alloc") ≡ true
  pub load : m.takes_symbol (codes "load") ≡ false
  pub store : m.takes_symbol (codes "store") ≡ false
  pub free : m.takes_symbol (codes "free") ≡ false

-- one value, and a known one before another
one_value : (o : Outcome) (here : Place) (st : State) (then : List PureValue → Step)
    → machine.with_values (both o (Ok [])) here st then ≡ machine.with_value o here st (λ v. then (v ∷ []))
one_value (Ok v) here st then = refl
one_value (Err fault) here st then = refl

value_after : (u : PureValue) (o : Outcome) (here : Place) (st : State) (then : List PureValue → Step)
    → machine.with_values (both (Ok u) (both o (Ok []))) here st then ≡ machine.with_value o here st (λ v. then (u ∷ v ∷ []))
value_after u (Ok v) here st then = refl
value_after u (Err fault) here st then = refl

module _ (p : PureParts) (m : Actions) (takes : TakesForBlocks m) (inputs : List PureValue) (f : List ℕ) (q : PureProc)
    (found : find_proc p.procs f ≡ Some q) (callers : List Frame) (some end : ℕ) where
  abbrev RunsAt : ℕ → Store → Situation → Completion → Type 0
  RunsAt pc store s c = at_commands.RunsAt p m inputs f q found callers None some end pc store s c

  -- a new block, which a variable of the machine gets
  pub alloc_runs : (pc at i : ℕ) (x : List ℕ) (a : Operand) (e : PureExpr) (store : Store) (s : Situation) (go : Continuation)
      → IsExtendedBy s.store store → Stands a e i store → slice_get q.body pc ≡ Some (placed at (act x (codes "alloc") (e ∷ [])))
      → ((l : PureValue) (t : Situation) → t.store ≡ s.store → RunsAt (pc + 1) (bind x l store) t (go l t))
      → RunsAt pc store s (with_value (read a s.store) (Here f at) s (λ size. allocates m size (Here f at) s go))
  alloc_runs pc at i x a e store s go ext stands has next =
      value_runs p m inputs f q found callers None some pc end store s (Here f at) (read a s.store) _ _
      (steps p m inputs f q found callers None pc _ store s has
      ∙ one_value (evaluate e store) (Here f at) st _
      ∙ ap (λ o. machine.with_value o (Here f at) st (λ v. machine.do_action (m.takes_symbol (codes "alloc")) m x (codes "alloc") (v ∷ []) (Here f at) st))
      (stands_for a e i s.store store ext stands))
      (λ size is.
      outcome_runs p m inputs f q found callers None some pc end x store (then size) (Here f at) st (result size).outcome go
      (is ∙ ap (λ b. machine.do_action b m x (codes "alloc") (size ∷ []) (Here f at) st) takes.alloc)
      (λ l. next l (then size) refl))
    where
      st : State
      st = state_at f pc callers store s

      result : PureValue → ActionResult
      result size = m.act (codes "alloc") (Some s.counter) (size ∷ []) s.heap

      then : PureValue → Situation
      then size = record s { counter = s.counter + 1; heap = (result size).heap }

  -- a block is freed, or NULL is passed
  pub free_runs : (pc at i : ℕ) (a : Operand) (e : PureExpr) (store : Store) (s : Situation) → pc + 1 + 1 ≡ end
      → IsExtendedBy s.store store → Stands a e i store → HasAt q.body pc (free_code pc at i e)
      → RunsAt pc store s (with_value (read a s.store) (Here f at) s (λ pointer. frees m pointer (Here f at) s))
  free_runs pc at i a e store s ends ext stands has =
      subst (λ o. RunsAt pc store s (with_value o (Here f at) s (λ pointer. frees m pointer (Here f at) s))) (stands_for a e i s.store store ext stands)
      (by_outcome (evaluate e store) refl)
    where
      arrived : (more : Store) (t : Situation) → IsExtendedBy t.store more → RunsAt (pc + 1 + 1) more t (normal t)
      arrived more t ext' = (more, ext', subst (λ n. at_end n more t) ends (stays (run p m inputs) _))
        where
          at_end : ℕ → Store → Situation → Type 0
          at_end n more t = Leads (run p m inputs) (state_at f (pc + 1 + 1) callers more t) (goes_on (state_at f n callers more t))

      result : PureValue → ActionResult
      result v = m.act (codes "free") None (v ∷ []) s.heap

      freed : (v : PureValue) → evaluate e store ≡ Ok v
          → RunsAt (pc + 1) store s (after_action (result v) (Here f at) s (λ w t. normal t))
      freed v is =
          outcome_runs p m inputs f q found callers None some (pc + 1) end (temporary i) store (record s { heap = (result v).heap }) (Here f at)
          (state_at f (pc + 1) callers store s) (result v).outcome (λ w t. normal t)
          (steps p m inputs f q found callers None (pc + 1) _ store s has.1.0
          ∙ ap (λ o. machine.with_values (both o (Ok [])) (Here f at) (state_at f (pc + 1) callers store s)
          (λ vs. machine.do_action (m.takes_symbol (codes "free")) m (temporary i) (codes "free") vs (Here f at) (state_at f (pc + 1) callers store s))) is
          ∙ ap (λ b. machine.do_action b m (temporary i) (codes "free") (v ∷ []) (Here f at) (state_at f (pc + 1) callers store s)) takes.free)
          (λ w. arrived (bind (temporary i) w store) (record s { heap = (result v).heap }) (extended_more i w s.store store ext))

      by_null : (v : PureValue) (b : Bool) → evaluate e store ≡ Ok v → same_value v (kind Null) ≡ b
          → RunsAt pc store s (cond b (normal s) (after_action (result v) (Here f at) s (λ w t. normal t)))
      by_null v true is same =
          jumps_to p m inputs f q found callers None some end pc (pc + 1 + 1) at (binary_of Equal e null) store s (normal s) has.0
          (ap (λ r. after_value r (λ x. binary Equal x (kind Null))) is ∙ ap (λ b. Ok (boolean b)) same)
          (arrived store s ext)
      by_null v false is same =
          passes p m inputs f q found callers None some end pc (pc + 1 + 1) at (binary_of Equal e null) store s _ has.0
          (ap (λ r. after_value r (λ x. binary Equal x (kind Null))) is ∙ ap (λ b. Ok (boolean b)) same)
          (freed v is)

      by_outcome : (o : Outcome) → evaluate e store ≡ o → RunsAt pc store s (with_value o (Here f at) s (λ pointer. frees m pointer (Here f at) s))
      by_outcome (Ok v) is = by_null v (same_value v (kind Null)) is refl
      by_outcome (Err fault) is =
          at_commands.jump_fails p m inputs f q found callers None some end pc (pc + 1 + 1) at (binary_of Equal e null) store s fault
          (λ pointer. frees m pointer (Here f at) s) has.0
          (ap (λ r. after_value r (λ x. binary Equal x (kind Null))) is)

  -- a cell gets a value
  pub store_runs : (pc at i : ℕ) (a b c : Operand) (d e v : PureExpr) (store : Store) (s : Situation)
      → pc + length (store_code pc at i d e v) ≡ end → IsExtendedBy s.store store
      → Stands a d i store → Stands b e i store → Stands c v i store → HasAt q.body pc (store_code pc at i d e v)
      → RunsAt pc store s (stores m a b c (Here f at) s)
  store_runs pc at i a b c d e v store s ends ext stands stands' stands'' has =
      cell_runs p m inputs f q found callers None some end pc at i a b d e store s ext stands stands'
      (has_front q.body pc (cell_code pc at i d e) (placed at (act (temporary (i + 2)) (codes "store") (address_expr i ∷ v ∷ [])) ∷ []) has) _
      (λ block cell more ext' keeps first second.
      value_runs p m inputs f q found callers None some (pc + 5) end more s (Here f at) (read c s.store) _ _
      (steps p m inputs f q found callers None (pc + 5) _ more s at_last.0
      ∙ ap (λ o. machine.with_values (both o (both (evaluate v more) (Ok []))) (Here f at) (state_at f (pc + 5) callers more s) (does more))
      (address_value i block cell more first second)
      ∙ value_after (address block cell) (evaluate v more) (Here f at) (state_at f (pc + 5) callers more s) (does more)
      ∙ ap (λ o. machine.with_value o (Here f at) (state_at f (pc + 5) callers more s) (λ w. does more (address block cell ∷ w ∷ [])))
      (stands_for c v i s.store more ext' (stands_on c v i i store more (omega arith) keeps stands'')))
      (λ w is.
      outcome_runs p m inputs f q found callers None some (pc + 5) end (temporary (i + 2)) more (record s { heap = (result block cell w).heap }) (Here f at)
      (state_at f (pc + 5) callers more s) (result block cell w).outcome (λ x t. normal t)
      (is ∙ ap (λ b. machine.do_action b m (temporary (i + 2)) (codes "store") (address block cell ∷ w ∷ []) (Here f at) (state_at f (pc + 5) callers more s)) takes.store)
      (λ x. (
        bind (temporary (i + 2)) x more,
        extended_more (i + 2) x s.store more ext',
        subst (λ n. Leads (run p m inputs) (state_at f (pc + 5 + 1) callers (bind (temporary (i + 2)) x more) (record s { heap = (result block cell w).heap }))
            (goes_on (state_at f n callers (bind (temporary (i + 2)) x more) (record s { heap = (result block cell w).heap })))) arrived (stays (run p m inputs) _),
      ))))
    where
      does : Store → List PureValue → Step
      does more vs = machine.do_action (m.takes_symbol (codes "store")) m (temporary (i + 2)) (codes "store") vs (Here f at) (state_at f (pc + 5) callers more s)

      result : PureValue → PureValue → PureValue → ActionResult
      result block cell w = m.act (codes "store") None (address block cell ∷ w ∷ []) s.heap

      at_last : HasAt q.body (pc + 5) (placed at (act (temporary (i + 2)) (codes "store") (address_expr i ∷ v ∷ [])) ∷ [])
      at_last = has_back q.body pc (cell_code pc at i d e) (placed at (act (temporary (i + 2)) (codes "store") (address_expr i ∷ v ∷ [])) ∷ []) has

      arrived : pc + 5 + 1 ≡ end
      arrived = omega (arith, ends)
