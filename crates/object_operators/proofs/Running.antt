-- The commands of each operator do what it means.
use Rattle.std.proofs.Common.{◌≡◌, ℕ, ◌+◌, ◌-◌, ◌≤◌, List, [], ◌∷◌, ◌++◌, false, Some, Ok, Err, length, refl, sym, ap, subst, ◌∙◌, arith, slice_get, length-append}
use Rattle.std.specs.Prelude.{None, codes}
use Rattle.gil_values.specs.declared.operators.BinOp.{BinOp}
use Rattle.gil_values.specs.declared.operators.BinOp.TheVariants as gil
use Rattle.gil_values.specs.declared.operators.UnOp.TheVariants as unary
use Rattle.gil_values.specs.declared.places.Place.{Place}
use Rattle.gil_values.specs.Operators.{Outcome, unary as apply_unary, binary}
use Rattle.gil_values.specs.Pure.{PureValue, boolean, procedure}
use Rattle.gil_syntax.specs.Pure.{PureExpr, unary_of, binary_of, PureNumberedCommand, PureProc, PureParts}
use Rattle.gil_syntax.specs.Programs.{find_proc}
use Rattle.gil_syntax.specs.Evaluation.{Store, bind, value_of, after_value, both, evaluate}
use Rattle.mem_model.specs.Actions.{Actions}
use Rattle.gil_machine.specs.State.{Frame, State, Step}
use Rattle.gil_machine.specs.Run.{run}
use Rattle.gil_machine.specs.Step as machine
use Rattle.source_language.specs.Code.{truth}
use Rattle.source_language.specs.Completions.{Situation, Completion, with_value, thrown_in}
use Rattle.source_language.specs.Names.{temporary, IsExtendedBy}
use Rattle.source_language.proofs.Following.{state_at, Here, Catcher, leads, runs_after, steps, one_step, value_runs}
use Rattle.source_language.proofs.Stores.{bound_value, extended_more}
use Rattle.source_language.proofs.Stretches.{HasAt, has_front, has_back}
use Rattle.source_operators.specs.declared.trees.Connective.{Connective}
use Rattle.source_operators.specs.declared.trees.Connective.TheVariants.{And, Or}
use Rattle.source_operators.specs.declared.trees.Operator.{Operator}
use Rattle.source_operators.specs.declared.trees.Operator.TheVariants.{Equal, Unequal, Less, LessOrEqual, Greater, GreaterOrEqual, Add, Subtract, Multiply, Divide, Remainder}
use Rattle.source_operators.specs.Codes.{skip_code}
use Rattle.source_operators.specs.Operands.{Operand, operand_expr, read, Then}
use Rattle.source_operators.proofs.Leaving.{Keeps, keeps_then, keeps_fewer, Stands, stands_for, stands_on, Leaves, Gives, OperatorsRun}
use Rattle.source_operators.proofs.Steps as at_commands
use Rattle.source_operators.proofs.Steps.{keeps_bound, at_label, jumps_to, chooses, assigns, gets}
use Rattle.object_operators.specs.declared.trees.Prefix.{Prefix}
use Rattle.object_operators.specs.declared.trees.Prefix.TheVariants.{Minus, Not}
use Rattle.object_operators.specs.declared.trees.Joint.{Joint}
use Rattle.object_operators.specs.declared.trees.Joint.TheVariants.{Operation, Property}
use Rattle.object_operators.specs.Codes.{sets, applied_code, property_call, joined_code, decision_code, decision_size, codes_of_operators}
use Rattle.object_operators.specs.Library.{get_proc}
use Rattle.object_operators.specs.Meaning as meaning
use Rattle.object_operators.specs.Meaning.{applied, property, joined, decision, conclusion, meanings}
use Rattle.object_operators.specs.Operations.{operation}
use Rattle.object_operators.specs.Walk.{get_name, walk}
use Rattle.object_operators.proofs.Calls.{calm_call_runs}
use Rattle.object_operators.proofs.Walk.{TakesForWalks, walk_calm, walk_finishes}

-- what reads of both operands give, an operator gives too
binary_reads : (op : BinOp) (i : ℕ) (a b : Operand) (d e : PureExpr) (s t : Store) → IsExtendedBy s t → Stands a d i t → Stands b e i t
    → evaluate (binary_of op d e) t ≡ evaluate (binary_of op (operand_expr a) (operand_expr b)) s
binary_reads op i a b d e s t ext left right =
    λ k. after_value (stands_for a d i s t ext left k) (λ v. after_value (stands_for b e i s t ext right k) (binary op v))

operation_reads : (op : Operator) (i : ℕ) (a b : Operand) (d e : PureExpr) (s t : Store) → IsExtendedBy s t → Stands a d i t → Stands b e i t
    → evaluate (operation op d e) t ≡ evaluate (operation op (operand_expr a) (operand_expr b)) s
operation_reads Equal i a b d e s t ext left right = binary_reads gil.Equal i a b d e s t ext left right
operation_reads Unequal i a b d e s t ext left right =
    ap (λ r. after_value r (apply_unary unary.Not)) (binary_reads gil.Equal i a b d e s t ext left right)
operation_reads Less i a b d e s t ext left right = binary_reads gil.Less i a b d e s t ext left right
operation_reads LessOrEqual i a b d e s t ext left right = binary_reads gil.LessOrEqual i a b d e s t ext left right
operation_reads Greater i a b d e s t ext left right = binary_reads gil.Less i b a e d s t ext right left
operation_reads GreaterOrEqual i a b d e s t ext left right = binary_reads gil.LessOrEqual i b a e d s t ext right left
operation_reads Add i a b d e s t ext left right = binary_reads gil.Add i a b d e s t ext left right
operation_reads Subtract i a b d e s t ext left right = binary_reads gil.Subtract i a b d e s t ext left right
operation_reads Multiply i a b d e s t ext left right = binary_reads gil.Multiply i a b d e s t ext left right
operation_reads Divide i a b d e s t ext left right = binary_reads gil.Divide i a b d e s t ext left right
operation_reads Remainder i a b d e s t ext left right = binary_reads gil.Remainder i a b d e s t ext left right

pub decided_long : (o : Connective) (pc at t n : ℕ) (e : PureExpr) → length (decision_code o pc at t n e) ≡ decision_size o
decided_long And pc at t n e = refl
decided_long Or pc at t n e = refl

two_values : (o r : Outcome) (here : Place) (st : State) (then : List PureValue → Step)
    → machine.with_values (both o (both r (Ok []))) here st then ≡ machine.with_value o here st (λ v. machine.with_value r here st (λ w. then (v ∷ w ∷ [])))
two_values (Ok v) (Ok w) here st then = refl
two_values (Ok v) (Err fault) here st then = refl
two_values (Err fault) r here st then = refl

module _ (p : PureParts) (m : Actions) (inputs : List PureValue) (f : List ℕ) (q : PureProc) (found : find_proc p.procs f ≡ Some q)
    (callers : List Frame) (catcher : Catcher) (some end : ℕ) where
  abbrev RunsAt : ℕ → Store → Situation → Completion → Type 0
  RunsAt pc store s c = at_commands.RunsAt p m inputs f q found callers catcher some end pc store s c

  abbrev GivesAt : Store → Situation → ℕ → ℕ → ℕ → ℕ → (Then → Completion) → Type 0
  GivesAt store s pc pc' i j does = Gives p m inputs f q callers catcher some end store s pc pc' i j does

  -- what follows with a value that a temporary gets
  follows : (pc i : ℕ) (v : PureValue) (store more : Store) (s t : Situation) (go : Then) → IsExtendedBy t.store more → Keeps i store more
      → ((w : PureValue) (over : Store) (u : Situation) → IsExtendedBy u.store over → Keeps i store over → value_of over (temporary i) ≡ Some w
      → RunsAt pc over u (go w u)) → RunsAt pc (bind (temporary i) v more) t (go v t)
  follows pc i v store more s t go ext keeps next =
      next v (bind (temporary i) v more) t (extended_more i v t.store more ext)
      (keeps_then i store more (bind (temporary i) v more) keeps (keeps_bound i i v more (omega arith))) (bound_value (temporary i) v more)

  -- a temporary gets a value
  value_gives : (pc at i : ℕ) (meant e : PureExpr) (store : Store) (s : Situation) → IsExtendedBy s.store store
      → evaluate e store ≡ evaluate meant s.store → HasAt q.body pc (sets at i e ∷ [])
      → GivesAt store s pc (pc + 1) i (i + 1 - 1) (λ go. meaning.value_of meant (Here f at) s go)
  value_gives pc at i meant e store s ext same has =
      subst (λ n. GivesAt store s pc (pc + 1) i n (λ go. meaning.value_of meant (Here f at) s go)) (omega arith)
      (λ go next. assigns p m inputs f q found callers catcher some end pc at i e store s (evaluate meant s.store) (λ v. go v s) has.0 same
      (λ v. follows (pc + 1) i v store store s s go ext (λ j lt. refl) next))

  -- a temporary gets a value, and the expression is looked at again
  assigns_again : (pc at t : ℕ) (e : PureExpr) (store : Store) (s : Situation) (o : Outcome) (then : PureValue → Completion)
      → slice_get q.body pc ≡ Some (sets at t e) → evaluate e store ≡ o
      → ((v : PureValue) → o ≡ Ok v → RunsAt (pc + 1) (bind (temporary t) v store) s (then v))
      → RunsAt pc store s (with_value o (Here f at) s then)
  assigns_again pc at t e store s o then has is next = by o is next
    where
      step : (o : Outcome) → evaluate e store ≡ o → machine.step p m inputs (state_at f pc callers store s)
          ≡ machine.with_value o (Here f at) (state_at f pc callers store s) (λ w. machine.assigned (temporary t) w (state_at f pc callers store s))
      step o is =
          steps p m inputs f q found callers catcher pc _ store s has
          ∙ ap (λ r. machine.with_value r (Here f at) (state_at f pc callers store s) (λ w. machine.assigned (temporary t) w (state_at f pc callers store s))) is

      by : (o : Outcome) → evaluate e store ≡ o → ((v : PureValue) → o ≡ Ok v → RunsAt (pc + 1) (bind (temporary t) v store) s (then v))
          → RunsAt pc store s (with_value o (Here f at) s then)
      by (Ok v) is next =
          runs_after (run p m inputs) catcher some f callers end _ _ (then v)
          (leads _ _ _ (one_step p m inputs f q found callers catcher _ _ (step (Ok v) is))) (next v refl)
      by (Err fault) is next = (leads _ _ _ (one_step p m inputs f q found callers catcher _ _ (step (Err fault) is)), tt)

  applied_gives : (u : Prefix) (pc at i : ℕ) (a : Operand) (e : PureExpr) (store : Store) (s : Situation) → IsExtendedBy s.store store
      → Stands a e i store → HasAt q.body pc (applied_code u at i e)
      → GivesAt store s pc (pc + length (applied_code u at i e)) i (i + 1 - 1) (λ go. applied u a (Here f at) s go)
  applied_gives Minus pc at i a e store s ext stands has =
      value_gives pc at i (unary_of unary.Neg (operand_expr a)) (unary_of unary.Neg e) store s ext
      (ap (λ r. after_value r (apply_unary unary.Neg)) (stands_for a e i s.store store ext stands)) has
  applied_gives Not pc at i a e store s ext stands has =
      value_gives pc at i (unary_of unary.Not (operand_expr a)) (unary_of unary.Not e) store s ext
      (ap (λ r. after_value r (apply_unary unary.Not)) (stands_for a e i s.store store ext stands)) has

  module _ (takes : TakesForWalks m) (library : find_proc p.procs get_name ≡ Some get_proc) (loops : ℕ) (le : some ≤ loops) where
    property_gives : (pc at i : ℕ) (a b : Operand) (d e : PureExpr) (store : Store) (s : Situation) → IsExtendedBy s.store store
        → Stands a d i store → Stands b e i store → HasAt q.body pc (property_call at i d e ∷ [])
        → GivesAt store s pc (pc + 1) i (i + 1 - 1) (λ go. property m loops a b (Here f at) s go)
    property_gives pc at i a b d e store s ext left right has go next =
        value_runs p m inputs f q found callers catcher some pc end store s (Here f at) (read a s.store) _ _
        (steps p m inputs f q found callers catcher pc _ store s has.0
        ∙ two_values (evaluate d store) (evaluate e store) (Here f at) (state_at f pc callers store s) _
        ∙ ap (λ o. machine.with_value o (Here f at) (state_at f pc callers store s)
        (λ v. machine.with_value (evaluate e store) (Here f at) (state_at f pc callers store s) (λ w. entered (v ∷ w ∷ [])))) (stands_for a d i s.store store ext left))
        (λ v is. value_runs p m inputs f q found callers catcher some pc end store s (Here f at) (read b s.store) _ _
        (is ∙ ap (λ o. machine.with_value o (Here f at) (state_at f pc callers store s) (λ w. entered (v ∷ w ∷ []))) (stands_for b e i s.store store ext right))
        (λ w is'. calm_call_runs (run p m inputs) catcher some f (temporary i) callers (pc + 1) end store (state_at f pc callers store s)
        (state_at get_name 0 (caller ∷ callers) (machine.bind_all (codes "o" ∷ codes "p" ∷ []) (v ∷ w ∷ [])) s) (walk m loops v w s) _ (thrown_in s)
        (walk_calm m loops v w s)
        (one_step p m inputs f q found callers catcher _ _ (is' ∙ ap (λ o. machine.enter_found o (temporary i) None (v ∷ w ∷ []) (Here f at) (state_at f pc callers store s)) library))
        (walk_finishes p m takes inputs library (caller ∷ callers) loops some le v w _ s refl refl)
        (λ r t. next r (bind (temporary i) r store) (record t { store = s.store }) (extended_more i r s.store store ext)
        (keeps_bound i i r store (omega arith))
        (subst (λ k. value_of (bind (temporary i) r store) (temporary k) ≡ Some r) (omega arith) (bound_value (temporary i) r store)))))
      where
        caller : Frame
        caller = record { procedure = f; next = pc + 1; store = store; waits = Some (temporary i); handler = None }

        entered : List PureValue → Step
        entered args = machine.enter_value p (procedure get_name) (temporary i) None args (Here f at) (state_at f pc callers store s)

    joined_gives : (j : Joint) (pc at i : ℕ) (a b : Operand) (d e : PureExpr) (store : Store) (s : Situation) → IsExtendedBy s.store store
        → Stands a d i store → Stands b e i store → HasAt q.body pc (joined_code j at i d e)
        → GivesAt store s pc (pc + length (joined_code j at i d e)) i (i + 1 - 1) (λ go. joined m loops j a b (Here f at) s go)
    joined_gives (Operation op) pc at i a b d e store s ext left right has =
        value_gives pc at i (operation op (operand_expr a) (operand_expr b)) (operation op d e) store s ext
        (operation_reads op i a b d e s.store store ext left right) has
    joined_gives Property pc at i a b d e store s ext left right has = property_gives pc at i a b d e store s ext left right has

  -- behind the left side of a connective: its commands lead to the value that decides, or on to those of the right side
  module _ (o : Connective) (pc at i n : ℕ) (a : Operand) (d e : PureExpr) (right : ℕ → List PureNumberedCommand)
      (does : Situation → (Operand → Situation → Completion) → Completion) (store : Store) (s : Situation) (ext : IsExtendedBy s.store store)
      (stands : Stands a d i store)
      (has : HasAt q.body pc (skip_code codes_of_operators o pc at i d e right))
      (leaves : HasAt q.body (pc + decision_size o) (right (pc + decision_size o))
      → Leaves p m inputs f q callers catcher some end (pc + decision_size o) (pc + decision_size o + length (right (pc + decision_size o))) (i + 1) (i + 1 + n) e does)
      (go : Then)
      (next : (v : PureValue) (more : Store) (t : Situation) → IsExtendedBy t.store more → Keeps i store more → value_of more (temporary i) ≡ Some v
      → RunsAt (pc + length (skip_code codes_of_operators o pc at i d e right)) more t (go v t)) where
    abbrev pub start : ℕ
    start = pc + decision_size o

    abbrev pub middle : ℕ
    middle = start + length (right start)

    abbrev pub first : List PureNumberedCommand
    first = decision_code o pc at i (length (right start)) d

    abbrev pub last : List PureNumberedCommand
    last = sets at i e ∷ []

    pub at_first : HasAt q.body pc first
    at_first = has_front q.body pc first (right start ++ last) has

    at_right : HasAt q.body start (right start ++ last)
    at_right = subst (λ k. HasAt q.body k (right start ++ last)) (ap (λ k. pc + k) (decided_long o pc at i (length (right start)) d))
        (has_back q.body pc first (right start ++ last) has)

    at_last : HasAt q.body middle last
    at_last = has_back q.body start (right start) last at_right

    ends : middle + 1 ≡ pc + length (skip_code codes_of_operators o pc at i d e right)
    ends = omega (arith, length-append first (right start ++ last), length-append (right start) last, decided_long o pc at i (length (right start)) d)

    pub done : (v : PureValue) (more : Store) (t : Situation) → IsExtendedBy t.store more → Keeps i store more
        → RunsAt (middle + 1) (bind (temporary i) v more) t (go v t)
    done v more t ext' keeps =
        at_label p m inputs f q found callers catcher some end (pc + length (skip_code codes_of_operators o pc at i d e right)) (middle + 1)
        (bind (temporary i) v more) t (go v t) (sym ends) (follows _ i v store more s t go ext' keeps next)

    -- the right side, whose left side left its value in the temporary or not
    pub right_decides : (store' : Store) → IsExtendedBy s.store store' → Keeps i store store'
        → RunsAt start store' s (does s (λ b w. conclusion b (Here f at) w go))
    right_decides store' ext' keeps' =
        leaves (has_front q.body start (right start) last at_right) store' s _ ext'
        (λ b more t ext'' keeps'' stands'.
        assigns p m inputs f q found callers catcher some end middle at i e more t (read b t.store) (λ v. go v t) at_last.0
        (stands_for b e (i + 1 + n) t.store more ext'' stands')
        (λ v. done v more t ext'' (keeps_then i store store' more keeps' (keeps_fewer i (i + 1) store' more (omega arith) keeps''))))

  skips_give : (o : Connective) (pc at i n : ℕ) (a : Operand) (d e : PureExpr) (right : ℕ → List PureNumberedCommand)
      (does : Situation → (Operand → Situation → Completion) → Completion) (store : Store) (s : Situation) → IsExtendedBy s.store store
      → Stands a d i store → HasAt q.body pc (skip_code codes_of_operators o pc at i d e right)
      → (HasAt q.body (pc + decision_size o) (right (pc + decision_size o))
      → Leaves p m inputs f q callers catcher some end (pc + decision_size o) (pc + decision_size o + length (right (pc + decision_size o))) (i + 1) (i + 1 + n) e does)
      → GivesAt store s pc (pc + length (skip_code codes_of_operators o pc at i d e right)) i i
      (λ go. decision o a (Here f at) s go (λ r. does r (λ b w. conclusion b (Here f at) w go)))
  skips_give And pc at i n a d e right does store s ext stands has leaves go next =
      chooses p m inputs f q found callers catcher some end pc (pc + 3) at d store s (read a s.store) _ _ here.0
      (stands_for a d i s.store store ext stands)
      (right_decides And pc at i n a d e right does store s ext stands has leaves go next store ext (λ j lt. refl))
      (gets p m inputs f q found callers catcher some end (pc + 1) at i (boolean false) store s (go (boolean false) s) here.1.0
      (jumps_to p m inputs f q found callers catcher some end (pc + 1 + 1) (pc + 3 + length (right (pc + 3)) + 1) at truth
      (bind (temporary i) (boolean false) store) s (go (boolean false) s) here.1.1.0 refl
      (done And pc at i n a d e right does store s ext stands has leaves go next (boolean false) store s ext (λ j lt. refl))))
    where
      here : HasAt q.body pc (decision_code And pc at i (length (right (pc + 3))) d)
      here = at_first And pc at i n a d e right does store s ext stands has leaves go next
  skips_give Or pc at i n a d e right does store s ext stands has leaves go next =
      assigns_again pc at i d store s (read a s.store) _ here.0 (stands_for a d i s.store store ext stands)
      (λ v is. chooses p m inputs f q found callers catcher some end (pc + 1) (pc + 2 + length (right (pc + 2)) + 1) at d
      (bind (temporary i) v store) s (Ok v) _ _ here.1.0
      (stands_for a d i s.store (bind (temporary i) v store) (extended_more i v s.store store ext)
      (stands_on a d i i store (bind (temporary i) v store) (omega arith) (keeps_bound i i v store (omega arith)) stands) ∙ is)
      (done Or pc at i n a d e right does store s ext stands has leaves go next v store s ext (λ j lt. refl))
      (at_label p m inputs f q found callers catcher some end (pc + 2) (pc + 1 + 1) (bind (temporary i) v store) s _ (omega arith)
      (right_decides Or pc at i n a d e right does store s ext stands has leaves go next (bind (temporary i) v store)
      (extended_more i v s.store store ext) (keeps_bound i i v store (omega arith)))))
    where
      here : HasAt q.body pc (decision_code Or pc at i (length (right (pc + 2))) d)
      here = at_first Or pc at i n a d e right does store s ext stands has leaves go next

  -- the operators of the language run as they mean
  pub operators_run : TakesForWalks m → find_proc p.procs get_name ≡ Some get_proc → (loops : ℕ) → some ≤ loops
      → OperatorsRun p m inputs f q callers catcher some end (meanings m loops) codes_of_operators
  operators_run takes library loops le = record {
    variables = λ x names. (refl, names);
    apply_takes = λ u. omega arith;
    join_takes = λ j. omega arith;
    decide_long = decided_long;
    applies = λ u pc at i a e store s ext stands has. applied_gives u pc at i a e store s ext stands has;
    joins = λ j pc at i a b d e store s ext left right has. joined_gives takes library loops le j pc at i a b d e store s ext left right has;
    skips = λ o pc at i n a d e right does store s ext stands has leaves. skips_give o pc at i n a d e right does store s ext stands has leaves;
  }
