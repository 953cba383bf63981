-- The commands of each operator do what it means.
use Rattle.std.proofs.Common.{◌≡◌, inl, ℕ, ◌+◌, ◌-◌, ◌<◌, ◌≤◌, List, [], ◌∷◌, ◌++◌, false, Some, Ok, length, refl, sym, ap, subst, ◌∙◌, arith, length-append}
use Rattle.std.specs.Prelude.{None, codes}
use Rattle.gil_values.specs.declared.operators.BinOp.{BinOp}
use Rattle.gil_values.specs.declared.operators.BinOp.TheVariants as gil
use Rattle.gil_values.specs.declared.operators.UnOp.TheVariants as unary
use Rattle.gil_values.specs.Operators.{unary as apply_unary, binary}
use Rattle.gil_values.specs.Pure.{PureValue}
use Rattle.gil_syntax.specs.Pure.{PureExpr, name, unary_of, binary_of, act, PureNumberedCommand, PureProc, PureParts}
use Rattle.gil_syntax.specs.Programs.{find_proc}
use Rattle.gil_syntax.specs.Evaluation.{Store, bind, value_of, set_or_fault, after_value, both, evaluate}
use Rattle.mem_model.specs.Actions.{Actions, ActionResult}
use Rattle.gil_machine.specs.State.{Frame}
use Rattle.gil_machine.specs.Step as machine
use Rattle.source_language.specs.Code.{jump, truth}
use Rattle.source_language.specs.Completions.{Situation, Completion}
use Rattle.source_language.specs.Names.{temporary, IsExtendedBy}
use Rattle.source_language.specs.Procedures.{placed}
use Rattle.source_language.proofs.Following.{state_at, Here, Catcher, steps, outcome_runs}
use Rattle.source_language.proofs.Stores.{bound_value, extended_more}
use Rattle.source_language.proofs.Stretches.{HasAt, has_front, has_back}
use Rattle.source_operators.specs.declared.trees.Connective.{Connective}
use Rattle.source_operators.specs.declared.trees.Connective.TheVariants.{And, Or}
use Rattle.source_operators.specs.declared.trees.Operator.{Operator}
use Rattle.source_operators.specs.declared.trees.Operator.TheVariants.{Equal, Unequal, Less, LessOrEqual, Greater, GreaterOrEqual, Add, Subtract, Multiply, Divide, Remainder}
use Rattle.source_operators.specs.Codes.{skip_code}
use Rattle.source_operators.specs.Operands.{Operand, known, operand_expr, Then}
use Rattle.source_operators.proofs.Leaving.{Keeps, keeps_then, Stands, stands_for, stands_on, Leaves, Gives, OperatorsRun}
use Rattle.source_operators.proofs.Steps as at_commands
use Rattle.source_operators.proofs.Steps.{keeps_bound, at_label, jumps_to, chooses, assigns}
use Rattle.clike_operators.specs.declared.pieces.Beyond.TheVariants.{Overflows}
use Rattle.clike_operators.specs.declared.trees.Prefix.{Prefix}
use Rattle.clike_operators.specs.declared.trees.Prefix.TheVariants.{Minus, Not, Pointee}
use Rattle.clike_operators.specs.declared.trees.Joint.{Joint}
use Rattle.clike_operators.specs.declared.trees.Joint.TheVariants.{Operation, Cell, Address}
use Rattle.clike_operators.specs.Codes.{number_literal, sets, false_code, arithmetic_code, remainder_code, choice_code, comparison_code, operation_code, operation_uses, cell_code, address_expr, address_code, content_code, applied_code, applied_uses, joined_code, joined_uses, decision_code, decision_size, conclusion_code, codes_of_operators}
use Rattle.clike_operators.specs.Meaning.{arithmetic, remainder, comparison, operation, tested, address, address_of, content, applied, joined, decision, conclusion, meanings}
use Rattle.clike_operators.specs.Ranges.{number}
use Rattle.clike_operators.proofs.Cells.{address_value, cell_runs}
use Rattle.clike_operators.proofs.Ranges.{range_runs, tested_runs, first_chosen, second_chosen}

-- what reads of both operands give, an operator gives too
binary_reads : (op : BinOp) (i : ℕ) (a b : Operand) (d e : PureExpr) (s t : Store) → IsExtendedBy s t → Stands a d i t → Stands b e i t
    → evaluate (binary_of op d e) t ≡ evaluate (binary_of op (operand_expr a) (operand_expr b)) s
binary_reads op i a b d e s t ext left right =
    λ k. after_value (stands_for a d i s t ext left k) (λ v. after_value (stands_for b e i s t ext right k) (binary op v))

pub applied_takes : (u : Prefix) → 0 < applied_uses u
applied_takes Minus = omega arith
applied_takes Not = omega arith
applied_takes Pointee = omega arith

operation_takes : (op : Operator) → 0 < operation_uses op
operation_takes Equal = omega arith
operation_takes Unequal = omega arith
operation_takes Less = omega arith
operation_takes LessOrEqual = omega arith
operation_takes Greater = omega arith
operation_takes GreaterOrEqual = omega arith
operation_takes Add = omega arith
operation_takes Subtract = omega arith
operation_takes Multiply = omega arith
operation_takes Divide = omega arith
operation_takes Remainder = omega arith

pub joined_takes : (j : Joint) → 0 < joined_uses j
joined_takes (Operation op) = operation_takes op
joined_takes Cell = omega arith
joined_takes Address = omega arith

pub decided_long : (o : Connective) (pc at t n : ℕ) (e : PureExpr) → length (decision_code o pc at t n e) ≡ decision_size o
decided_long And pc at t n e = refl
decided_long Or pc at t n e = refl

module _ (p : PureParts) (m : Actions) (inputs : List PureValue) (f : List ℕ) (q : PureProc) (found : find_proc p.procs f ≡ Some q)
    (callers : List Frame) (catcher : Catcher) (some end : ℕ) where
  abbrev RunsAt : ℕ → Store → Situation → Completion → Type 0
  RunsAt pc store s c = at_commands.RunsAt p m inputs f q found callers catcher some end pc store s c

  abbrev GivesAt : Store → Situation → ℕ → ℕ → ℕ → ℕ → (Then → Completion) → Type 0
  GivesAt store s pc pc' i j does = Gives p m inputs f q callers catcher some end store s pc pc' i j does

  -- the number of the temporary, counted otherwise
  counted : (store : Store) (s : Situation) (pc pc' i j k : ℕ) (does : Then → Completion) → j ≡ k → GivesAt store s pc pc' i j does
      → GivesAt store s pc pc' i k does
  counted store s pc pc' i j k does same gives = subst (λ n. GivesAt store s pc pc' i n does) same gives

  arithmetic_leads : (op : BinOp) (pc at i : ℕ) (a b : Operand) (d e : PureExpr) (store : Store) (s : Situation) → IsExtendedBy s.store store
      → Stands a d i store → Stands b e i store → HasAt q.body pc (arithmetic_code op pc at i d e)
      → GivesAt store s pc (pc + 5) i i (λ go. arithmetic op a b (Here f at) s go)
  arithmetic_leads op pc at i a b d e store s ext left right has go next =
      assigns p m inputs f q found callers catcher some end pc at i (binary_of op d e) store s
      (evaluate (binary_of op (operand_expr a) (operand_expr b)) s.store) _ has.0 (binary_reads op i a b d e s.store store ext left right)
      (λ v. range_runs p m inputs f q found callers catcher some end (pc + 1) at (name (temporary i)) v Overflows (bind (temporary i) v store) s go
      (ap set_or_fault (bound_value (temporary i) v store)) has.1
      (at_label p m inputs f q found callers catcher some end (pc + 5) (pc + 1 + 4) (bind (temporary i) v store) s (go v s) (omega arith)
      (next v (bind (temporary i) v store) s (extended_more i v s.store store ext) (keeps_bound i i v store (omega arith))
      (bound_value (temporary i) v store))))

  remainder_leads : (pc at i : ℕ) (a b : Operand) (d e : PureExpr) (store : Store) (s : Situation) → IsExtendedBy s.store store
      → Stands a d i store → Stands b e i store → HasAt q.body pc (remainder_code pc at i d e)
      → GivesAt store s pc (pc + 6) i (i + 1) (λ go. remainder a b (Here f at) s go)
  remainder_leads pc at i a b d e store s ext left right has go next =
      arithmetic_leads gil.Divide pc at i a b d e store s ext left right (has_front q.body pc (arithmetic_code gil.Divide pc at i d e) (sets at (i + 1) (binary_of gil.Remainder d e) ∷ []) has) _
      (λ v more t ext' keeps holds.
      assigns p m inputs f q found callers catcher some end (pc + 5) at (i + 1) (binary_of gil.Remainder d e) more t
      (evaluate (binary_of gil.Remainder (operand_expr a) (operand_expr b)) t.store) (λ w. go w t)
      (has_back q.body pc (arithmetic_code gil.Divide pc at i d e) (sets at (i + 1) (binary_of gil.Remainder d e) ∷ []) has).0
      (binary_reads gil.Remainder i a b d e t.store more ext' (stands_on a d i i store more (omega arith) keeps left)
      (stands_on b e i i store more (omega arith) keeps right))
      (λ w. at_label p m inputs f q found callers catcher some end (pc + 6) (pc + 5 + 1) (bind (temporary (i + 1)) w more) t (go w t) (omega arith)
      (next w (bind (temporary (i + 1)) w more) t (extended_more (i + 1) w t.store more ext')
      (keeps_then i store more (bind (temporary (i + 1)) w more) keeps (keeps_bound i (i + 1) w more (omega arith)))
      (bound_value (temporary (i + 1)) w more))))

  -- a temporary has one of two numbers
  has_number : (pc pc' i j n : ℕ) (store : Store) (s : Situation) (go : Then) → i ≤ j → IsExtendedBy s.store store
      → ((v : PureValue) (more : Store) (t : Situation) → IsExtendedBy t.store more → Keeps i store more → value_of more (temporary j) ≡ Some v
      → RunsAt pc' more t (go v t)) → RunsAt pc' (bind (temporary j) (number n) store) s (go (number n) s)
  has_number pc pc' i j n store s go le ext next =
      next (number n) (bind (temporary j) (number n) store) s (extended_more j (number n) s.store store ext)
      (keeps_bound i j (number n) store le) (bound_value (temporary j) (number n) store)

  comparison_leads : (pc at i : ℕ) (meant e : PureExpr) (store : Store) (s : Situation) → IsExtendedBy s.store store
      → evaluate e store ≡ evaluate meant s.store → HasAt q.body pc (comparison_code pc at i e)
      → GivesAt store s pc (pc + 4) i i (λ go. comparison meant (Here f at) s go)
  comparison_leads pc at i meant e store s ext same has go next =
      chooses p m inputs f q found callers catcher some end pc (pc + 3) at e store s (evaluate meant s.store) (go (number 1)) (go (number 0)) has.0 same
      (at_label p m inputs f q found callers catcher some end (pc + 1 + 2) (pc + 3) store s (go (number 1) s) (omega arith)
      (second_chosen p m inputs f q found callers catcher some end (pc + 1) at i 0 1 store s (go (number 1) s) has.1
      (at_label p m inputs f q found callers catcher some end (pc + 4) (pc + 1 + 3) (bind (temporary i) (number 1) store) s (go (number 1) s) (omega arith)
      (has_number pc (pc + 4) i i 1 store s go (omega arith) ext next))))
      (first_chosen p m inputs f q found callers catcher some end (pc + 1) at i 0 1 store s (go (number 0) s) has.1
      (at_label p m inputs f q found callers catcher some end (pc + 4) (pc + 1 + 3) (bind (temporary i) (number 0) store) s (go (number 0) s) (omega arith)
      (has_number pc (pc + 4) i i 0 store s go (omega arith) ext next)))

  arithmetic_gives : (op : BinOp) (pc at i : ℕ) (a b : Operand) (d e : PureExpr) (store : Store) (s : Situation) → IsExtendedBy s.store store
      → Stands a d i store → Stands b e i store → HasAt q.body pc (arithmetic_code op pc at i d e)
      → GivesAt store s pc (pc + 5) i (i + 1 - 1) (λ go. arithmetic op a b (Here f at) s go)
  arithmetic_gives op pc at i a b d e store s ext left right has =
      counted store s pc (pc + 5) i i (i + 1 - 1) (λ go. arithmetic op a b (Here f at) s go) (omega arith) (arithmetic_leads op pc at i a b d e store s ext left right has)

  remainder_gives : (pc at i : ℕ) (a b : Operand) (d e : PureExpr) (store : Store) (s : Situation) → IsExtendedBy s.store store
      → Stands a d i store → Stands b e i store → HasAt q.body pc (remainder_code pc at i d e)
      → GivesAt store s pc (pc + 6) i (i + 2 - 1) (λ go. remainder a b (Here f at) s go)
  remainder_gives pc at i a b d e store s ext left right has =
      counted store s pc (pc + 6) i (i + 1) (i + 2 - 1) (λ go. remainder a b (Here f at) s go) (omega arith) (remainder_leads pc at i a b d e store s ext left right has)

  comparison_gives : (pc at i : ℕ) (meant e : PureExpr) (store : Store) (s : Situation) → IsExtendedBy s.store store
      → evaluate e store ≡ evaluate meant s.store → HasAt q.body pc (comparison_code pc at i e)
      → GivesAt store s pc (pc + 4) i (i + 1 - 1) (λ go. comparison meant (Here f at) s go)
  comparison_gives pc at i meant e store s ext same has =
      counted store s pc (pc + 4) i i (i + 1 - 1) (λ go. comparison meant (Here f at) s go) (omega arith) (comparison_leads pc at i meant e store s ext same has)

  operation_gives : (op : Operator) (pc at i : ℕ) (a b : Operand) (d e : PureExpr) (store : Store) (s : Situation) → IsExtendedBy s.store store
      → Stands a d i store → Stands b e i store → HasAt q.body pc (operation_code op pc at i d e)
      → GivesAt store s pc (pc + length (operation_code op pc at i d e)) i (i + operation_uses op - 1) (λ go. operation op a b (Here f at) s go)
  operation_gives Equal pc at i a b d e store s ext left right has =
      comparison_gives pc at i (binary_of gil.Equal (operand_expr a) (operand_expr b)) (binary_of gil.Equal d e) store s ext
      (binary_reads gil.Equal i a b d e s.store store ext left right) has
  operation_gives Unequal pc at i a b d e store s ext left right has =
      comparison_gives pc at i (unary_of unary.Not (binary_of gil.Equal (operand_expr a) (operand_expr b))) (unary_of unary.Not (binary_of gil.Equal d e)) store s ext
      (ap (λ r. after_value r (apply_unary unary.Not)) (binary_reads gil.Equal i a b d e s.store store ext left right)) has
  operation_gives Less pc at i a b d e store s ext left right has =
      comparison_gives pc at i (binary_of gil.Less (operand_expr a) (operand_expr b)) (binary_of gil.Less d e) store s ext
      (binary_reads gil.Less i a b d e s.store store ext left right) has
  operation_gives LessOrEqual pc at i a b d e store s ext left right has =
      comparison_gives pc at i (binary_of gil.LessOrEqual (operand_expr a) (operand_expr b)) (binary_of gil.LessOrEqual d e) store s ext
      (binary_reads gil.LessOrEqual i a b d e s.store store ext left right) has
  operation_gives Greater pc at i a b d e store s ext left right has =
      comparison_gives pc at i (binary_of gil.Less (operand_expr b) (operand_expr a)) (binary_of gil.Less e d) store s ext
      (binary_reads gil.Less i b a e d s.store store ext right left) has
  operation_gives GreaterOrEqual pc at i a b d e store s ext left right has =
      comparison_gives pc at i (binary_of gil.LessOrEqual (operand_expr b) (operand_expr a)) (binary_of gil.LessOrEqual e d) store s ext
      (binary_reads gil.LessOrEqual i b a e d s.store store ext right left) has
  operation_gives Add pc at i a b d e store s ext left right has = arithmetic_gives gil.Add pc at i a b d e store s ext left right has
  operation_gives Subtract pc at i a b d e store s ext left right has = arithmetic_gives gil.Subtract pc at i a b d e store s ext left right has
  operation_gives Multiply pc at i a b d e store s ext left right has = arithmetic_gives gil.Multiply pc at i a b d e store s ext left right has
  operation_gives Divide pc at i a b d e store s ext left right has = arithmetic_gives gil.Divide pc at i a b d e store s ext left right has
  operation_gives Remainder pc at i a b d e store s ext left right has = remainder_gives pc at i a b d e store s ext left right has

  -- a test, and then one of two numbers
  tested_gives : (pc at i j x y : ℕ) (a : Operand) (e : PureExpr) (store : Store) (s : Situation) (go : Then) → i ≤ j → IsExtendedBy s.store store
      → Stands a e j store → HasAt q.body pc (false_code at e (pc + 2 + 2) ++ choice_code (pc + 2) at j x y)
      → ((v : PureValue) (more : Store) (t : Situation) → IsExtendedBy t.store more → Keeps i store more → value_of more (temporary j) ≡ Some v
      → RunsAt (pc + 5) more t (go v t)) → RunsAt pc store s (tested a (Here f at) s (go (number y) s) (go (number x) s))
  tested_gives pc at i j x y a e store s go le ext stands has next =
      tested_runs p m inputs f q found callers catcher some end pc at j (pc + 2 + 2) a e store s (go (number y) s) (go (number x) s) ext stands
      (has_front q.body pc (false_code at e (pc + 2 + 2)) (choice_code (pc + 2) at j x y) has)
      (second_chosen p m inputs f q found callers catcher some end (pc + 2) at j x y store s (go (number y) s) at_choice
      (at_label p m inputs f q found callers catcher some end (pc + 5) (pc + 2 + 3) (bind (temporary j) (number y) store) s (go (number y) s) (omega arith)
      (has_number pc (pc + 5) i j y store s go le ext next)))
      (first_chosen p m inputs f q found callers catcher some end (pc + 2) at j x y store s (go (number x) s) at_choice
      (at_label p m inputs f q found callers catcher some end (pc + 5) (pc + 2 + 3) (bind (temporary j) (number x) store) s (go (number x) s) (omega arith)
      (has_number pc (pc + 5) i j x store s go le ext next)))
    where
      at_choice : HasAt q.body (pc + 2) (choice_code (pc + 2) at j x y)
      at_choice = has_back q.body pc (false_code at e (pc + 2 + 2)) (choice_code (pc + 2) at j x y) has

  address_leads : (pc at i : ℕ) (a b : Operand) (d e : PureExpr) (store : Store) (s : Situation) → IsExtendedBy s.store store
      → Stands a d i store → Stands b e i store → HasAt q.body pc (address_code pc at i d e)
      → GivesAt store s pc (pc + 6) i (i + 2) (λ go. address_of a b (Here f at) s go)
  address_leads pc at i a b d e store s ext left right has go next =
      cell_runs p m inputs f q found callers catcher some end pc at i a b d e store s ext left right (has_front q.body pc (cell_code pc at i d e) (sets at (i + 2) (address_expr i) ∷ []) has)
      (λ block cell. go (address block cell) s)
      (λ block cell more ext' keeps first second.
      assigns p m inputs f q found callers catcher some end (pc + 5) at (i + 2) (address_expr i) more s (Ok (address block cell)) (λ v. go v s)
      (has_back q.body pc (cell_code pc at i d e) (sets at (i + 2) (address_expr i) ∷ []) has).0 (address_value i block cell more first second)
      (λ v. at_label p m inputs f q found callers catcher some end (pc + 6) (pc + 5 + 1) (bind (temporary (i + 2)) v more) s (go v s) (omega arith)
      (next v (bind (temporary (i + 2)) v more) s (extended_more (i + 2) v s.store more ext')
      (keeps_then i store more (bind (temporary (i + 2)) v more) keeps (keeps_bound i (i + 2) v more (omega arith)))
      (bound_value (temporary (i + 2)) v more))))

  module _ (takes : m.takes_symbol (codes "load") ≡ false) where
    content_leads : (pc at i : ℕ) (a b : Operand) (d e : PureExpr) (store : Store) (s : Situation) → IsExtendedBy s.store store
        → Stands a d i store → Stands b e i store → HasAt q.body pc (content_code pc at i d e)
        → GivesAt store s pc (pc + 6) i (i + 2) (λ go. content m a b (Here f at) s go)
    content_leads pc at i a b d e store s ext left right has go next =
        cell_runs p m inputs f q found callers catcher some end pc at i a b d e store s ext left right (has_front q.body pc (cell_code pc at i d e) (loads ∷ []) has)
        _
        (λ block cell more ext' keeps first second.
        outcome_runs p m inputs f q found callers catcher some (pc + 5) end (temporary (i + 2)) more
        (record s { heap = (loaded block cell).heap }) (Here f at) _ (loaded block cell).outcome go
        (steps p m inputs f q found callers catcher (pc + 5) loads more s (has_back q.body pc (cell_code pc at i d e) (loads ∷ []) has).0
        ∙ ap (λ r. machine.with_values (both r (Ok [])) (Here f at) (state_at f (pc + 5) callers more s)
        (λ args. machine.do_action (m.takes_symbol (codes "load")) m (temporary (i + 2)) (codes "load") args (Here f at)
        (state_at f (pc + 5) callers more s))) (address_value i block cell more first second)
        ∙ ap (λ b. machine.do_action b m (temporary (i + 2)) (codes "load") (address block cell ∷ []) (Here f at) (state_at f (pc + 5) callers more s)) takes)
        (λ v. at_label p m inputs f q found callers catcher some end (pc + 6) (pc + 5 + 1) (bind (temporary (i + 2)) v more) (record s { heap = (loaded block cell).heap }) (go v (record s { heap = (loaded block cell).heap })) (omega arith)
        (next v (bind (temporary (i + 2)) v more) (record s { heap = (loaded block cell).heap }) (extended_more (i + 2) v s.store more ext')
        (keeps_then i store more (bind (temporary (i + 2)) v more) keeps (keeps_bound i (i + 2) v more (omega arith)))
        (bound_value (temporary (i + 2)) v more))))
      where
        loads : PureNumberedCommand
        loads = placed at (act (temporary (i + 2)) (codes "load") (address_expr i ∷ []))

        loaded : PureValue → PureValue → ActionResult
        loaded block cell = m.act (codes "load") None (address block cell ∷ []) s.heap

    content_gives : (pc at i : ℕ) (a b : Operand) (d e : PureExpr) (store : Store) (s : Situation) → IsExtendedBy s.store store
        → Stands a d i store → Stands b e i store → HasAt q.body pc (content_code pc at i d e)
        → GivesAt store s pc (pc + 6) i (i + 3 - 1) (λ go. content m a b (Here f at) s go)
    content_gives pc at i a b d e store s ext left right has =
        counted store s pc (pc + 6) i (i + 2) (i + 3 - 1) (λ go. content m a b (Here f at) s go) (omega arith) (content_leads pc at i a b d e store s ext left right has)

    applied_gives : (u : Prefix) (pc at i : ℕ) (a : Operand) (e : PureExpr) (store : Store) (s : Situation) → IsExtendedBy s.store store
        → Stands a e i store → HasAt q.body pc (applied_code u pc at i e)
        → GivesAt store s pc (pc + length (applied_code u pc at i e)) i (i + applied_uses u - 1) (λ go. applied m u a (Here f at) s go)
    applied_gives Minus pc at i a e store s ext stands has =
        arithmetic_gives gil.Subtract pc at i (known (number 0)) a (number_literal 0) e store s ext (inl (refl, refl)) stands has
    applied_gives Not pc at i a e store s ext stands has =
        counted store s pc (pc + 5) i i (i + 1 - 1) (λ go. tested a (Here f at) s (go (number 1) s) (go (number 0) s)) (omega arith)
        (λ go next. tested_gives pc at i i 0 1 a e store s go (omega arith) ext stands has next)
    applied_gives Pointee pc at i a e store s ext stands has =
        content_gives pc at i a (known (number 0)) e (number_literal 0) store s ext stands (inl (refl, refl)) has

    joined_gives : (j : Joint) (pc at i : ℕ) (a b : Operand) (d e : PureExpr) (store : Store) (s : Situation) → IsExtendedBy s.store store
        → Stands a d i store → Stands b e i store → HasAt q.body pc (joined_code j pc at i d e)
        → GivesAt store s pc (pc + length (joined_code j pc at i d e)) i (i + joined_uses j - 1) (λ go. joined m j a b (Here f at) s go)
    joined_gives (Operation op) pc at i a b d e store s ext left right has = operation_gives op pc at i a b d e store s ext left right has
    joined_gives Cell pc at i a b d e store s ext left right has = content_gives pc at i a b d e store s ext left right has
    joined_gives Address pc at i a b d e store s ext left right has =
        counted store s pc (pc + 6) i (i + 2) (i + 3 - 1) (λ go. address_of a b (Here f at) s go) (omega arith) (address_leads pc at i a b d e store s ext left right has)

  -- behind the left side of a connective: its commands lead to the number that decides, or on to those of the right side
  module _ (o : Connective) (pc at i n : ℕ) (a : Operand) (d e : PureExpr) (right : ℕ → List PureNumberedCommand)
      (does : Situation → (Operand → Situation → Completion) → Completion) (store : Store) (s : Situation) (ext : IsExtendedBy s.store store)
      (stands : Stands a d i store)
      (has : HasAt q.body pc (skip_code codes_of_operators o pc at (i + n) d e right))
      (leaves : HasAt q.body (pc + decision_size o) (right (pc + decision_size o))
      → Leaves p m inputs f q callers catcher some end (pc + decision_size o) (pc + decision_size o + length (right (pc + decision_size o))) i (i + n) e does)
      (go : Then)
      (next : (v : PureValue) (more : Store) (t : Situation) → IsExtendedBy t.store more → Keeps i store more → value_of more (temporary (i + n)) ≡ Some v
      → RunsAt (pc + length (skip_code codes_of_operators o pc at (i + n) d e right)) more t (go v t)) where
    abbrev pub start : ℕ
    start = pc + decision_size o

    abbrev pub middle : ℕ
    middle = start + length (right start)

    abbrev pub first : List PureNumberedCommand
    first = decision_code o pc at (i + n) (length (right start)) d

    abbrev pub last : List PureNumberedCommand
    last = conclusion_code middle at (i + n) e

    decided : (c : Connective) (t r : ℕ) (b : PureExpr) → length (decision_code c pc at t r b) ≡ decision_size c
    decided And t r b = refl
    decided Or t r b = refl

    at_right : HasAt q.body start (right start ++ last)
    at_right = subst (λ k. HasAt q.body k (right start ++ last)) (ap (λ k. pc + k) (decided o (i + n) (length (right start)) d))
        (has_back q.body pc first (right start ++ last) has)

    at_last : HasAt q.body middle last
    at_last = has_back q.body start (right start) last at_right

    at_choice : HasAt q.body (middle + 2) (choice_code (middle + 2) at (i + n) 1 0)
    at_choice = has_back q.body middle (false_code at e (middle + 2 + 2)) (choice_code (middle + 2) at (i + n) 1 0) at_last

    ends : middle + 5 ≡ pc + length (skip_code codes_of_operators o pc at (i + n) d e right)
    ends = omega (arith, length-append first (right start ++ last), length-append (right start) last, decided o (i + n) (length (right start)) d)

    done : (v : PureValue) (more : Store) (t : Situation) → IsExtendedBy t.store more → Keeps i store more → value_of more (temporary (i + n)) ≡ Some v
        → RunsAt (middle + 5) more t (go v t)
    done v more t ext' keeps holds =
        at_label p m inputs f q found callers catcher some end (pc + length (skip_code codes_of_operators o pc at (i + n) d e right)) (middle + 5) more t (go v t)
        (sym ends) (next v more t ext' keeps holds)

    pub zero_decides : RunsAt (middle + 2 + 2) store s (go (number 0) s)
    zero_decides =
        second_chosen p m inputs f q found callers catcher some end (middle + 2) at (i + n) 1 0 store s (go (number 0) s) at_choice
        (at_label p m inputs f q found callers catcher some end (middle + 5) (middle + 2 + 3) (bind (temporary (i + n)) (number 0) store) s (go (number 0) s) (omega arith)
        (has_number middle (middle + 5) i (i + n) 0 store s go (omega arith) ext done))

    pub one_decides : RunsAt (middle + 2) store s (go (number 1) s)
    one_decides =
        first_chosen p m inputs f q found callers catcher some end (middle + 2) at (i + n) 1 0 store s (go (number 1) s) at_choice
        (at_label p m inputs f q found callers catcher some end (middle + 5) (middle + 2 + 3) (bind (temporary (i + n)) (number 1) store) s (go (number 1) s) (omega arith)
        (has_number middle (middle + 5) i (i + n) 1 store s go (omega arith) ext done))

    pub right_decides : RunsAt start store s (does s (λ b w. conclusion b (Here f at) w go))
    right_decides =
        leaves (has_front q.body start (right start) last at_right) store s _ ext
        (λ b more t ext' keeps stands'.
        tested_gives middle at i (i + n) 1 0 b e more t go (omega arith) ext' stands' at_last
        (λ v over w ext3 keeps3 holds. done v over w ext3 (keeps_then i store more over keeps keeps3) holds))

  skips_give : (o : Connective) (pc at i n : ℕ) (a : Operand) (d e : PureExpr) (right : ℕ → List PureNumberedCommand)
      (does : Situation → (Operand → Situation → Completion) → Completion) (store : Store) (s : Situation) → IsExtendedBy s.store store
      → Stands a d i store → HasAt q.body pc (skip_code codes_of_operators o pc at (i + n) d e right)
      → (HasAt q.body (pc + decision_size o) (right (pc + decision_size o))
      → Leaves p m inputs f q callers catcher some end (pc + decision_size o) (pc + decision_size o + length (right (pc + decision_size o))) i (i + n) e does)
      → GivesAt store s pc (pc + length (skip_code codes_of_operators o pc at (i + n) d e right)) i (i + n)
      (λ go. decision o a (Here f at) s go (λ r. does r (λ b w. conclusion b (Here f at) w go)))
  skips_give And pc at i n a d e right does store s ext stands has leaves go next =
      tested_runs p m inputs f q found callers catcher some end pc at i (pc + 2 + length (right (pc + 2)) + 2 + 2) a d store s _ _ ext stands
      (has_front q.body pc (decision_code And pc at (i + n) (length (right (pc + 2))) d) (right (pc + 2) ++ conclusion_code (pc + 2 + length (right (pc + 2))) at (i + n) e) has)
      (zero_decides And pc at i n a d e right does store s ext stands has leaves go next)
      (right_decides And pc at i n a d e right does store s ext stands has leaves go next)
  skips_give Or pc at i n a d e right does store s ext stands has leaves go next =
      tested_runs p m inputs f q found callers catcher some end pc at i (pc + 3) a d store s _ _ ext stands
      (has_front q.body pc (false_code at d (pc + 3)) (skip ∷ []) at_first)
      (right_decides Or pc at i n a d e right does store s ext stands has leaves go next)
      (jumps_to p m inputs f q found callers catcher some end (pc + 2) (pc + 3 + length (right (pc + 3)) + 2) at truth store s (go (number 1) s)
      (has_back q.body pc (false_code at d (pc + 3)) (skip ∷ []) at_first).0 refl
      (one_decides Or pc at i n a d e right does store s ext stands has leaves go next))
    where
      skip : PureNumberedCommand
      skip = jump at truth (pc + 3 + length (right (pc + 3)) + 2)

      at_first : HasAt q.body pc (decision_code Or pc at (i + n) (length (right (pc + 3))) d)
      at_first = has_front q.body pc (decision_code Or pc at (i + n) (length (right (pc + 3))) d)
          (right (pc + 3) ++ conclusion_code (pc + 3 + length (right (pc + 3))) at (i + n) e) has

  -- the operators of the language run as they mean
  pub operators_run : m.takes_symbol (codes "load") ≡ false → OperatorsRun p m inputs f q callers catcher some end (meanings m) codes_of_operators
  operators_run takes = record {
    variables = λ x names. (refl, names);
    apply_takes = applied_takes;
    join_takes = joined_takes;
    decide_long = decided_long;
    applies = λ u pc at i a e store s ext stands has. applied_gives takes u pc at i a e store s ext stands has;
    joins = λ j pc at i a b d e store s ext left right has. joined_gives takes j pc at i a b d e store s ext left right has;
    skips = λ o pc at i n a d e right does store s ext stands has leaves. skips_give o pc at i n a d e right does store s ext stands has leaves;
  }
