-- The commands that test a range, or whether a value is false, lead on or to a label.
use Rattle.std.proofs.Common.{◌≡◌, ℕ, ◌+◌, List, Bool, true, false, cond, ◌&&◌, ◌||◌, Some, Ok, Err, slice_get, refl, ap, subst, ◌∙◌, arith}
use Rattle.std.specs.Prelude.{codes, int_le}
use Rattle.gil_values.specs.declared.kinds.Kind.TheVariants.{Null}
use Rattle.gil_values.specs.declared.operators.BinOp.TheVariants.{Equal, LessOrEqual}
use Rattle.gil_values.specs.Equality.{same_value}
use Rattle.gil_values.specs.Operators.{wrong_kind, Outcome, binary}
use Rattle.gil_values.specs.Pure.{PureValue, integer, boolean, text, symbol, kind, procedure, list}
use Rattle.gil_syntax.specs.Pure.{PureExpr, literal, binary_of, PureProc, PureParts}
use Rattle.gil_syntax.specs.Programs.{find_proc}
use Rattle.gil_syntax.specs.Evaluation.{Store, bind, evaluate, after_value}
use Rattle.mem_model.specs.Actions.{Actions}
use Rattle.gil_machine.specs.State.{Frame}
use Rattle.source_language.specs.Completions.{Situation, Completion, fails, with_value}
use Rattle.source_language.specs.Code.{truth}
use Rattle.source_language.specs.Names.{temporary, IsExtendedBy}
use Rattle.source_language.specs.Procedures.{null, placed}
use Rattle.source_language.proofs.Following.{Here, Catcher}
use Rattle.source_language.proofs.Stretches.{HasAt}
use Rattle.source_operators.specs.Operands.{Operand, Then}
use Rattle.source_operators.proofs.Leaving.{Stands, stands_for}
use Rattle.source_operators.proofs.Steps as at_commands
use Rattle.source_operators.proofs.Steps.{at_label, jumps_to, passes, jump_fails, gets, fails_here, vanishes_here}
use Rattle.clike_operators.specs.declared.pieces.Beyond.{Beyond}
use Rattle.clike_operators.specs.declared.pieces.Beyond.TheVariants.{Overflows, Vanishes}
use Rattle.clike_operators.specs.Codes.{beyond_command, number_literal, range_code, false_code, choice_code}
use Rattle.clike_operators.specs.Meaning.{tested}
use Rattle.clike_operators.specs.Ranges.{greatest, least, beyond, ranged, number, is_false}

module _ (p : PureParts) (m : Actions) (inputs : List PureValue) (f : List ℕ) (q : PureProc) (found : find_proc p.procs f ≡ Some q)
    (callers : List Frame) (catcher : Catcher) (some end : ℕ) where
  abbrev RunsAt : ℕ → Store → Situation → Completion → Type 0
  RunsAt pc store s c = at_commands.RunsAt p m inputs f q found callers catcher some end pc store s c

  -- a value that is no number fails at the first jump
  mistaken : (pc at : ℕ) (e : PureExpr) (v : PureValue) (out : Beyond) (store : Store) (s : Situation) → evaluate e store ≡ Ok v
      → HasAt q.body pc (range_code pc at e out) → binary LessOrEqual v (integer greatest) ≡ Err wrong_kind
      → RunsAt pc store s (fails (text (codes "type")) (Here f at) s)
  mistaken pc at e v out store s is has wrong =
      jump_fails p m inputs f q found callers catcher some end pc (pc + 2) at (binary_of LessOrEqual e (literal (integer greatest))) store s wrong_kind
      (λ w. fails (text (codes "type")) (Here f at) s) has.0
      (ap (λ r. after_value r (λ w. binary LessOrEqual w (integer greatest))) is ∙ wrong)

  beyond_runs : (pc at : ℕ) (out : Beyond) (store : Store) (s : Situation)
      → slice_get q.body pc ≡ Some (placed at (beyond_command out)) → RunsAt pc store s (beyond out (Here f at) s)
  beyond_runs pc at Overflows store s has = fails_here p m inputs f q found callers catcher some end pc at (text (codes "overflow")) store s has
  beyond_runs pc at Vanishes store s has = vanishes_here p m inputs f q found callers catcher some end pc at store s has

  pub range_runs : (pc at : ℕ) (e : PureExpr) (v : PureValue) (out : Beyond) (store : Store) (s : Situation) (go : Then) → evaluate e store ≡ Ok v
      → HasAt q.body pc (range_code pc at e out) → RunsAt (pc + 4) store s (go v s) → RunsAt pc store s (ranged v out (Here f at) s go)
  range_runs pc at e (integer n) out store s go is has next = above (int_le n greatest) refl
    where
      below : (b : Bool) → int_le least n ≡ b → RunsAt (pc + 1 + 1) store s (cond b (go (integer n) s) (beyond out (Here f at) s))
      below true low = jumps_to p m inputs f q found callers catcher some end (pc + 1 + 1) (pc + 2 + 2) at (binary_of LessOrEqual (literal (integer least)) e) store s (go (integer n) s) has.1.1.0
          (ap (λ r. after_value r (binary LessOrEqual (integer least))) is ∙ ap (λ b. Ok (boolean b)) low)
          (at_label p m inputs f q found callers catcher some end (pc + 4) (pc + 2 + 2) store s (go (integer n) s) (omega arith) next)
      below false low = passes p m inputs f q found callers catcher some end (pc + 1 + 1) (pc + 2 + 2) at (binary_of LessOrEqual (literal (integer least)) e) store s (beyond out (Here f at) s) has.1.1.0
          (ap (λ r. after_value r (binary LessOrEqual (integer least))) is ∙ ap (λ b. Ok (boolean b)) low) (beyond_runs (pc + 1 + 1 + 1) at out store s has.1.1.1.0)

      above : (b : Bool) → int_le n greatest ≡ b
          → RunsAt pc store s (cond (b && int_le least n) (go (integer n) s) (beyond out (Here f at) s))
      above true high = jumps_to p m inputs f q found callers catcher some end pc (pc + 2) at (binary_of LessOrEqual e (literal (integer greatest))) store s
          (cond (int_le least n) (go (integer n) s) (beyond out (Here f at) s)) has.0
          (ap (λ r. after_value r (λ w. binary LessOrEqual w (integer greatest))) is ∙ ap (λ b. Ok (boolean b)) high)
          (at_label p m inputs f q found callers catcher some end (pc + 1 + 1) (pc + 2) store s (cond (int_le least n) (go (integer n) s) (beyond out (Here f at) s)) (omega arith)
          (below (int_le least n) refl))
      above false high = passes p m inputs f q found callers catcher some end pc (pc + 2) at (binary_of LessOrEqual e (literal (integer greatest))) store s
          (beyond out (Here f at) s) has.0
          (ap (λ r. after_value r (λ w. binary LessOrEqual w (integer greatest))) is ∙ ap (λ b. Ok (boolean b)) high)
          (beyond_runs (pc + 1) at out store s has.1.0)
  range_runs pc at e (boolean b) out store s go is has next = mistaken pc at e (boolean b) out store s is has refl
  range_runs pc at e (text cs) out store s go is has next = mistaken pc at e (text cs) out store s is has refl
  range_runs pc at e (symbol n) out store s go is has next = mistaken pc at e (symbol n) out store s is has refl
  range_runs pc at e (kind k) out store s go is has next = mistaken pc at e (kind k) out store s is has refl
  range_runs pc at e (procedure g) out store s go is has next = mistaken pc at e (procedure g) out store s is has refl
  range_runs pc at e (list vs) out store s go is has next = mistaken pc at e (list vs) out store s is has refl

  -- a value that is false leads to the label, and another one on
  pub false_runs : (pc at label : ℕ) (e : PureExpr) (v : PureValue) (store : Store) (s : Situation) (on_false on_true : Completion)
      → evaluate e store ≡ Ok v → HasAt q.body pc (false_code at e label) → RunsAt label store s on_false → RunsAt (pc + 2) store s on_true
      → RunsAt pc store s (cond (is_false v) on_false on_true)
  false_runs pc at label e v store s on_false on_true is has on off = first (same_value v (number 0)) refl
    where
      equal : (w : PureValue) (b : Bool) → same_value v w ≡ b → evaluate (binary_of Equal e (literal w)) store ≡ Ok (boolean b)
      equal w b same = ap (λ r. after_value r (λ x. binary Equal x w)) is ∙ ap (λ b. Ok (boolean b)) same

      second : (b : Bool) → same_value v (kind Null) ≡ b → RunsAt (pc + 1) store s (cond b on_false on_true)
      second true same = jumps_to p m inputs f q found callers catcher some end (pc + 1) label at (binary_of Equal e null) store s on_false has.1.0 (equal (kind Null) true same) on
      second false same = passes p m inputs f q found callers catcher some end (pc + 1) label at (binary_of Equal e null) store s on_true has.1.0 (equal (kind Null) false same)
          (at_label p m inputs f q found callers catcher some end (pc + 2) (pc + 1 + 1) store s on_true (omega arith) off)

      first : (b : Bool) → same_value v (number 0) ≡ b → RunsAt pc store s (cond (b || same_value v (kind Null)) on_false on_true)
      first true same = jumps_to p m inputs f q found callers catcher some end pc label at (binary_of Equal e (number_literal 0)) store s on_false has.0 (equal (number 0) true same) on
      first false same = passes p m inputs f q found callers catcher some end pc label at (binary_of Equal e (number_literal 0)) store s
          (cond (same_value v (kind Null)) on_false on_true) has.0 (equal (number 0) false same) (second (same_value v (kind Null)) refl)

  false_outcome : (pc at label : ℕ) (e : PureExpr) (o : Outcome) (store : Store) (s : Situation) (on_false on_true : Completion)
      → evaluate e store ≡ o → HasAt q.body pc (false_code at e label) → RunsAt label store s on_false → RunsAt (pc + 2) store s on_true
      → RunsAt pc store s (with_value o (Here f at) s (λ v. cond (is_false v) on_false on_true))
  false_outcome pc at label e (Ok v) store s on_false on_true is has off on = false_runs pc at label e v store s on_false on_true is has off on
  false_outcome pc at label e (Err fault) store s on_false on_true is has off on =
      jump_fails p m inputs f q found callers catcher some end pc label at (binary_of Equal e (number_literal 0)) store s fault
      (λ v. cond (is_false v) on_false on_true) has.0 (ap (λ o. after_value o (λ w. binary Equal w (number 0))) is)

  -- the same of an operand
  pub tested_runs : (pc at i label : ℕ) (a : Operand) (e : PureExpr) (store : Store) (s : Situation) (on_false on_true : Completion)
      → IsExtendedBy s.store store → Stands a e i store → HasAt q.body pc (false_code at e label)
      → RunsAt label store s on_false → RunsAt (pc + 2) store s on_true → RunsAt pc store s (tested a (Here f at) s on_false on_true)
  tested_runs pc at i label a e store s on_false on_true ext stands has off on =
      subst (λ o. RunsAt pc store s (with_value o (Here f at) s (λ v. cond (is_false v) on_false on_true))) (stands_for a e i s.store store ext stands)
      (false_outcome pc at label e (evaluate e store) store s on_false on_true refl has off on)

  -- one of two numbers
  pub first_chosen : (pc at t x y : ℕ) (store : Store) (s : Situation) (c : Completion) → HasAt q.body pc (choice_code pc at t x y)
      → RunsAt (pc + 3) (bind (temporary t) (number x) store) s c → RunsAt pc store s c
  first_chosen pc at t x y store s c has next =
      gets p m inputs f q found callers catcher some end pc at t (number x) store s c has.0
      (jumps_to p m inputs f q found callers catcher some end (pc + 1) (pc + 1 + 2) at truth (bind (temporary t) (number x) store) s c has.1.0 refl
      (at_label p m inputs f q found callers catcher some end (pc + 3) (pc + 1 + 2) (bind (temporary t) (number x) store) s c (omega arith) next))

  pub second_chosen : (pc at t x y : ℕ) (store : Store) (s : Situation) (c : Completion) → HasAt q.body pc (choice_code pc at t x y)
      → RunsAt (pc + 3) (bind (temporary t) (number y) store) s c → RunsAt (pc + 2) store s c
  second_chosen pc at t x y store s c has next =
      at_label p m inputs f q found callers catcher some end (pc + 1 + 1) (pc + 2) store s c (omega arith)
      (gets p m inputs f q found callers catcher some end (pc + 1 + 1) at t (number y) store s c has.1.1.0
      (at_label p m inputs f q found callers catcher some end (pc + 3) (pc + 1 + 1 + 1) (bind (temporary t) (number y) store) s c (omega arith) next))
