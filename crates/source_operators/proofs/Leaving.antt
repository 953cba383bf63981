-- The commands of an expression lead to its operand, where those of its operators do.
use Rattle.std.proofs.Common.{◌≡◌, ◌⊎◌, inl, inr, ℕ, ◌+◌, ◌-◌, ◌<◌, ◌≤◌, List, [], ◌∷◌, ◌++◌, Bool, true, false, Some, length, refl, sym, ap, subst, ◌∙◌, arith, length-append}
use Rattle.std.specs.List.{list_all}
use Rattle.std.proofs.lemmas.Bool.{and_parts}
use Rattle.gil_values.specs.Pure.{PureValue}
use Rattle.gil_syntax.specs.Pure.{PureExpr, name, PureNumberedCommand, PureProc, PureParts}
use Rattle.gil_syntax.specs.Evaluation.{Store, value_of, set_or_fault, both, evaluate, evaluate_all}
use Rattle.mem_model.specs.Actions.{Actions}
use Rattle.gil_machine.specs.State.{Frame}
use Rattle.gil_machine.specs.Run.{run}
use Rattle.source_language.specs.Completions.{Situation, Completion}
use Rattle.source_language.specs.Names.{is_source_name, is_source_expr, temporary, IsExtendedBy}
use Rattle.source_language.proofs.Following.{state_at, Here, Catcher, Runs}
use Rattle.source_language.proofs.Stores.{same_value}
use Rattle.source_language.proofs.Stretches.{HasAt, has_front, has_back}
use Rattle.source_operators.specs.declared.trees.Connective.{Connective}
use Rattle.source_operators.specs.Pure.{PureExpression, constant, variable, brackets, prefixed, joined, skipping}
use Rattle.source_operators.specs.Operands.{Operand, known, operand_expr, read, read_all, Then, Meanings, operand, all_operands}
use Rattle.source_operators.specs.Codes.{Codes, right_from, taken, uses, result, code, skip_code, all_uses, results, all_code}
use Rattle.source_operators.specs.Names.{is_source_expression}

-- the temporaries below a number have the values in the second store that they have in the first
abbrev pub Keeps : ℕ → Store → Store → Type 0
Keeps i store more = (j : ℕ) → j < i → value_of more (temporary j) ≡ value_of store (temporary j)

pub keeps_itself : (i : ℕ) (store : Store) → Keeps i store store
keeps_itself i store j lt = refl

pub keeps_fewer : (i k : ℕ) (s t : Store) → i ≤ k → Keeps k s t → Keeps i s t
keeps_fewer i k s t le keeps j lt = keeps j (omega (arith, lt, le))

pub keeps_then : (i : ℕ) (s t u : Store) → Keeps i s t → Keeps i t u → Keeps i s u
keeps_then i s t u first second j lt = second j lt ∙ first j lt

-- What a command names in place of an operand: the operand itself, or a temporary below a number that has its value.
abbrev pub Stands : Operand → PureExpr → ℕ → Store → Type 0
Stands a e i store =
    ((e ≡ operand_expr a) × (is_source_expr (operand_expr a) ≡ true))
    ⊎ ((v : PureValue) × (j : ℕ) × (a ≡ known v) × (e ≡ name (temporary j)) × (j < i) × (value_of store (temporary j) ≡ Some v))

pub stands_on : (a : Operand) (e : PureExpr) (i k : ℕ) (s t : Store) → i ≤ k → Keeps i s t → Stands a e i s → Stands a e k t
stands_on a e i k s t le keeps (inl same) = inl same
stands_on a e i k s t le keeps (inr (v, j, is, names, lt, has)) = inr (v, j, is, names, omega (arith, lt, le), keeps j lt ∙ has)

-- what is named has the value of the operand
pub stands_for : (a : Operand) (e : PureExpr) (i : ℕ) (s t : Store) → IsExtendedBy s t → Stands a e i t → evaluate e t ≡ read a s
stands_for a e i s t ext (inl (same, names)) = ap (λ x. evaluate x t) same ∙ same_value (operand_expr a) s t ext names
stands_for a e i s t ext (inr (v, j, is, names, lt, has)) =
    ap (λ x. evaluate x t) names ∙ ap set_or_fault has ∙ sym (ap (λ b. read b s) is)

pub holds_result : (v : PureValue) (i j : ℕ) (store : Store) → j < i → value_of store (temporary j) ≡ Some v → Stands (known v) (name (temporary j)) i store
holds_result v i j store lt has = inr (v, j, refl, refl, lt, has)

-- the same of several operands
abbrev pub AllStand : List Operand → List PureExpr → ℕ → Store → Type 0
AllStand [] [] i store = Unit {0}
AllStand [] (e ∷ es) i store = ⊥
AllStand (a ∷ rest) [] i store = ⊥
AllStand (a ∷ rest) (e ∷ es) i store = Stands a e i store × AllStand rest es i store

pub all_stand_for : (all : List Operand) (es : List PureExpr) (i : ℕ) (s t : Store) → IsExtendedBy s t → AllStand all es i t
    → evaluate_all es t ≡ read_all all s
all_stand_for [] [] i s t ext stand = refl
all_stand_for [] (e ∷ es) i s t ext stand = absurd stand
all_stand_for (a ∷ rest) [] i s t ext stand = absurd stand
all_stand_for (a ∷ rest) (e ∷ es) i s t ext stand =
    let first = stands_for a e i s t ext stand.0 in
    let others = all_stand_for rest es i s t ext stand.1 in
    λ k. both (first k) (others k)

module _ (p : PureParts) (m : Actions) (inputs : List PureValue) (f : List ℕ) (q : PureProc) (callers : List Frame) (catcher : Catcher)
    (some end : ℕ) where
  -- Commands from a place to another, which take temporaries from a number on, do what leaves an operand.
  abbrev pub Leaves : ℕ → ℕ → ℕ → ℕ → PureExpr → (Situation → (Operand → Situation → Completion) → Completion) → Type 0
  Leaves pc pc' i k e does = (store : Store) (s : Situation) (go : Operand → Situation → Completion) → IsExtendedBy s.store store
      → ((a : Operand) (more : Store) (t : Situation) → IsExtendedBy t.store more → Keeps i store more → Stands a e k more
      → Runs (run p m inputs) catcher some f callers end (state_at f pc' callers more t) (go a t))
      → Runs (run p m inputs) catcher some f callers end (state_at f pc callers store s) (does s go)

  -- the same of a value, which is in a temporary at the end
  abbrev pub Gives : Store → Situation → ℕ → ℕ → ℕ → ℕ → (Then → Completion) → Type 0
  Gives store s pc pc' i j does = (go : Then)
      → ((v : PureValue) (more : Store) (t : Situation) → IsExtendedBy t.store more → Keeps i store more → value_of more (temporary j) ≡ Some v
      → Runs (run p m inputs) catcher some f callers end (state_at f pc' callers more t) (go v t))
      → Runs (run p m inputs) catcher some f callers end (state_at f pc callers store s) (does go)

  -- the same of several operands
  abbrev pub LeavesAll : ℕ → ℕ → ℕ → ℕ → List PureExpr → (Situation → (List Operand → Situation → Completion) → Completion) → Type 0
  LeavesAll pc pc' i k es does = (store : Store) (s : Situation) (go : List Operand → Situation → Completion) → IsExtendedBy s.store store
      → ((all : List Operand) (more : Store) (t : Situation) → IsExtendedBy t.store more → Keeps i store more → AllStand all es k more
      → Runs (run p m inputs) catcher some f callers end (state_at f pc' callers more t) (go all t))
      → Runs (run p m inputs) catcher some f callers end (state_at f pc callers store s) (does s go)

  module _ {P J : Type 0} (k : Meanings P J) (c : Codes P J) where
    -- what is to be shown of each operator of a language
    pub record OperatorsRun : Type 0 where
      pub variables : (x : List ℕ) → is_source_name x ≡ true → (c.variable x ≡ operand_expr (k.variable x)) × (is_source_expr (operand_expr (k.variable x)) ≡ true)
      pub apply_takes : (u : P) → 0 < c.apply_uses u
      pub join_takes : (op : J) → 0 < c.join_uses op
      pub decide_long : (o : Connective) (pc at t n : ℕ) (e : PureExpr) → length (c.decide o pc at t n e) ≡ c.decide_size o
      pub applies : (u : P) (pc at i : ℕ) (a : Operand) (e : PureExpr) (store : Store) (s : Situation) → IsExtendedBy s.store store
          → Stands a e i store → HasAt q.body pc (c.apply u pc at i e)
          → Gives store s pc (pc + length (c.apply u pc at i e)) i (i + c.apply_uses u - 1) (λ go. k.apply u a (Here f at) s go)
      pub joins : (op : J) (pc at i : ℕ) (a b : Operand) (d e : PureExpr) (store : Store) (s : Situation) → IsExtendedBy s.store store
          → Stands a d i store → Stands b e i store → HasAt q.body pc (c.join op pc at i d e)
          → Gives store s pc (pc + length (c.join op pc at i d e)) i (i + c.join_uses op - 1) (λ go. k.join op a b (Here f at) s go)
      pub skips : (o : Connective) (pc at i n : ℕ) (a : Operand) (d e : PureExpr) (right : ℕ → List PureNumberedCommand)
          (does : Situation → (Operand → Situation → Completion) → Completion) (store : Store) (s : Situation) → IsExtendedBy s.store store
          → Stands a d i store → HasAt q.body pc (skip_code c o pc at (taken c.early i (right_from c.early i + n)) d e right)
          → (HasAt q.body (pc + c.decide_size o) (right (pc + c.decide_size o))
          → Leaves (pc + c.decide_size o) (pc + c.decide_size o + length (right (pc + c.decide_size o))) (right_from c.early i)
          (right_from c.early i + n) e does)
          → Gives store s pc (pc + length (skip_code c o pc at (taken c.early i (right_from c.early i + n)) d e right)) i
          (taken c.early i (right_from c.early i + n))
          (λ go. k.decide o a (Here f at) s go (λ r. does r (λ b w. k.conclude o b (Here f at) w go)))

    module _ (runs : OperatorsRun) where
      below_taken : (i n : ℕ) → taken c.early i (right_from c.early i + n) < i + n + 1
      below_taken i n = of c.early
        where
          of : (x : Bool) → taken x i (right_from x i + n) < i + n + 1
          of true = omega arith
          of false = omega arith

      pub operand_leaves : (e : PureExpression P J) (pc at i : ℕ) → is_source_expression e ≡ true → HasAt q.body pc (code c e pc at i)
          → Leaves pc (pc + length (code c e pc at i)) i (i + uses c e) (result c e i) (λ s go. operand k e (Here f at) s go)
      operand_leaves (constant v) pc at i names has store s go ext next =
          subst (λ n. Runs (run p m inputs) catcher some f callers end (state_at f n callers store s) (go (known v) s)) (omega arith)
          (next (known v) store s ext (keeps_itself i store) (inl (refl, refl)))
      operand_leaves (variable x) pc at i names has store s go ext next =
          subst (λ n. Runs (run p m inputs) catcher some f callers end (state_at f n callers store s) (go (k.variable x) s)) (omega arith)
          (next (k.variable x) store s ext (keeps_itself i store) (inl (runs.variables x names)))
      operand_leaves (brackets e) pc at i names has store s go ext next = operand_leaves e pc at i names has store s go ext next
      operand_leaves (prefixed u e) pc at i names has store s go ext next =
          operand_leaves e pc at i names (has_front q.body pc front _ has) store s _ ext
          (λ a more t ext' keeps stands.
          runs.applies u (pc + length front) at (i + uses c e) a (result c e i) more t ext' stands (has_back q.body pc front _ has) (λ v r. go (known v) r)
          (λ v over u' ext'' keeps' holds.
          subst (λ n. Runs (run p m inputs) catcher some f callers end (state_at f n callers over u') (go (known v) u')) (sym ends)
          (next (known v) over u' ext'' (keeps_then i store more over keeps (keeps_fewer i (i + uses c e) more over (omega arith) keeps'))
          (holds_result v (i + uses c (prefixed u e)) _ over (omega (arith, runs.apply_takes u)) holds))))
        where
          front : List PureNumberedCommand
          front = code c e pc at i

          back : List PureNumberedCommand
          back = c.apply u (pc + length front) at (i + uses c e) (result c e i)

          ends : pc + length front + length back ≡ pc + length (code c (prefixed u e) pc at i)
          ends = omega (arith, length-append front back)
      operand_leaves (joined op d e) pc at i names has store s go ext next =
          operand_leaves d pc at i parts.0 (has_front q.body pc left _ has) store s _ ext
          (λ a more t ext' keeps stands.
          operand_leaves e pc1 at (i + uses c d) parts.1 (has_front q.body pc1 right _ rest) more t _ ext'
          (λ b over r ext'' keeps' stands'.
          runs.joins op (pc1 + length right) at (i + uses c d + uses c e) a b (result c d i) (result c e (i + uses c d)) over r ext''
          (stands_on a (result c d i) (i + uses c d) (i + uses c d + uses c e) more over (omega arith) keeps' stands) stands'
          (has_back q.body pc1 right _ rest) (λ v w. go (known v) w)
          (λ v all w ext3 keeps3 holds.
          subst (λ n. Runs (run p m inputs) catcher some f callers end (state_at f n callers all w) (go (known v) w)) (sym ends)
          (next (known v) all w ext3
          (keeps_then i store more all keeps (keeps_then i more over all (keeps_fewer i (i + uses c d) more over (omega arith) keeps')
          (keeps_fewer i (i + uses c d + uses c e) over all (omega arith) keeps3)))
          (holds_result v (i + uses c (joined op d e)) _ all (omega (arith, runs.join_takes op)) holds)))))
        where
          parts : (is_source_expression d ≡ true) × (is_source_expression e ≡ true)
          parts = and_parts (is_source_expression d) (is_source_expression e) names

          left : List PureNumberedCommand
          left = code c d pc at i

          pc1 : ℕ
          pc1 = pc + length left

          right : List PureNumberedCommand
          right = code c e pc1 at (i + uses c d)

          back : List PureNumberedCommand
          back = c.join op (pc1 + length right) at (i + uses c d + uses c e) (result c d i) (result c e (i + uses c d))

          rest : HasAt q.body pc1 (right ++ back)
          rest = has_back q.body pc left (right ++ back) has

          ends : pc1 + length right + length back ≡ pc + length (code c (joined op d e) pc at i)
          ends = omega (arith, length-append left (right ++ back), length-append right back)
      operand_leaves (skipping o d e) pc at i names has store s go ext next =
          operand_leaves d pc at i parts.0 (has_front q.body pc left _ has) store s _ ext
          (λ a more t ext' keeps stands.
          runs.skips o pc1 at (i + uses c d) (uses c e) a (result c d i) (result c e (right_from c.early (i + uses c d))) right
          (λ r rest. operand k e (Here f at) r rest) more t ext' stands (has_back q.body pc left _ has)
          (λ at_right. operand_leaves e (pc1 + c.decide_size o) at (right_from c.early (i + uses c d)) parts.1 at_right)
          (λ v r. go (known v) r)
          (λ v all w ext3 keeps3 holds.
          subst (λ n. Runs (run p m inputs) catcher some f callers end (state_at f n callers all w) (go (known v) w)) (sym ends)
          (next (known v) all w ext3 (keeps_then i store more all keeps (keeps_fewer i (i + uses c d) more all (omega arith) keeps3))
          (holds_result v (i + uses c (skipping o d e)) _ all (omega (arith, below_taken (i + uses c d) (uses c e))) holds))))
        where
          parts : (is_source_expression d ≡ true) × (is_source_expression e ≡ true)
          parts = and_parts (is_source_expression d) (is_source_expression e) names

          left : List PureNumberedCommand
          left = code c d pc at i

          pc1 : ℕ
          pc1 = pc + length left

          right : ℕ → List PureNumberedCommand
          right n = code c e n at (right_from c.early (i + uses c d))

          back : List PureNumberedCommand
          back = skip_code c o pc1 at (taken c.early (i + uses c d) (right_from c.early (i + uses c d) + uses c e)) (result c d i)
              (result c e (right_from c.early (i + uses c d))) right

          ends : pc1 + length back ≡ pc + length (code c (skipping o d e) pc at i)
          ends = omega (arith, length-append left back)

      -- several expressions, from left to right
      pub operands_leave : (es : List (PureExpression P J)) (pc at i : ℕ) → list_all is_source_expression es ≡ true
          → HasAt q.body pc (all_code c es pc at i)
          → LeavesAll pc (pc + length (all_code c es pc at i)) i (i + all_uses c es) (results c es i) (λ s go. all_operands k es (Here f at) s go)
      operands_leave [] pc at i names has store s go ext next =
          subst (λ n. Runs (run p m inputs) catcher some f callers end (state_at f n callers store s) (go [] s)) (omega arith)
          (next [] store s ext (keeps_itself i store) tt)
      operands_leave (e ∷ es) pc at i names has store s go ext next =
          operand_leaves e pc at i parts.0 (has_front q.body pc front _ has) store s _ ext
          (λ a more t ext' keeps stands.
          operands_leave es pc1 at (i + uses c e) parts.1 (has_back q.body pc front _ has) more t (λ rest r. go (a ∷ rest) r) ext'
          (λ rest over r ext'' keeps' stand.
          subst (λ n. Runs (run p m inputs) catcher some f callers end (state_at f n callers over r) (go (a ∷ rest) r)) (sym ends)
          (next (a ∷ rest) over r ext''
          (keeps_then i store more over keeps (keeps_fewer i (i + uses c e) more over (omega arith) keeps'))
          (stands_on a (result c e i) (i + uses c e) (i + all_uses c (e ∷ es)) more over (omega arith) keeps' stands, further rest over stand))))
        where
          parts : (is_source_expression e ≡ true) × (list_all is_source_expression es ≡ true)
          parts = and_parts (is_source_expression e) (list_all is_source_expression es) names

          front : List PureNumberedCommand
          front = code c e pc at i

          pc1 : ℕ
          pc1 = pc + length front

          back : List PureNumberedCommand
          back = all_code c es pc1 at (i + uses c e)

          ends : pc1 + length back ≡ pc + length (all_code c (e ∷ es) pc at i)
          ends = omega (arith, length-append front back)

          further : (rest : List Operand) (over : Store) → AllStand rest (results c es (i + uses c e)) (i + uses c e + all_uses c es) over
              → AllStand rest (results c es (i + uses c e)) (i + all_uses c (e ∷ es)) over
          further rest over stand = subst (λ n. AllStand rest (results c es (i + uses c e)) n over) (omega arith) stand
