-- An expression has as many commands wherever they stand, where its operators do.
use Rattle.std.proofs.Common.{◌≡◌, ℕ, ◌+◌, List, [], ◌∷◌, ◌++◌, length, refl, arith, length-append}
use Rattle.gil_syntax.specs.Pure.{PureExpr, PureNumberedCommand}
use Rattle.source_operators.specs.declared.trees.Connective.{Connective}
use Rattle.source_operators.specs.Pure.{PureExpression, constant, variable, brackets, prefixed, joined, skipping}
use Rattle.source_operators.specs.Codes.{Codes, right_from, taken, uses, result, code, skip_code, all_code}

module _ {P J : Type 0} (c : Codes P J) where
  -- what is to be shown of each operator of a language
  pub record OperatorsLong : Type 0 where
    pub applies : (u : P) (pc at i : ℕ) (e : PureExpr) → length (c.apply u pc at i e) ≡ length (c.apply u 0 0 i e)
    pub joins : (j : J) (pc at i : ℕ) (d e : PureExpr) → length (c.join j pc at i d e) ≡ length (c.join j 0 0 i d e)
    pub decide_long : (o : Connective) (pc at t n : ℕ) (e : PureExpr) → length (c.decide o pc at t n e) ≡ c.decide_size o
    pub concludes : (o : Connective) (pc at t : ℕ) (e : PureExpr) → length (c.conclude o pc at t e) ≡ length (c.conclude o 0 0 t e)

  module _ (long : OperatorsLong) where
    skip-long : (o : Connective) (pc at t : ℕ) (a b : PureExpr) (right : ℕ → List PureNumberedCommand) (n : ℕ) → ((l : ℕ) → length (right l) ≡ n)
        → length (skip_code c o pc at t a b right) ≡ c.decide_size o + n + length (c.conclude o 0 0 t b)
    skip-long o pc at t a b right n same =
        let start = pc + c.decide_size o in
        let back = c.conclude o (start + length (right start)) at t b in
        omega (
          arith,
          length-append (c.decide o pc at t (length (right start)) a) (right start ++ back),
          length-append (right start) back,
          long.decide_long o pc at t (length (right start)) a,
          long.concludes o (start + length (right start)) at t b,
          same start,
        )

    -- the same of two operands, from what they have each
    abbrev AreLong : PureExpression P J → ℕ → Type 0
    AreLong e i = (pc at : ℕ) → length (code c e pc at i) ≡ length (code c e 0 0 i)

    joined-long : (j : J) (d e : PureExpression P J) (i : ℕ) → AreLong d i → AreLong e (i + uses c d) → (pc at : ℕ)
        → length (code c (joined j d e) pc at i)
        ≡ length (code c d 0 0 i) + length (code c e 0 0 (i + uses c d)) + length (c.join j 0 0 (i + uses c d + uses c e) (result c d i) (result c e (i + uses c d)))
    joined-long j d e i first second pc at =
        let left = code c d pc at i in
        let right = code c e (pc + length left) at (i + uses c d) in
        let back = c.join j (pc + length left + length right) at (i + uses c d + uses c e) (result c d i) (result c e (i + uses c d)) in
        omega (
          arith,
          length-append left (right ++ back),
          length-append right back,
          first pc at,
          second (pc + length left) at,
          long.joins j (pc + length left + length right) at (i + uses c d + uses c e) (result c d i) (result c e (i + uses c d)),
        )

    skipping-long : (o : Connective) (d e : PureExpression P J) (i from t : ℕ) → AreLong d i → AreLong e from → (pc at : ℕ)
        → length (code c d pc at i ++ skip_code c o (pc + length (code c d pc at i)) at t (result c d i) (result c e from) (λ n. code c e n at from))
        ≡ length (code c d 0 0 i) + (c.decide_size o + length (code c e 0 0 from) + length (c.conclude o 0 0 t (result c e from)))
    skipping-long o d e i from t first second pc at =
        let left = code c d pc at i in
        omega (
          arith,
          length-append left (skip_code c o (pc + length left) at t (result c d i) (result c e from) (λ n. code c e n at from)),
          first pc at,
          skip-long o (pc + length left) at t (result c d i) (result c e from) (λ n. code c e n at from) (length (code c e 0 0 from)) (λ n. second n at),
        )

    pub operand-long : (e : PureExpression P J) (pc at i : ℕ) → length (code c e pc at i) ≡ length (code c e 0 0 i)
    operand-long (constant v) pc at i = refl
    operand-long (variable x) pc at i = refl
    operand-long (brackets e) pc at i = operand-long e pc at i
    operand-long (prefixed u e) pc at i =
        omega (
          arith,
          length-append (code c e pc at i) (c.apply u (pc + length (code c e pc at i)) at (i + uses c e) (result c e i)),
          length-append (code c e 0 0 i) (c.apply u (0 + length (code c e 0 0 i)) 0 (i + uses c e) (result c e i)),
          operand-long e pc at i,
          long.applies u (pc + length (code c e pc at i)) at (i + uses c e) (result c e i),
          long.applies u (0 + length (code c e 0 0 i)) 0 (i + uses c e) (result c e i),
        )
    operand-long (joined j d e) pc at i =
        let whole = joined-long j d e i (λ n k. operand-long d n k i) (λ n k. operand-long e n k (i + uses c d)) in
        omega (arith, whole pc at, whole 0 0)
    operand-long (skipping o d e) pc at i =
        let from = right_from c.early (i + uses c d) in
        let whole = skipping-long o d e i from (taken c.early (i + uses c d) (from + uses c e)) (λ n k. operand-long d n k i) (λ n k. operand-long e n k from) in
        omega (arith, whole pc at, whole 0 0)

    pub operands-long : (es : List (PureExpression P J)) (pc at i : ℕ) → length (all_code c es pc at i) ≡ length (all_code c es 0 0 i)
    operands-long [] pc at i = refl
    operands-long (e ∷ es) pc at i =
        omega (
          arith,
          length-append (code c e pc at i) (all_code c es (pc + length (code c e pc at i)) at (i + uses c e)),
          length-append (code c e 0 0 i) (all_code c es (0 + length (code c e 0 0 i)) 0 (i + uses c e)),
          operand-long e pc at i,
          operands-long es (pc + length (code c e pc at i)) at (i + uses c e),
          operands-long es (0 + length (code c e 0 0 i)) 0 (i + uses c e),
        )
