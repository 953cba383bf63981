-- The jumps of an expression's commands stay within them, where those of its operators do.
use Rattle.std.proofs.Common.{◌≡◌, ℕ, ◌+◌, ◌≤◌, List, [], ◌∷◌, ◌++◌, length, refl, arith, length-append}
use Rattle.gil_syntax.specs.Pure.{PureExpr, PureNumberedCommand}
use Rattle.source_language.proofs.Labels.{Fits, fits_append}
use Rattle.source_operators.specs.declared.trees.Connective.{Connective}
use Rattle.source_operators.specs.Pure.{PureExpression, constant, variable, brackets, prefixed, joined, skipping}
use Rattle.source_operators.specs.Codes.{Codes, right_from, taken, uses, result, code, all_code}

module _ {P J : Type 0} (c : Codes P J) where
  -- what is to be shown of each operator of a language
  pub record OperatorsFit : Type 0 where
    pub applies : (u : P) (n pc at i : ℕ) (e : PureExpr) → pc + length (c.apply u pc at i e) ≤ n → Fits n (c.apply u pc at i e)
    pub joins : (j : J) (n pc at i : ℕ) (d e : PureExpr) → pc + length (c.join j pc at i d e) ≤ n → Fits n (c.join j pc at i d e)
    pub decide_long : (o : Connective) (pc at t n : ℕ) (e : PureExpr) → length (c.decide o pc at t n e) ≡ c.decide_size o
    pub decides : (o : Connective) (n pc at t right : ℕ) (d e : PureExpr)
        → pc + c.decide_size o + right + length (c.conclude o (pc + c.decide_size o + right) at t e) ≤ n
        → Fits n (c.decide o pc at t right d)
    pub concludes : (o : Connective) (n pc at t : ℕ) (e : PureExpr) → pc + length (c.conclude o pc at t e) ≤ n → Fits n (c.conclude o pc at t e)

  module _ (fit : OperatorsFit) where
    pub operand_fits : (e : PureExpression P J) (n pc at i : ℕ) → pc + length (code c e pc at i) ≤ n → Fits n (code c e pc at i)
    operand_fits (constant v) n pc at i le = refl
    operand_fits (variable x) n pc at i le = refl
    operand_fits (brackets e) n pc at i le = operand_fits e n pc at i le
    operand_fits (prefixed u e) n pc at i le =
        fits_append n front back (operand_fits e n pc at i (omega (arith, le, long)))
        (fit.applies u n (pc + length front) at (i + uses c e) (result c e i) (omega (arith, le, long)))
      where
        front : List PureNumberedCommand
        front = code c e pc at i

        back : List PureNumberedCommand
        back = c.apply u (pc + length front) at (i + uses c e) (result c e i)

        long : length (front ++ back) ≡ length front + length back
        long = length-append front back
    operand_fits (joined j d e) n pc at i le =
        fits_append n left (right ++ back) (operand_fits d n pc at i (omega (arith, le, long, longer)))
        (fits_append n right back (operand_fits e n pc1 at (i + uses c d) (omega (arith, le, long, longer)))
        (fit.joins j n (pc1 + length right) at (i + uses c d + uses c e) (result c d i) (result c e (i + uses c d)) (omega (arith, le, long, longer))))
      where
        left : List PureNumberedCommand
        left = code c d pc at i

        pc1 : ℕ
        pc1 = pc + length left

        right : List PureNumberedCommand
        right = code c e pc1 at (i + uses c d)

        back : List PureNumberedCommand
        back = c.join j (pc1 + length right) at (i + uses c d + uses c e) (result c d i) (result c e (i + uses c d))

        long : length (left ++ (right ++ back)) ≡ length left + length (right ++ back)
        long = length-append left (right ++ back)

        longer : length (right ++ back) ≡ length right + length back
        longer = length-append right back
    operand_fits (skipping o d e) n pc at i le =
        fits_append n left (first ++ (right ++ back)) (operand_fits d n pc at i (omega (arith, le, long, longer, longest)))
        (fits_append n first (right ++ back)
        (fit.decides o n pc1 at t (length right) (result c d i) (result c e (right_from c.early (i + uses c d)))
        (omega (arith, le, long, longer, longest, decided)))
        (fits_append n right back (operand_fits e n pc2 at (right_from c.early (i + uses c d)) (omega (arith, le, long, longer, longest, decided)))
        (fit.concludes o n (pc2 + length right) at t (result c e (right_from c.early (i + uses c d))) (omega (arith, le, long, longer, longest, decided)))))
      where
        t : ℕ
        t = taken c.early (i + uses c d) (right_from c.early (i + uses c d) + uses c e)

        left : List PureNumberedCommand
        left = code c d pc at i

        pc1 : ℕ
        pc1 = pc + length left

        pc2 : ℕ
        pc2 = pc1 + c.decide_size o

        right : List PureNumberedCommand
        right = code c e pc2 at (right_from c.early (i + uses c d))

        first : List PureNumberedCommand
        first = c.decide o pc1 at t (length right) (result c d i)

        back : List PureNumberedCommand
        back = c.conclude o (pc2 + length right) at t (result c e (right_from c.early (i + uses c d)))

        decided : length first ≡ c.decide_size o
        decided = fit.decide_long o pc1 at t (length right) (result c d i)

        long : length (left ++ (first ++ (right ++ back))) ≡ length left + length (first ++ (right ++ back))
        long = length-append left (first ++ (right ++ back))

        longer : length (first ++ (right ++ back)) ≡ length first + length (right ++ back)
        longer = length-append first (right ++ back)

        longest : length (right ++ back) ≡ length right + length back
        longest = length-append right back

    pub operands_fit : (es : List (PureExpression P J)) (n pc at i : ℕ) → pc + length (all_code c es pc at i) ≤ n → Fits n (all_code c es pc at i)
    operands_fit [] n pc at i le = refl
    operands_fit (e ∷ es) n pc at i le =
        fits_append n front back (operand_fits e n pc at i (omega (arith, le, long)))
        (operands_fit es n (pc + length front) at (i + uses c e) (omega (arith, le, long)))
      where
        front : List PureNumberedCommand
        front = code c e pc at i

        back : List PureNumberedCommand
        back = all_code c es (pc + length front) at (i + uses c e)

        long : length (front ++ back) ≡ length front + length back
        long = length-append front back
