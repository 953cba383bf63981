-- Well made commands of expressions: where their constants and names are those of texts, and the commands of operators are well made.
use Rattle.std.proofs.Common.{◌≡◌, ℕ, ◌+◌, Bool, true, ◌&&◌, List, [], ◌∷◌, ◌++◌, length, refl}
use Rattle.std.specs.List.{list_all}
use Rattle.std.proofs.lemmas.Bool.{and_from, and_parts}
use Rattle.gil_syntax.specs.Pure.{PureExpr, PureNumberedCommand}
use Rattle.gil_syntax.specs.WellMade.{is_spellable, is_program_name, is_well_made_expr}
use Rattle.source_language.proofs.Made.{AreMade, made_append}
use Rattle.source_operators.specs.declared.trees.Connective.{Connective}
use Rattle.source_operators.specs.Pure.{PureExpression, constant, variable, brackets, prefixed, joined, skipping}
use Rattle.source_operators.specs.Codes.{Codes, right_from, taken, uses, result, code, results, all_code}

module _ {P J : Type 0} where
  -- constants have a spelling, and variables are no logical ones
  abbrev pub is_made_expression : PureExpression P J → Bool
  is_made_expression (constant v) = is_spellable v
  is_made_expression (variable x) = is_program_name x
  is_made_expression (brackets e) = is_made_expression e
  is_made_expression (prefixed u e) = is_made_expression e
  is_made_expression (joined j d e) = is_made_expression d && is_made_expression e
  is_made_expression (skipping c d e) = is_made_expression d && is_made_expression e

module _ {P J : Type 0} (c : Codes P J) where
  -- what is to be shown of each operator of a language
  pub record OperatorsMade : Type 0 where
    pub variables : (x : List ℕ) → is_program_name x ≡ true → is_well_made_expr (c.variable x) ≡ true
    pub applies : (u : P) (pc at i : ℕ) (e : PureExpr) → is_well_made_expr e ≡ true → AreMade (c.apply u pc at i e)
    pub joins : (j : J) (pc at i : ℕ) (d e : PureExpr) → is_well_made_expr d ≡ true → is_well_made_expr e ≡ true → AreMade (c.join j pc at i d e)
    pub decides : (o : Connective) (pc at t n : ℕ) (e : PureExpr) → is_well_made_expr e ≡ true → AreMade (c.decide o pc at t n e)
    pub concludes : (o : Connective) (pc at t : ℕ) (e : PureExpr) → is_well_made_expr e ≡ true → AreMade (c.conclude o pc at t e)

  module _ (made : OperatorsMade) where
    pub result_made : (e : PureExpression P J) (i : ℕ) → is_made_expression e ≡ true → is_well_made_expr (result c e i) ≡ true
    result_made (constant v) i h = and_from _ true h refl
    result_made (variable x) i h = made.variables x h
    result_made (brackets e) i h = result_made e i h
    result_made (prefixed u e) i h = refl
    result_made (joined j d e) i h = refl
    result_made (skipping o d e) i h = refl

    pub operand_made : (e : PureExpression P J) (pc at i : ℕ) → is_made_expression e ≡ true → AreMade (code c e pc at i)
    operand_made (constant v) pc at i h = refl
    operand_made (variable x) pc at i h = refl
    operand_made (brackets e) pc at i h = operand_made e pc at i h
    operand_made (prefixed u e) pc at i h =
        made_append (code c e pc at i) (c.apply u (pc + length (code c e pc at i)) at (i + uses c e) (result c e i)) (operand_made e pc at i h)
        (made.applies u (pc + length (code c e pc at i)) at (i + uses c e) (result c e i) (result_made e i h))
    operand_made (joined j d e) pc at i h =
        made_append left (right ++ back) (operand_made d pc at i parts.0)
        (made_append right back (operand_made e pc1 at (i + uses c d) parts.1)
        (made.joins j (pc1 + length right) at (i + uses c d + uses c e) (result c d i) (result c e (i + uses c d)) (result_made d i parts.0)
        (result_made e (i + uses c d) parts.1)))
      where
        parts : (is_made_expression d ≡ true) × (is_made_expression e ≡ true)
        parts = and_parts (is_made_expression d) (is_made_expression e) h

        left : List PureNumberedCommand
        left = code c d pc at i

        pc1 : ℕ
        pc1 = pc + length left

        right : List PureNumberedCommand
        right = code c e pc1 at (i + uses c d)

        back : List PureNumberedCommand
        back = c.join j (pc1 + length right) at (i + uses c d + uses c e) (result c d i) (result c e (i + uses c d))
    operand_made (skipping o d e) pc at i h =
        made_append left (first ++ (right ++ back)) (operand_made d pc at i parts.0)
        (made_append first (right ++ back) (made.decides o pc1 at t (length right) (result c d i) (result_made d i parts.0))
        (made_append right back (operand_made e pc2 at k parts.1)
        (made.concludes o (pc2 + length right) at t (result c e k) (result_made e k parts.1))))
      where
        parts : (is_made_expression d ≡ true) × (is_made_expression e ≡ true)
        parts = and_parts (is_made_expression d) (is_made_expression e) h

        k : ℕ
        k = right_from c.early (i + uses c d)

        t : ℕ
        t = taken c.early (i + uses c d) (k + uses c e)

        left : List PureNumberedCommand
        left = code c d pc at i

        pc1 : ℕ
        pc1 = pc + length left

        pc2 : ℕ
        pc2 = pc1 + c.decide_size o

        right : List PureNumberedCommand
        right = code c e pc2 at k

        first : List PureNumberedCommand
        first = c.decide o pc1 at t (length right) (result c d i)

        back : List PureNumberedCommand
        back = c.conclude o (pc2 + length right) at t (result c e k)

    pub results_made : (es : List (PureExpression P J)) (i : ℕ) → list_all is_made_expression es ≡ true → list_all is_well_made_expr (results c es i) ≡ true
    results_made [] i h = refl
    results_made (e ∷ es) i h =
        let parts = and_parts (is_made_expression e) (list_all is_made_expression es) h in
        and_from _ _ (result_made e i parts.0) (results_made es (i + uses c e) parts.1)

    pub operands_made : (es : List (PureExpression P J)) (pc at i : ℕ) → list_all is_made_expression es ≡ true → AreMade (all_code c es pc at i)
    operands_made [] pc at i h = refl
    operands_made (e ∷ es) pc at i h =
        let parts = and_parts (is_made_expression e) (list_all is_made_expression es) h in
        made_append (code c e pc at i) (all_code c es (pc + length (code c e pc at i)) at (i + uses c e)) (operand_made e pc at i parts.0)
        (operands_made es (pc + length (code c e pc at i)) at (i + uses c e) parts.1)
