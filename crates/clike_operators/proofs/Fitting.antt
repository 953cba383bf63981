-- The jumps of the commands of C-like operators stay within them.
use Rattle.std.proofs.Common.{◌≡◌, ℕ, ◌+◌, ◌≤◌, List, [], ◌∷◌, ◌++◌, length, refl, arith}
use Rattle.std.specs.Prelude.{codes}
use Rattle.gil_values.specs.declared.operators.BinOp.{BinOp}
use Rattle.gil_values.specs.declared.operators.BinOp.TheVariants as gil
use Rattle.gil_values.specs.declared.operators.UnOp.TheVariants as unary
use Rattle.gil_values.specs.Pure.{integer, text}
use Rattle.gil_syntax.specs.Pure.{PureExpr, literal, name, unary_of, binary_of, act, fail, PureNumberedCommand}
use Rattle.source_language.specs.Code.{truth, jump}
use Rattle.source_language.specs.Names.{temporary}
use Rattle.source_language.specs.Procedures.{null, placed}
use Rattle.source_language.proofs.Labels.{Fits, fits_append, fits_jump}
use Rattle.source_operators.specs.declared.trees.Connective.{Connective}
use Rattle.source_operators.specs.declared.trees.Connective.TheVariants as connectives
use Rattle.source_operators.specs.declared.trees.Operator.{Operator}
use Rattle.source_operators.specs.declared.trees.Operator.TheVariants.{Equal, Unequal, Less, LessOrEqual, Greater, GreaterOrEqual, Add, Subtract, Multiply, Divide, Remainder}
use Rattle.source_operators.proofs.Fitting.{OperatorsFit}
use Rattle.clike_operators.specs.declared.trees.Prefix.{Prefix}
use Rattle.clike_operators.specs.declared.trees.Prefix.TheVariants.{Minus, Not, Pointee}
use Rattle.clike_operators.specs.declared.trees.Joint.{Joint}
use Rattle.clike_operators.specs.declared.trees.Joint.TheVariants.{Operation, Cell, Address}
use Rattle.clike_operators.specs.declared.pieces.Beyond.{Beyond}
use Rattle.clike_operators.specs.declared.pieces.Beyond.TheVariants.{Overflows, Vanishes}
use Rattle.clike_operators.specs.Codes.{codes_of_operators, number_literal, beyond_command, range_code, false_code, sets, arithmetic_code, choice_code, comparison_code, operation_code, cell_code, address_expr, applied_code, joined_code, decision_code, decision_size, conclusion_code}
use Rattle.clike_operators.specs.Ranges.{greatest, least}

beyond-fits : (out : Beyond) (n at : ℕ) (cs : List PureNumberedCommand) → Fits n cs → Fits n (placed at (beyond_command out) ∷ cs)
beyond-fits Overflows n at cs h = h
beyond-fits Vanishes n at cs h = h

pub range_fits : (n pc at : ℕ) (e : PureExpr) (out : Beyond) → pc + length (range_code pc at e out) ≤ n → Fits n (range_code pc at e out)
range_fits n pc at e out le =
    fits_jump n at (pc + 2) (binary_of gil.LessOrEqual e (literal (integer greatest)))
    (placed at (beyond_command out) ∷ jump at (binary_of gil.LessOrEqual (literal (integer least)) e) (pc + 2 + 2) ∷ placed at (beyond_command out) ∷ []) (omega (arith, le))
    (beyond-fits out n at (jump at (binary_of gil.LessOrEqual (literal (integer least)) e) (pc + 2 + 2) ∷ placed at (beyond_command out) ∷ [])
    (fits_jump n at (pc + 2 + 2) (binary_of gil.LessOrEqual (literal (integer least)) e) (placed at (beyond_command out) ∷ []) (omega (arith, le)) (beyond-fits out n at [] refl)))

pub false_fits : (n at label : ℕ) (e : PureExpr) → label ≤ n → Fits n (false_code at e label)
false_fits n at label e le =
    fits_jump n at label (binary_of gil.Equal e (number_literal 0)) (jump at (binary_of gil.Equal e null) label ∷ []) le (fits_jump n at label (binary_of gil.Equal e null) [] le refl)

choice-fits : (n pc at t x y : ℕ) → pc + 3 ≤ n → Fits n (choice_code pc at t x y)
choice-fits n pc at t x y le = fits_jump n at (pc + 1 + 2) truth (sets at t (number_literal y) ∷ []) (omega (arith, le)) refl

arithmetic-fits : (op : BinOp) (n pc at i : ℕ) (d e : PureExpr) → pc + length (arithmetic_code op pc at i d e) ≤ n → Fits n (arithmetic_code op pc at i d e)
arithmetic-fits op n pc at i d e le = range_fits n (pc + 1) at (name (temporary i)) Overflows (omega (arith, le))

comparison-fits : (n pc at i : ℕ) (e : PureExpr) → pc + 4 ≤ n → Fits n (comparison_code pc at i e)
comparison-fits n pc at i e le = fits_jump n at (pc + 3) e (choice_code (pc + 1) at i 0 1) (omega (arith, le)) (choice-fits n (pc + 1) at i 0 1 (omega (arith, le)))

operation-fits : (op : Operator) (n pc at i : ℕ) (d e : PureExpr) → pc + length (operation_code op pc at i d e) ≤ n → Fits n (operation_code op pc at i d e)
operation-fits Equal n pc at i d e le = comparison-fits n pc at i (binary_of gil.Equal d e) (omega (arith, le))
operation-fits Unequal n pc at i d e le = comparison-fits n pc at i (unary_of unary.Not (binary_of gil.Equal d e)) (omega (arith, le))
operation-fits Less n pc at i d e le = comparison-fits n pc at i (binary_of gil.Less d e) (omega (arith, le))
operation-fits LessOrEqual n pc at i d e le = comparison-fits n pc at i (binary_of gil.LessOrEqual d e) (omega (arith, le))
operation-fits Greater n pc at i d e le = comparison-fits n pc at i (binary_of gil.Less e d) (omega (arith, le))
operation-fits GreaterOrEqual n pc at i d e le = comparison-fits n pc at i (binary_of gil.LessOrEqual e d) (omega (arith, le))
operation-fits Add n pc at i d e le = arithmetic-fits gil.Add n pc at i d e le
operation-fits Subtract n pc at i d e le = arithmetic-fits gil.Subtract n pc at i d e le
operation-fits Multiply n pc at i d e le = arithmetic-fits gil.Multiply n pc at i d e le
operation-fits Divide n pc at i d e le = arithmetic-fits gil.Divide n pc at i d e le
operation-fits Remainder n pc at i d e le =
    fits_append n (arithmetic_code gil.Divide pc at i d e) (sets at (i + 1) (binary_of gil.Remainder d e) ∷ [])
    (arithmetic-fits gil.Divide n pc at i d e (omega (arith, le))) refl

pub cell_fits : (n pc at i : ℕ) (d e : PureExpr) → pc + length (cell_code pc at i d e) ≤ n → Fits n (cell_code pc at i d e)
cell_fits n pc at i d e le =
    fits_jump n at (pc + 2) (unary_of unary.Not (binary_of gil.Equal d null))
    (placed at (fail (literal (text (codes "null")))) ∷ sets at i (binary_of gil.Nth d (number_literal 0)) ∷ sets at (i + 1) (binary_of gil.Nth d (number_literal 1)) ∷ sets at (i + 1) (binary_of gil.Add (name (temporary (i + 1))) e) ∷ []) (omega (arith, le)) refl

cell-then : (n pc at i : ℕ) (d e : PureExpr) (c : PureNumberedCommand) → pc + 6 ≤ n → Fits n (c ∷ []) → Fits n (cell_code pc at i d e ++ c ∷ [])
cell-then n pc at i d e c le h = fits_append n (cell_code pc at i d e) (c ∷ []) (cell_fits n pc at i d e (omega (arith, le))) h

applied-fits : (u : Prefix) (n pc at i : ℕ) (e : PureExpr) → pc + length (applied_code u pc at i e) ≤ n → Fits n (applied_code u pc at i e)
applied-fits Minus n pc at i e le = arithmetic-fits gil.Subtract n pc at i (number_literal 0) e le
applied-fits Not n pc at i e le =
    fits_append n (false_code at e (pc + 2 + 2)) (choice_code (pc + 2) at i 0 1) (false_fits n at (pc + 2 + 2) e (omega (arith, le)))
    (choice-fits n (pc + 2) at i 0 1 (omega (arith, le)))
applied-fits Pointee n pc at i e le =
    cell-then n pc at i e (number_literal 0) (placed at (act (temporary (i + 2)) (codes "load") (address_expr i ∷ []))) (omega (arith, le)) refl

joined-fits : (j : Joint) (n pc at i : ℕ) (d e : PureExpr) → pc + length (joined_code j pc at i d e) ≤ n → Fits n (joined_code j pc at i d e)
joined-fits (Operation op) n pc at i d e le = operation-fits op n pc at i d e le
joined-fits Cell n pc at i d e le =
    cell-then n pc at i d e (placed at (act (temporary (i + 2)) (codes "load") (address_expr i ∷ []))) (omega (arith, le)) refl
joined-fits Address n pc at i d e le = cell-then n pc at i d e (sets at (i + 2) (address_expr i)) (omega (arith, le)) refl

decision-long : (o : Connective) (pc at t n : ℕ) (e : PureExpr) → length (decision_code o pc at t n e) ≡ decision_size o
decision-long connectives.And pc at t n e = refl
decision-long connectives.Or pc at t n e = refl

decision-fits : (o : Connective) (n pc at t right : ℕ) (d e : PureExpr)
    → pc + decision_size o + right + length (conclusion_code (pc + decision_size o + right) at t e) ≤ n → Fits n (decision_code o pc at t right d)
decision-fits connectives.And n pc at t right d e le = false_fits n at (pc + 2 + right + 2 + 2) d (omega (arith, le))
decision-fits connectives.Or n pc at t right d e le =
    fits_append n (false_code at d (pc + 3)) (jump at truth (pc + 3 + right + 2) ∷ []) (false_fits n at (pc + 3) d (omega (arith, le)))
    (fits_jump n at (pc + 3 + right + 2) truth [] (omega (arith, le)) refl)

conclusion-fits : (n pc at t : ℕ) (e : PureExpr) → pc + length (conclusion_code pc at t e) ≤ n → Fits n (conclusion_code pc at t e)
conclusion-fits n pc at t e le =
    fits_append n (false_code at e (pc + 2 + 2)) (choice_code (pc + 2) at t 1 0) (false_fits n at (pc + 2 + 2) e (omega (arith, le)))
    (choice-fits n (pc + 2) at t 1 0 (omega (arith, le)))

pub operators_fit : OperatorsFit codes_of_operators
operators_fit = record {
  applies = applied-fits;
  joins = joined-fits;
  decide_long = decision-long;
  decides = decision-fits;
  concludes = λ o n pc at t e le. conclusion-fits n pc at t e le;
}
