-- The commands of C-like operators are well made where what stands for their operands is.
use Rattle.std.proofs.Common.{◌≡◌, ℕ, ◌+◌, true, List, [], ◌∷◌, ◌++◌, refl, ◌∙◌}
use Rattle.std.specs.Prelude.{codes}
use Rattle.std.proofs.lemmas.Bool.{and_from}
use Rattle.std.proofs.lemmas.List.Folds.{list_all-append}
use Rattle.gil_values.specs.declared.operators.BinOp.{BinOp}
use Rattle.gil_values.specs.declared.operators.BinOp.TheVariants as gil
use Rattle.gil_values.specs.declared.operators.UnOp.TheVariants as unary
use Rattle.gil_values.specs.Pure.{integer, text}
use Rattle.gil_syntax.specs.Pure.{PureExpr, literal, name, unary_of, binary_of, assign, act, fail, PureNumberedCommand}
use Rattle.gil_syntax.specs.Subexpressions.{subexpressions}
use Rattle.gil_syntax.specs.WellMade.{is_program_name, is_well_made_node, is_well_made_expr, is_well_made_command}
use Rattle.source_language.specs.Code.{truth, jump}
use Rattle.source_language.specs.Names.{temporary}
use Rattle.source_language.specs.Procedures.{null, placed}
use Rattle.source_language.proofs.Made.{AreMade, one_expr, made_append, made_jump}
use Rattle.source_operators.specs.declared.trees.Connective.{Connective}
use Rattle.source_operators.specs.declared.trees.Connective.TheVariants as connectives
use Rattle.source_operators.specs.declared.trees.Operator.{Operator}
use Rattle.source_operators.specs.declared.trees.Operator.TheVariants.{Equal, Unequal, Less, LessOrEqual, Greater, GreaterOrEqual, Add, Subtract, Multiply, Divide, Remainder}
use Rattle.source_operators.proofs.Making.{OperatorsMade}
use Rattle.clike_operators.specs.declared.trees.Prefix.{Prefix}
use Rattle.clike_operators.specs.declared.trees.Prefix.TheVariants.{Minus, Not, Pointee}
use Rattle.clike_operators.specs.declared.trees.Joint.{Joint}
use Rattle.clike_operators.specs.declared.trees.Joint.TheVariants.{Operation, Cell, Address}
use Rattle.clike_operators.specs.declared.pieces.Beyond.{Beyond}
use Rattle.clike_operators.specs.declared.pieces.Beyond.TheVariants.{Overflows, Vanishes}
use Rattle.clike_operators.specs.Codes.{codes_of_operators, number_literal, beyond_command, range_code, false_code, sets, arithmetic_code, choice_code, comparison_code, operation_code, cell_code, address_expr, applied_code, joined_code, decision_code}
use Rattle.clike_operators.specs.Ranges.{greatest, least}

pub binary_made : (op : BinOp) (d e : PureExpr) → is_well_made_expr d ≡ true → is_well_made_expr e ≡ true → is_well_made_expr (binary_of op d e) ≡ true
binary_made op d e h k = list_all-append is_well_made_node (subexpressions d) (subexpressions e) ∙ and_from _ _ h k

beyond-made : (out : Beyond) (at : ℕ) (cs : List PureNumberedCommand) → AreMade cs → AreMade (placed at (beyond_command out) ∷ cs)
beyond-made Overflows at cs h = h
beyond-made Vanishes at cs h = h

pub range_made : (pc at : ℕ) (e : PureExpr) (out : Beyond) → is_well_made_expr e ≡ true → AreMade (range_code pc at e out)
range_made pc at e out h =
    made_jump at (pc + 2) (binary_of gil.LessOrEqual e (literal (integer greatest)))
    (placed at (beyond_command out) ∷ jump at (binary_of gil.LessOrEqual (literal (integer least)) e) (pc + 2 + 2) ∷ placed at (beyond_command out) ∷ []) (binary_made gil.LessOrEqual e (literal (integer greatest)) h refl)
    (beyond-made out at (jump at (binary_of gil.LessOrEqual (literal (integer least)) e) (pc + 2 + 2) ∷ placed at (beyond_command out) ∷ [])
    (made_jump at (pc + 2 + 2) (binary_of gil.LessOrEqual (literal (integer least)) e) (placed at (beyond_command out) ∷ []) (binary_made gil.LessOrEqual (literal (integer least)) e refl h)
    (beyond-made out at [] refl)))

pub false_made : (at label : ℕ) (e : PureExpr) → is_well_made_expr e ≡ true → AreMade (false_code at e label)
false_made at label e h =
    made_jump at label (binary_of gil.Equal e (number_literal 0)) (jump at (binary_of gil.Equal e null) label ∷ []) (binary_made gil.Equal e (number_literal 0) h refl)
    (made_jump at label (binary_of gil.Equal e null) [] (binary_made gil.Equal e null h refl) refl)

sets-made : (at t : ℕ) (e : PureExpr) (cs : List PureNumberedCommand) → is_well_made_expr e ≡ true → AreMade cs → AreMade (sets at t e ∷ cs)
sets-made at t e cs h k = and_from (is_well_made_command (assign (temporary t) e)) _ (one_expr e h) k

arithmetic-made : (op : BinOp) (pc at i : ℕ) (d e : PureExpr) → is_well_made_expr d ≡ true → is_well_made_expr e ≡ true → AreMade (arithmetic_code op pc at i d e)
arithmetic-made op pc at i d e h k =
    sets-made at i (binary_of op d e) (range_code (pc + 1) at (name (temporary i)) Overflows) (binary_made op d e h k) (range_made (pc + 1) at (name (temporary i)) Overflows refl)

comparison-made : (pc at i : ℕ) (e : PureExpr) → is_well_made_expr e ≡ true → AreMade (comparison_code pc at i e)
comparison-made pc at i e h = made_jump at (pc + 3) e (choice_code (pc + 1) at i 0 1) h refl

operation-made : (op : Operator) (pc at i : ℕ) (d e : PureExpr) → is_well_made_expr d ≡ true → is_well_made_expr e ≡ true → AreMade (operation_code op pc at i d e)
operation-made Equal pc at i d e h k = comparison-made pc at i (binary_of gil.Equal d e) (binary_made gil.Equal d e h k)
operation-made Unequal pc at i d e h k = comparison-made pc at i (unary_of unary.Not (binary_of gil.Equal d e)) (binary_made gil.Equal d e h k)
operation-made Less pc at i d e h k = comparison-made pc at i (binary_of gil.Less d e) (binary_made gil.Less d e h k)
operation-made LessOrEqual pc at i d e h k = comparison-made pc at i (binary_of gil.LessOrEqual d e) (binary_made gil.LessOrEqual d e h k)
operation-made Greater pc at i d e h k = comparison-made pc at i (binary_of gil.Less e d) (binary_made gil.Less e d k h)
operation-made GreaterOrEqual pc at i d e h k = comparison-made pc at i (binary_of gil.LessOrEqual e d) (binary_made gil.LessOrEqual e d k h)
operation-made Add pc at i d e h k = arithmetic-made gil.Add pc at i d e h k
operation-made Subtract pc at i d e h k = arithmetic-made gil.Subtract pc at i d e h k
operation-made Multiply pc at i d e h k = arithmetic-made gil.Multiply pc at i d e h k
operation-made Divide pc at i d e h k = arithmetic-made gil.Divide pc at i d e h k
operation-made Remainder pc at i d e h k =
    made_append (arithmetic_code gil.Divide pc at i d e) (sets at (i + 1) (binary_of gil.Remainder d e) ∷ []) (arithmetic-made gil.Divide pc at i d e h k)
    (sets-made at (i + 1) (binary_of gil.Remainder d e) [] (binary_made gil.Remainder d e h k) refl)

pub cell_made : (pc at i : ℕ) (d e : PureExpr) → is_well_made_expr d ≡ true → is_well_made_expr e ≡ true → AreMade (cell_code pc at i d e)
cell_made pc at i d e h k =
    made_jump at (pc + 2) (unary_of unary.Not (binary_of gil.Equal d null))
    (placed at (fail (literal (text (codes "null")))) ∷ sets at i (binary_of gil.Nth d (number_literal 0)) ∷ sets at (i + 1) (binary_of gil.Nth d (number_literal 1)) ∷ sets at (i + 1) (binary_of gil.Add (name (temporary (i + 1))) e) ∷ []) (binary_made gil.Equal d null h refl)
    (sets-made at i (binary_of gil.Nth d (number_literal 0)) (sets at (i + 1) (binary_of gil.Nth d (number_literal 1)) ∷ sets at (i + 1) (binary_of gil.Add (name (temporary (i + 1))) e) ∷ [])
    (binary_made gil.Nth d (number_literal 0) h refl)
    (sets-made at (i + 1) (binary_of gil.Nth d (number_literal 1)) (sets at (i + 1) (binary_of gil.Add (name (temporary (i + 1))) e) ∷ [])
    (binary_made gil.Nth d (number_literal 1) h refl)
    (sets-made at (i + 1) (binary_of gil.Add (name (temporary (i + 1))) e) [] (binary_made gil.Add (name (temporary (i + 1))) e refl k) refl)))

cell-then : (pc at i : ℕ) (d e : PureExpr) (c : PureNumberedCommand) → is_well_made_expr d ≡ true → is_well_made_expr e ≡ true → AreMade (c ∷ [])
    → AreMade (cell_code pc at i d e ++ c ∷ [])
cell-then pc at i d e c h k l = made_append (cell_code pc at i d e) (c ∷ []) (cell_made pc at i d e h k) l

applied-made : (u : Prefix) (pc at i : ℕ) (e : PureExpr) → is_well_made_expr e ≡ true → AreMade (applied_code u pc at i e)
applied-made Minus pc at i e h = arithmetic-made gil.Subtract pc at i (number_literal 0) e refl h
applied-made Not pc at i e h = made_append (false_code at e (pc + 2 + 2)) (choice_code (pc + 2) at i 0 1) (false_made at (pc + 2 + 2) e h) refl
applied-made Pointee pc at i e h =
    cell-then pc at i e (number_literal 0) (placed at (act (temporary (i + 2)) (codes "load") (address_expr i ∷ []))) h refl refl

joined-made : (j : Joint) (pc at i : ℕ) (d e : PureExpr) → is_well_made_expr d ≡ true → is_well_made_expr e ≡ true → AreMade (joined_code j pc at i d e)
joined-made (Operation op) pc at i d e h k = operation-made op pc at i d e h k
joined-made Cell pc at i d e h k = cell-then pc at i d e (placed at (act (temporary (i + 2)) (codes "load") (address_expr i ∷ []))) h k refl
joined-made Address pc at i d e h k = cell-then pc at i d e (sets at (i + 2) (address_expr i)) h k refl

decision-made : (o : Connective) (pc at t n : ℕ) (e : PureExpr) → is_well_made_expr e ≡ true → AreMade (decision_code o pc at t n e)
decision-made connectives.And pc at t n e h = false_made at (pc + 2 + n + 2 + 2) e h
decision-made connectives.Or pc at t n e h = made_append (false_code at e (pc + 3)) (jump at truth (pc + 3 + n + 2) ∷ []) (false_made at (pc + 3) e h) refl

pub operators_made : OperatorsMade codes_of_operators
operators_made = record {
  variables = λ x h. and_from (is_program_name x) true h refl;
  applies = applied-made;
  joins = joined-made;
  decides = decision-made;
  concludes = λ o pc at t e h. made_append (false_code at e (pc + 2 + 2)) (choice_code (pc + 2) at t 1 0) (false_made at (pc + 2 + 2) e h) refl;
}
