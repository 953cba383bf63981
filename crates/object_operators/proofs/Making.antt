-- The commands of the operators are well made where what stands for their operands is.
use Rattle.std.proofs.Common.{◌≡◌, ℕ, ◌+◌, true, false, ◌&&◌, List, [], ◌∷◌, refl, ◌∙◌}
use Rattle.std.specs.Prelude.{None}
use Rattle.std.proofs.lemmas.Bool.{and_from}
use Rattle.std.proofs.lemmas.List.Folds.{list_all-append}
use Rattle.gil_values.specs.declared.operators.BinOp.{BinOp}
use Rattle.gil_values.specs.declared.operators.BinOp.TheVariants as gil
use Rattle.gil_values.specs.declared.operators.UnOp.TheVariants as unary
use Rattle.gil_values.specs.Pure.{boolean, procedure}
use Rattle.gil_syntax.specs.Pure.{PureExpr, literal, unary_of, binary_of, assign, call, PureNumberedCommand}
use Rattle.gil_syntax.specs.Subexpressions.{subexpressions}
use Rattle.gil_syntax.specs.WellMade.{is_program_name, is_well_made_node, is_well_made_expr, is_well_made_command}
use Rattle.source_language.specs.Code.{truth, jump}
use Rattle.source_language.specs.Names.{temporary}
use Rattle.source_language.proofs.Made.{AreMade, one_expr, made_one, made_jump}
use Rattle.source_operators.specs.declared.trees.Connective.{Connective}
use Rattle.source_operators.specs.declared.trees.Connective.TheVariants.{And, Or}
use Rattle.source_operators.specs.declared.trees.Operator.{Operator}
use Rattle.source_operators.specs.declared.trees.Operator.TheVariants.{Equal, Unequal, Less, LessOrEqual, Greater, GreaterOrEqual, Add, Subtract, Multiply, Divide, Remainder}
use Rattle.source_operators.proofs.Making.{OperatorsMade}
use Rattle.object_operators.specs.declared.trees.Prefix.{Prefix}
use Rattle.object_operators.specs.declared.trees.Prefix.TheVariants.{Minus, Not}
use Rattle.object_operators.specs.declared.trees.Joint.{Joint}
use Rattle.object_operators.specs.declared.trees.Joint.TheVariants.{Operation, Property}
use Rattle.object_operators.specs.Codes.{sets, applied_code, joined_code, decision_code, codes_of_operators}
use Rattle.object_operators.specs.Operations.{operation}
use Rattle.object_operators.specs.Walk.{get_name}

binary-made : (op : BinOp) (d e : PureExpr) → is_well_made_expr d ≡ true → is_well_made_expr e ≡ true → is_well_made_expr (binary_of op d e) ≡ true
binary-made op d e h k = list_all-append is_well_made_node (subexpressions d) (subexpressions e) ∙ and_from _ _ h k

operation-made : (op : Operator) (d e : PureExpr) → is_well_made_expr d ≡ true → is_well_made_expr e ≡ true → is_well_made_expr (operation op d e) ≡ true
operation-made Equal d e h k = binary-made gil.Equal d e h k
operation-made Unequal d e h k = binary-made gil.Equal d e h k
operation-made Less d e h k = binary-made gil.Less d e h k
operation-made LessOrEqual d e h k = binary-made gil.LessOrEqual d e h k
operation-made Greater d e h k = binary-made gil.Less e d k h
operation-made GreaterOrEqual d e h k = binary-made gil.LessOrEqual e d k h
operation-made Add d e h k = binary-made gil.Add d e h k
operation-made Subtract d e h k = binary-made gil.Subtract d e h k
operation-made Multiply d e h k = binary-made gil.Multiply d e h k
operation-made Divide d e h k = binary-made gil.Divide d e h k
operation-made Remainder d e h k = binary-made gil.Remainder d e h k

sets-made : (at t : ℕ) (e : PureExpr) (cs : List PureNumberedCommand) → is_well_made_expr e ≡ true → AreMade cs → AreMade (sets at t e ∷ cs)
sets-made at t e cs h k = and_from (is_well_made_command (assign (temporary t) e)) _ (one_expr e h) k

applied-made : (u : Prefix) (at i : ℕ) (e : PureExpr) → is_well_made_expr e ≡ true → AreMade (applied_code u at i e)
applied-made Minus at i e h = sets-made at i (unary_of unary.Neg e) [] h refl
applied-made Not at i e h = sets-made at i (unary_of unary.Not e) [] h refl

joined-made : (j : Joint) (at i : ℕ) (d e : PureExpr) → is_well_made_expr d ≡ true → is_well_made_expr e ≡ true → AreMade (joined_code j at i d e)
joined-made (Operation op) at i d e h k = sets-made at i (operation op d e) [] (operation-made op d e h k) refl
joined-made Property at i d e h k =
    made_one at (call (temporary i) (literal (procedure get_name)) (d ∷ e ∷ []) None)
    (and_from (is_well_made_expr d) (is_well_made_expr e && true) h (and_from (is_well_made_expr e) true k refl))

decision-made : (o : Connective) (pc at t n : ℕ) (e : PureExpr) → is_well_made_expr e ≡ true → AreMade (decision_code o pc at t n e)
decision-made And pc at t n e h =
    made_jump at (pc + 3) e (sets at t (literal (boolean false)) ∷ jump at truth (pc + 3 + n + 1) ∷ []) h refl
decision-made Or pc at t n e h =
    sets-made at t e (jump at e (pc + 2 + n + 1) ∷ []) h (made_jump at (pc + 2 + n + 1) e [] h refl)

pub operators_made : OperatorsMade codes_of_operators
operators_made = record {
  variables = λ x h. and_from (is_program_name x) true h refl;
  applies = λ u pc at i e h. applied-made u at i e h;
  joins = λ j pc at i d e h k. joined-made j at i d e h k;
  decides = decision-made;
  concludes = λ o pc at t e h. sets-made at t e [] h refl;
}
