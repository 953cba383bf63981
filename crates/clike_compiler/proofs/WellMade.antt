-- The program of a C-like source is well made where the names and constants of its trees are those of texts, and what only proofs look at is
-- well made.
use Rattle.std.proofs.Common.{◌≡◌, ℕ, ◌+◌, Bool, true, ◌&&◌, List, [], ◌∷◌, ◌++◌, Option, Some, None, length, refl}
use Rattle.std.specs.Prelude.{codes}
use Rattle.std.specs.List.{list_all}
use Rattle.std.proofs.lemmas.Bool.{and_from, and_parts}
use Rattle.gil_values.specs.declared.kinds.Kind.TheVariants.{Int}
use Rattle.gil_values.specs.declared.operators.BinOp.TheVariants.{Equal}
use Rattle.gil_values.specs.Pure.{procedure}
use Rattle.gil_syntax.specs.Pure.{PureExpr, literal, name, binary_of, assign, call, act, isym, PureNumberedCommand}
use Rattle.gil_syntax.specs.WellMade.{is_program_name, is_well_made_expr, is_well_made_proc}
use Rattle.source_language.specs.Names.{temporary}
use Rattle.source_language.specs.Procedures.{null, placed}
use Rattle.source_language.proofs.Made.{AreMade, made_one, made_append, made_jump, one_expr}
use Rattle.source_operators.specs.Codes.{result, code, all_uses, results, all_code}
use Rattle.source_operators.proofs.Making.{is_made_expression, result_made, operand_made, results_made, operands_made}
use Rattle.source_statements.specs.WellMade as statements
use Rattle.source_statements.proofs.Making.{LanguageMakes, function-makes}
use Rattle.clike_operators.specs.declared.pieces.Beyond.TheVariants.{Vanishes}
use Rattle.clike_operators.specs.Codes.{codes_of_operators, number_literal, range_code, cell_code, address_expr}
use Rattle.clike_operators.proofs.Making.{operators_made, range_made, cell_made, binary_made}
use Rattle.clike_lang.specs.Pure as clike
use Rattle.clike_lang.specs.Pure.{PureSimple, PureFunction}
use Rattle.clike_compiler.specs.Compiled.{clike_codes, compiled_function, false_conditions, expression_uses, target, first_code, free_code, store_code, simple_code}

abbrev is_made_target : Option (List ℕ) → Bool
is_made_target None = true
is_made_target (Some x) = is_program_name x

abbrev pub is_made_simple : PureSimple → Bool
is_made_simple (clike.assign x e) = is_program_name x && is_made_expression e
is_made_simple (clike.input x) = is_program_name x
is_made_simple (clike.malloc x e) = is_program_name x && is_made_expression e
is_made_simple (clike.call x f es) = is_made_target x && list_all is_made_expression es
is_made_simple (clike.free e) = is_made_expression e
is_made_simple (clike.store a b c) = is_made_expression a && (is_made_expression b && is_made_expression c)

abbrev pub is_made_function : PureFunction → Bool
is_made_function f = statements.is_well_made_function is_made_expression is_made_simple f

made_target : (x : Option (List ℕ)) (i : ℕ) → is_made_target x ≡ true → is_program_name (target x i) ≡ true
made_target None i h = refl
made_target (Some x) i h = h

conditions_made : (e : PureExpr) → is_well_made_expr e ≡ true → list_all is_well_made_expr (false_conditions e) ≡ true
conditions_made e h =
    and_from _ _ (binary_made Equal e (number_literal 0) h refl) (and_from _ true (binary_made Equal e null h refl) refl)

made_free : (pc at i : ℕ) (e : PureExpr) → is_well_made_expr e ≡ true → AreMade (free_code pc at i e)
made_free pc at i e h =
    made_jump at (pc + 1 + 1) (binary_of Equal e null) (placed at (act (temporary i) (codes "free") (e ∷ [])) ∷ []) (binary_made Equal e null h refl)
    (made_one at (act (temporary i) (codes "free") (e ∷ [])) (one_expr e h))

made_store : (pc at i : ℕ) (d e v : PureExpr) → is_well_made_expr d ≡ true → is_well_made_expr e ≡ true → is_well_made_expr v ≡ true
    → AreMade (store_code pc at i d e v)
made_store pc at i d e v h k l =
    made_append (cell_code pc at i d e) (placed at (act (temporary (i + 2)) (codes "store") (address_expr i ∷ v ∷ [])) ∷ []) (cell_made pc at i d e h k)
    (made_one at (act (temporary (i + 2)) (codes "store") (address_expr i ∷ v ∷ [])) (one_expr v l))

simple-makes : (c : PureSimple) (pc at : ℕ) → is_made_simple c ≡ true → AreMade (simple_code pc at c)
simple-makes (clike.assign x e) pc at h =
    let parts = and_parts (is_program_name x) (is_made_expression e) h in
    made_append (first_code pc at e) (placed at (assign x (result codes_of_operators e 0)) ∷ []) (operand_made codes_of_operators operators_made e pc at 0 parts.1)
    (made_one at (assign x (result codes_of_operators e 0))
    (and_from (is_program_name x) _ parts.0 (one_expr (result codes_of_operators e 0) (result_made codes_of_operators operators_made e 0 parts.1))))
simple-makes (clike.input x) pc at h =
    made_append (placed at (isym (temporary 0) Int) ∷ []) (range_code (pc + 1) at (name (temporary 0)) Vanishes ++ placed at (assign x (name (temporary 0))) ∷ []) refl
    (made_append (range_code (pc + 1) at (name (temporary 0)) Vanishes) (placed at (assign x (name (temporary 0))) ∷ [])
    (range_made (pc + 1) at (name (temporary 0)) Vanishes refl)
    (made_one at (assign x (name (temporary 0))) (and_from (is_program_name x) _ h refl)))
simple-makes (clike.malloc x e) pc at h =
    let parts = and_parts (is_program_name x) (is_made_expression e) h in
    made_append (first_code pc at e) (placed at (act x (codes "alloc") (result codes_of_operators e 0 ∷ [])) ∷ []) (operand_made codes_of_operators operators_made e pc at 0 parts.1)
    (made_one at (act x (codes "alloc") (result codes_of_operators e 0 ∷ []))
    (and_from (is_program_name x) _ parts.0 (one_expr (result codes_of_operators e 0) (result_made codes_of_operators operators_made e 0 parts.1))))
simple-makes (clike.call x f es) pc at h =
    let parts = and_parts (is_made_target x) (list_all is_made_expression es) h in
    made_append (all_code codes_of_operators es pc at 0)
    (placed at (call (target x (all_uses codes_of_operators es)) (literal (procedure f)) (results codes_of_operators es 0) None) ∷ [])
    (operands_made codes_of_operators operators_made es pc at 0 parts.1)
    (made_one at (call (target x (all_uses codes_of_operators es)) (literal (procedure f)) (results codes_of_operators es 0) None)
    (and_from (is_program_name (target x (all_uses codes_of_operators es))) _ (made_target x (all_uses codes_of_operators es) parts.0)
    (results_made codes_of_operators operators_made es 0 parts.1)))
simple-makes (clike.free e) pc at h =
    made_append (first_code pc at e) (free_code (pc + length (first_code pc at e)) at (expression_uses e) (result codes_of_operators e 0))
    (operand_made codes_of_operators operators_made e pc at 0 h)
    (made_free (pc + length (first_code pc at e)) at (expression_uses e) (result codes_of_operators e 0) (result_made codes_of_operators operators_made e 0 h))
simple-makes (clike.store a b c) pc at h =
    made_append first (second ++ (third ++ back)) (operand_made codes_of_operators operators_made a pc at 0 parts.0)
    (made_append second (third ++ back) (operand_made codes_of_operators operators_made b (pc + length first) at (expression_uses a) sides.0)
    (made_append third back
    (operand_made codes_of_operators operators_made c (pc + length first + length second) at (expression_uses a + expression_uses b) sides.1)
    (made_store (pc + length first + length second + length third) at (expression_uses a + expression_uses b + expression_uses c)
    (result codes_of_operators a 0) (result codes_of_operators b (expression_uses a)) (result codes_of_operators c (expression_uses a + expression_uses b))
    (result_made codes_of_operators operators_made a 0 parts.0)
    (result_made codes_of_operators operators_made b (expression_uses a) sides.0)
    (result_made codes_of_operators operators_made c (expression_uses a + expression_uses b) sides.1))))
  where
    parts : (is_made_expression a ≡ true) × ((is_made_expression b && is_made_expression c) ≡ true)
    parts = and_parts (is_made_expression a) (is_made_expression b && is_made_expression c) h

    sides : (is_made_expression b ≡ true) × (is_made_expression c ≡ true)
    sides = and_parts (is_made_expression b) (is_made_expression c) parts.1

    first : List PureNumberedCommand
    first = first_code pc at a

    second : List PureNumberedCommand
    second = code codes_of_operators b (pc + length first) at (expression_uses a)

    third : List PureNumberedCommand
    third = code codes_of_operators c (pc + length first + length second) at (expression_uses a + expression_uses b)

    back : List PureNumberedCommand
    back = store_code (pc + length first + length second + length third) at (expression_uses a + expression_uses b + expression_uses c)
        (result codes_of_operators a 0) (result codes_of_operators b (expression_uses a)) (result codes_of_operators c (expression_uses a + expression_uses b))

language_makes : LanguageMakes clike_codes is_made_expression is_made_simple
language_makes = record {
  fronts = λ e pc at h. operand_made codes_of_operators operators_made e pc at 0 h;
  operands = λ e h. result_made codes_of_operators operators_made e 0 h;
  jumps = conditions_made;
  simples = λ x handler pc at h. simple-makes x pc at h;
}

-- a function of which this holds is compiled to a well made procedure
pub made_function : (f : PureFunction) → is_made_function f ≡ true → is_well_made_proc (compiled_function f) ≡ true
made_function f h = function-makes clike_codes is_made_expression is_made_simple language_makes f h
