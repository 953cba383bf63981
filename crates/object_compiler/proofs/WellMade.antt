-- The program of a source of the object language is well made where the names and constants of its trees are those of texts, and what only
-- proofs look at is well made.
use Rattle.std.proofs.Common.{◌≡◌, ℕ, Bool, true, false, ◌&&◌, List, [], ◌∷◌, Option, Some, None, map, refl, ◌∙◌}
use Rattle.std.specs.Prelude.{codes}
use Rattle.std.specs.List.{list_all}
use Rattle.std.proofs.lemmas.Bool.{and_from, and_parts}
use Rattle.std.proofs.lemmas.List.Folds.{list_all-append}
use Rattle.gil_syntax.specs.Pure.{PureExpr, name, assign as assign_command, call as call_command, act, isym, fail as fail_command, throw as throw_command}
use Rattle.gil_syntax.specs.WellMade.{is_drawable, is_program_name, is_well_made_expr, is_well_made_proc}
use Rattle.source_language.specs.Code.{truth}
use Rattle.source_language.specs.Names.{caught}
use Rattle.source_language.specs.Procedures.{placed}
use Rattle.source_language.proofs.Made.{AreMade, made_one, made_append, made_jump, one_expr}
use Rattle.source_operators.specs.Codes.{result, results}
use Rattle.source_operators.specs.Pure as trees
use Rattle.source_operators.proofs.Making.{is_made_expression, result_made, operand_made, results_made, operands_made}
use Rattle.source_statements.specs.Pure as tree
use Rattle.source_statements.specs.WellMade as statements
use Rattle.source_statements.proofs.Making.{LanguageMakes, function-makes}
use Rattle.object_operators.specs.Codes.{codes_of_operators}
use Rattle.object_operators.specs.Library.{get_proc}
use Rattle.object_operators.specs.Pure.{PureExpression}
use Rattle.object_operators.proofs.Making.{operators_made}
use Rattle.object_lang.specs.Pure.{PureSimple, assign, input, create, proto, has, call, set, delete, set_proto, fail, throw, PureStatement, PureBlock, PureFunction, PureSource}
use Rattle.object_lang.specs.Resolved.{resolved_expression, resolved_simple, resolved_statement, resolved_block, names_function, resolved_function, resolved}
use Rattle.object_compiler.specs.Compiled.{object_codes, compiled_function, compiled, first_code, first_codes, action_code, call_code, throw_code, simple_code}
use Rattle.object_compiler.proofs.Names.{both, all_kept, chosen}

abbrev pub is_made_simple : PureSimple → Bool
is_made_simple (assign x e) = is_program_name x && is_made_expression e
is_made_simple (input x k) = is_program_name x && is_drawable k
is_made_simple (create x e) = is_program_name x && is_made_expression e
is_made_simple (proto x e) = is_program_name x && is_made_expression e
is_made_simple (has x a b) = is_program_name x && (is_made_expression a && is_made_expression b)
is_made_simple (call x f es) = is_program_name x && (is_made_expression f && list_all is_made_expression es)
is_made_simple (set a b c) = is_made_expression a && (is_made_expression b && is_made_expression c)
is_made_simple (delete a b) = is_made_expression a && is_made_expression b
is_made_simple (set_proto a b) = is_made_expression a && is_made_expression b
is_made_simple (fail e) = is_made_expression e
is_made_simple (throw e) = is_made_expression e

abbrev pub is_made_function : PureFunction → Bool
is_made_function f = statements.is_well_made_function is_made_expression is_made_simple f

-- ---- commands

first_made : (e : PureExpression) (pc at : ℕ) → is_made_expression e ≡ true → AreMade (first_code pc at e)
first_made e pc at h = operand_made codes_of_operators operators_made e pc at 0 h

operand_is_made : (e : PureExpression) → is_made_expression e ≡ true → is_well_made_expr (result codes_of_operators e 0) ≡ true
operand_is_made e h = result_made codes_of_operators operators_made e 0 h

made_action : (x action : List ℕ) (es : List PureExpression) (pc at : ℕ) → is_program_name x ≡ true → list_all is_made_expression es ≡ true
    → AreMade (action_code pc at x action es)
made_action x action es pc at h made =
    made_append (first_codes pc at es) (placed at (act x action (results codes_of_operators es 0)) ∷ [])
    (operands_made codes_of_operators operators_made es pc at 0 made)
    (made_one at (act x action (results codes_of_operators es 0))
    (and_from (is_program_name x) _ h (results_made codes_of_operators operators_made es 0 made)))

made_call : (h : Option ℕ) (at : ℕ) (x : List ℕ) (e : PureExpr) (es : List PureExpr) → is_program_name x ≡ true
    → list_all is_well_made_expr (e ∷ es) ≡ true → AreMade (call_code h at x (e ∷ es))
made_call None at x e es n made = made_one at (call_command x e es None) (and_from (is_program_name x) _ n made)
made_call (Some label) at x e es n made =
    and_from _ _ made (and_from _ true (and_from (is_program_name x) (list_all is_well_made_expr (name caught ∷ [])) n refl) refl)

made_throw : (h : Option ℕ) (at : ℕ) (e : PureExpr) → is_well_made_expr e ≡ true → AreMade (throw_code h at e)
made_throw None at e made = made_one at (throw_command e) (one_expr e made)
made_throw (Some label) at e made = and_from _ _ (one_expr e made) (made_jump at label truth [] refl refl)

two_made : (a b : PureExpression) → (is_made_expression a && is_made_expression b) ≡ true → list_all is_made_expression (a ∷ b ∷ []) ≡ true
two_made a b h =
    let parts = and_parts (is_made_expression a) (is_made_expression b) h in
    and_from (is_made_expression a) (is_made_expression b && true) parts.0 (and_from (is_made_expression b) true parts.1 refl)

three_made : (a b c : PureExpression) → (is_made_expression a && (is_made_expression b && is_made_expression c)) ≡ true
    → list_all is_made_expression (a ∷ b ∷ c ∷ []) ≡ true
three_made a b c h =
    let parts = and_parts (is_made_expression a) (is_made_expression b && is_made_expression c) h in
    and_from (is_made_expression a) (list_all is_made_expression (b ∷ c ∷ [])) parts.0 (two_made b c parts.1)

simple-makes : (c : PureSimple) (h : Option ℕ) (pc at : ℕ) → is_made_simple c ≡ true → AreMade (simple_code pc at h c)
simple-makes (assign x e) h pc at made =
    let parts = and_parts (is_program_name x) (is_made_expression e) made in
    made_append (first_code pc at e) (placed at (assign_command x (result codes_of_operators e 0)) ∷ []) (first_made e pc at parts.1)
    (made_one at (assign_command x (result codes_of_operators e 0))
    (and_from (is_program_name x) _ parts.0 (one_expr (result codes_of_operators e 0) (operand_is_made e parts.1))))
simple-makes (input x k) h pc at made = made_one at (isym x k) (and_from (is_program_name x && is_drawable k) true made refl)
simple-makes (create x e) h pc at made =
    let parts = and_parts (is_program_name x) (is_made_expression e) made in
    made_action x (codes "new") (e ∷ []) pc at parts.0 (and_from (is_made_expression e) true parts.1 refl)
simple-makes (proto x e) h pc at made =
    let parts = and_parts (is_program_name x) (is_made_expression e) made in
    made_action x (codes "getproto") (e ∷ []) pc at parts.0 (and_from (is_made_expression e) true parts.1 refl)
simple-makes (has x a b) h pc at made =
    let parts = and_parts (is_program_name x) (is_made_expression a && is_made_expression b) made in
    made_action x (codes "has") (a ∷ b ∷ []) pc at parts.0 (two_made a b parts.1)
simple-makes (call x f es) h pc at made =
    let parts = and_parts (is_program_name x) (list_all is_made_expression (f ∷ es)) made in
    made_append (first_codes pc at (f ∷ es)) (call_code h at x (results codes_of_operators (f ∷ es) 0))
    (operands_made codes_of_operators operators_made (f ∷ es) pc at 0 parts.1)
    (made_call h at x _ _ parts.0 (results_made codes_of_operators operators_made (f ∷ es) 0 parts.1))
simple-makes (set a b c) h pc at made = made_action _ (codes "set") (a ∷ b ∷ c ∷ []) pc at refl (three_made a b c made)
simple-makes (delete a b) h pc at made = made_action _ (codes "delete") (a ∷ b ∷ []) pc at refl (two_made a b made)
simple-makes (set_proto a b) h pc at made = made_action _ (codes "setproto") (a ∷ b ∷ []) pc at refl (two_made a b made)
simple-makes (fail e) h pc at made =
    made_append (first_code pc at e) (placed at (fail_command (result codes_of_operators e 0)) ∷ []) (first_made e pc at made)
    (made_one at (fail_command (result codes_of_operators e 0)) (one_expr (result codes_of_operators e 0) (operand_is_made e made)))
simple-makes (throw e) h pc at made =
    made_append (first_code pc at e) (throw_code h at (result codes_of_operators e 0)) (first_made e pc at made)
    (made_throw h at (result codes_of_operators e 0) (operand_is_made e made))

language_makes : LanguageMakes object_codes is_made_expression is_made_simple
language_makes = record {
  fronts = first_made;
  operands = operand_is_made;
  jumps = one_expr;
  simples = simple-makes;
}

-- ---- trees whose names are resolved

module _ (is : List ℕ → Bool) where
  made_choice : (b : Bool) (x : List ℕ) → is_program_name x ≡ true → is_made_expression (chosen b x) ≡ true
  made_choice true x h = refl
  made_choice false x h = h

  kept : (e : PureExpression) → is_made_expression e ≡ true → is_made_expression (resolved_expression is e) ≡ true
  kept (trees.constant v) h = h
  kept (trees.variable x) h = made_choice (is x) x h
  kept (trees.brackets e) h = kept e h
  kept (trees.prefixed u e) h = kept e h
  kept (trees.joined j d e) h = both (is_made_expression d) (is_made_expression e) _ _ (kept d) (kept e) h
  kept (trees.skipping c d e) h = both (is_made_expression d) (is_made_expression e) _ _ (kept d) (kept e) h

  simple_kept : (c : PureSimple) → is_made_simple c ≡ true → is_made_simple (resolved_simple is c) ≡ true
  simple_kept (assign x e) h = both (is_program_name x) (is_made_expression e) _ _ (λ n. n) (kept e) h
  simple_kept (input x k) h = h
  simple_kept (create x e) h = both (is_program_name x) (is_made_expression e) _ _ (λ n. n) (kept e) h
  simple_kept (proto x e) h = both (is_program_name x) (is_made_expression e) _ _ (λ n. n) (kept e) h
  simple_kept (has x a b) h =
      both (is_program_name x) (is_made_expression a && is_made_expression b) _ _ (λ n. n)
      (λ k. both (is_made_expression a) (is_made_expression b) _ _ (kept a) (kept b) k) h
  simple_kept (call x f es) h =
      both (is_program_name x) (is_made_expression f && list_all is_made_expression es) _ _ (λ n. n)
      (λ k. both (is_made_expression f) (list_all is_made_expression es) _ _ (kept f) (all_kept is is_made_expression kept es) k) h
  simple_kept (set a b c) h =
      both (is_made_expression a) (is_made_expression b && is_made_expression c) _ _ (kept a)
      (λ k. both (is_made_expression b) (is_made_expression c) _ _ (kept b) (kept c) k) h
  simple_kept (delete a b) h = both (is_made_expression a) (is_made_expression b) _ _ (kept a) (kept b) h
  simple_kept (set_proto a b) h = both (is_made_expression a) (is_made_expression b) _ _ (kept a) (kept b) h
  simple_kept (fail e) h = kept e h
  simple_kept (throw e) h = kept e h

  abbrev IsMade : PureBlock → Bool
  IsMade b = statements.is_well_made_block is_made_expression is_made_simple b

  abbrev IsMadeStatement : PureStatement → Bool
  IsMadeStatement c = statements.is_well_made_statement is_made_expression is_made_simple c

  mutual
    statement_kept : (c : PureStatement) → IsMadeStatement c ≡ true → IsMadeStatement (resolved_statement is c) ≡ true
    statement_kept (tree.simple c) h = simple_kept c h
    statement_kept (tree.assert e) h = kept e h
    statement_kept (tree.assume e) h = kept e h
    statement_kept (tree.if_else e on off) h =
        both (is_made_expression e) (IsMade on && IsMade off) _ _ (kept e)
        (λ k. both (IsMade on) (IsMade off) _ _ (block_kept on) (block_kept off) k) h
    statement_kept (tree.while e invariant body) h =
        both (is_made_expression e) (statements.is_well_made_invariant invariant && IsMade body) _ _ (kept e)
        (λ k. both (statements.is_well_made_invariant invariant) (IsMade body) _ _ (λ n. n) (block_kept body) k) h
    statement_kept (tree.return e) h = kept e h
    statement_kept (tree.logic l) h = h
    statement_kept (tree.try_catch body y handler) h =
        both (is_program_name y) (IsMade body && IsMade handler) _ _ (λ n. n)
        (λ k. both (IsMade body) (IsMade handler) _ _ (block_kept body) (block_kept handler) k) h

    block_kept : (b : PureBlock) → IsMade b ≡ true → IsMade (resolved_block is b) ≡ true
    block_kept tree.no_statements h = h
    block_kept (tree.statement_and at c rest) h = both (IsMadeStatement c) (IsMade rest) _ _ (statement_kept c) (block_kept rest) h

functions_made : (all fs : List PureFunction) → list_all is_made_function fs ≡ true
    → list_all is_well_made_proc (map compiled_function (map (resolved_function all) fs)) ≡ true
functions_made all [] h = refl
functions_made all (f ∷ fs) h =
    both (is_made_function f) (list_all is_made_function fs) _ _
    (λ k. function-makes object_codes is_made_expression is_made_simple language_makes (resolved_function all f)
    (both (list_all is_program_name f.params) (statements.is_well_made_block is_made_expression is_made_simple f.body) _ _ (λ n. n)
    (block_kept (names_function all f) f.body) k))
    (functions_made all fs) h

-- functions of which this holds are compiled to well made procedures, and so is that which reads properties
pub made_procedures : (source : PureSource) → list_all is_made_function source.functions ≡ true → list_all is_well_made_proc (compiled source).procs ≡ true
made_procedures source h =
    list_all-append is_well_made_proc (map compiled_function (resolved source).functions) (get_proc ∷ [])
    ∙ and_from _ true (functions_made source.functions source.functions h) refl
