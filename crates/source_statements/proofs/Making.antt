-- The program of statements is well made where their expressions and simple statements have well made commands, and what only proofs look at
-- is well made.
use Rattle.std.proofs.Common.{◌≡◌, ℕ, ◌+◌, true, false, Bool, ◌&&◌, List, [], ◌∷◌, ◌++◌, Option, Some, None, is_some, not, length, refl}
use Rattle.std.specs.Prelude.{codes, max}
use Rattle.std.specs.List.{list_all}
use Rattle.std.proofs.lemmas.Bool.{and_from, and_parts}
use Rattle.gil_values.specs.Pure.{text}
use Rattle.gil_syntax.specs.Pure as gil
use Rattle.gil_syntax.specs.Pure.{PureExpr, literal, fail, vanish, PureNumberedCommand}
use Rattle.gil_syntax.specs.WellMade.{is_program_name, is_well_made_expr, is_well_made_proc}
use Rattle.source_language.specs.Code.{truth, jump}
use Rattle.source_language.specs.Compiled.{invariant_code, logic_command}
use Rattle.source_language.specs.Names.{caught, own_names}
use Rattle.source_language.specs.Procedures.{placed}
use Rattle.source_language.specs.Pure.{PureFunction, PureInvariant}
use Rattle.source_language.proofs.Made.{AreMade, made_one, made_append, made_jump, made_own, made_invariant, made_procedure, one_expr}
use Rattle.source_statements.specs.Codes.{Codes, jumps_to, behind, inside_label, guarded_code, far_label, choice_code, if_code}
use Rattle.source_statements.specs.Compiled.{head_code, loop_code, handler_label, statement_code, block_code, block_temporaries, block_tries, block_throws, function_names, compiled_function}
use Rattle.source_statements.specs.Pure as tree
use Rattle.source_statements.specs.Pure.{PureStatement, PureBlock, no_statements, statement_and}
use Rattle.source_statements.specs.WellMade.{is_well_made_invariant, is_well_made_statement, is_well_made_block, is_well_made_function}

pub made_jumps : (at label : ℕ) (es : List PureExpr) → list_all is_well_made_expr es ≡ true → AreMade (jumps_to at es label)
made_jumps at label [] h = refl
made_jumps at label (e ∷ es) h =
    let parts = and_parts (is_well_made_expr e) (list_all is_well_made_expr es) h in
    made_jump at label e (jumps_to at es label) parts.0 (made_jumps at label es parts.1)

made_guarded : (into : Bool) (pc at : ℕ) (front : List PureNumberedCommand) (es : List PureExpr) (inside : List PureNumberedCommand)
    → AreMade front → list_all is_well_made_expr es ≡ true → AreMade inside → AreMade (guarded_code into pc at front es inside)
made_guarded true pc at front es inside a b d =
    made_append front _ a (made_append (jumps_to at es (behind pc front es + 1) ++ jump at truth (behind pc front es + 1 + length inside) ∷ []) inside
    (made_append (jumps_to at es (behind pc front es + 1)) (jump at truth (behind pc front es + 1 + length inside) ∷ []) (made_jumps at _ es b) refl) d)
made_guarded false pc at front es inside a b d =
    made_append front _ a (made_append (jumps_to at es (behind pc front es + length inside)) inside (made_jumps at _ es b) d)

made_choice : (pc at : ℕ) (front : List PureNumberedCommand) (es : List PureExpr) (near far : List PureNumberedCommand)
    → AreMade front → list_all is_well_made_expr es ≡ true → AreMade near → AreMade far → AreMade (choice_code pc at front es near far)
made_choice pc at front es near far a b d e =
    made_append front _ a (made_append (jumps_to at es (far_label pc front es near)) _ (made_jumps at _ es b)
    (made_append near (jump at truth (far_label pc front es near + length far) ∷ far) d
    (made_jump at (far_label pc front es near + length far) truth far refl e)))

made_if : (taken : Bool) (pc at : ℕ) (front : List PureNumberedCommand) (es : List PureExpr) (on off : ℕ → List PureNumberedCommand)
    → AreMade front → list_all is_well_made_expr es ≡ true → ((n : ℕ) → AreMade (on n)) → ((n : ℕ) → AreMade (off n))
    → AreMade (if_code taken pc at front es on off)
made_if true pc at front es on off a b d e = made_choice pc at front es _ _ a b (e _) (d _)
made_if false pc at front es on off a b d e = made_choice pc at front es _ _ a b (d _) (e _)

made_head : (at n : ℕ) (catches : Bool) (i : Option PureInvariant) → is_well_made_invariant i ≡ true → AreMade (invariant_code at (own_names n catches) i)
made_head at n catches None made = refl
made_head at n catches (Some i) made = made_invariant at i.names (own_names n catches) i.logicals i.items (made_own n catches) made

-- what is to be shown of the expressions and simple statements of a language
pub record LanguageMakes {E S : Type 0} (c : Codes E S) (expression : E → Bool) (simple : S → Bool) : Type 0 where
  pub fronts : (e : E) (pc at : ℕ) → expression e ≡ true → AreMade (c.front e pc at)
  pub operands : (e : E) → expression e ≡ true → is_well_made_expr (c.operand e) ≡ true
  pub jumps : (e : PureExpr) → is_well_made_expr e ≡ true → list_all is_well_made_expr (c.jumps e) ≡ true
  pub simples : (x : S) (h : Option ℕ) (pc at : ℕ) → simple x ≡ true → AreMade (c.simple_code h pc at x)

module _ {E S : Type 0} (c : Codes E S) (expression : E → Bool) (simple : S → Bool) (makes : LanguageMakes c expression simple) where
  mutual
    statement-makes : (x : PureStatement E S) (h : Option ℕ) (pc at : ℕ) → is_well_made_statement expression simple x ≡ true → AreMade (statement_code c h pc at x)
    statement-makes (tree.simple x) h pc at made = makes.simples x h pc at made
    statement-makes (tree.assert e) h pc at made =
        made_guarded (not c.where_true) pc at (c.front e pc at) (c.jumps (c.operand e)) (placed at (fail (literal (text (codes "assert")))) ∷ [])
        (makes.fronts e pc at made) (makes.jumps (c.operand e) (makes.operands e made)) refl
    statement-makes (tree.assume e) h pc at made =
        made_guarded (not c.where_true) pc at (c.front e pc at) (c.jumps (c.operand e)) (placed at vanish ∷ []) (makes.fronts e pc at made) (makes.jumps (c.operand e) (makes.operands e made)) refl
    statement-makes (tree.if_else e on off) h pc at made =
        let parts = and_parts (expression e) (is_well_made_block expression simple on && is_well_made_block expression simple off) made in
        let sides = and_parts (is_well_made_block expression simple on) (is_well_made_block expression simple off) parts.1 in
        made_if c.where_true pc at (c.front e pc at) (c.jumps (c.operand e)) (λ n. block_code c h n on) (λ n. block_code c h n off)
        (makes.fronts e pc at parts.0) (makes.jumps (c.operand e) (makes.operands e parts.0)) (λ n. block-makes on h n sides.0) (λ n. block-makes off h n sides.1)
    statement-makes (tree.while e invariant body) h pc at made =
        let parts = and_parts (expression e) (is_well_made_invariant invariant && is_well_made_block expression simple body) made in
        let inner = and_parts (is_well_made_invariant invariant) (is_well_made_block expression simple body) parts.1 in
        let start = pc + length (head_code c h at e invariant body) in
        made_append (head_code c h at e invariant body) (loop_code c pc at start e (λ n. block_code c h n body))
        (made_head at (max (c.uses e) (block_temporaries c body)) (block_throws c (is_some h) body) invariant inner.0)
        (made_guarded c.where_true start at (c.front e start at) (c.jumps (c.operand e)) _ (makes.fronts e start at parts.0) (makes.jumps (c.operand e) (makes.operands e parts.0))
        (made_append (block_code c h (inside_label c.where_true start (c.front e start at) (c.jumps (c.operand e))) body) (jump at truth pc ∷ []) (block-makes body h _ inner.1) refl))
    statement-makes (tree.return e) h pc at made =
        made_append (c.front e pc at) (placed at (gil.return (c.operand e)) ∷ []) (makes.fronts e pc at made)
        (made_one at (gil.return (c.operand e)) (one_expr (c.operand e) (makes.operands e made)))
    statement-makes (tree.logic l) h pc at made = made_one at (logic_command l) made
    statement-makes (tree.try_catch body y handler) h pc at made =
        let parts = and_parts (is_program_name y) (is_well_made_block expression simple body && is_well_made_block expression simple handler) made in
        let sides = and_parts (is_well_made_block expression simple body) (is_well_made_block expression simple handler) parts.1 in
        let start = handler_label c pc body in
        let rest = block_code c h (start + 1) handler in
        made_append (block_code c (Some start) pc body) _ (block-makes body (Some start) pc sides.0)
        (made_jump at (start + 1 + length rest) truth (placed at (gil.assign y (gil.name caught)) ∷ rest) refl
        (made_append (placed at (gil.assign y (gil.name caught)) ∷ []) rest (made_one at (gil.assign y (gil.name caught)) (and_from _ _ parts.0 refl))
        (block-makes handler h (start + 1) sides.1)))

    pub block-makes : (b : PureBlock E S) (h : Option ℕ) (pc : ℕ) → is_well_made_block expression simple b ≡ true → AreMade (block_code c h pc b)
    block-makes no_statements h pc made = refl
    block-makes (statement_and at x rest) h pc made =
        let parts = and_parts (is_well_made_statement expression simple x) (is_well_made_block expression simple rest) made in
        made_append (statement_code c h pc at x) (block_code c h (pc + length (statement_code c h pc at x)) rest)
        (statement-makes x h pc at parts.0) (block-makes rest h (pc + length (statement_code c h pc at x)) parts.1)

  pub function-makes : (f : PureFunction (PureBlock E S)) → is_well_made_function expression simple f ≡ true → is_well_made_proc (compiled_function c f) ≡ true
  function-makes f h =
      let parts = and_parts (list_all is_program_name f.params) (is_well_made_block expression simple f.body) h in
      made_procedure f.name f.params f.at (function_names c f) (λ pc. block_code c None pc f.body) parts.0
      (made_own (block_temporaries c f.body) (block_tries c f.body)) (block-makes f.body None (length (function_names c f)) parts.1)
