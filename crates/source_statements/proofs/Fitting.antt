-- The labels of compiled statements are within their procedures, and bodies end, so a compiled program is valid, but for the number of its
-- commands, where its source is.
use Rattle.std.proofs.Common.{◌≡◌, ℕ, ◌+◌, ◌≤◌, List, [], ◌∷◌, ◌++◌, Bool, true, false, not, ◌&&◌, map, Option, Some, None, is_some, length, refl, arith, length-append}
use Rattle.std.specs.Prelude.{codes, max}
use Rattle.std.specs.List.{list_any}
use Rattle.std.specs.List.{list_all}
use Rattle.std.proofs.lemmas.Bool.{and_parts}
use Rattle.gil_values.specs.Pure.{text}
use Rattle.gil_syntax.specs.declared.validity.InvalidKind.{InvalidKind}
use Rattle.gil_syntax.specs.Pure.{PureExpr, literal, name, assign, fail, vanish, return, PureNumberedCommand}
use Rattle.gil_syntax.specs.Valid.{a_proc, has_bad_label, has_no_end, IsNamedFault}
use Rattle.gil_syntax.specs.Uncounted.{IsValidButLength}
use Rattle.source_language.specs.Code.{truth, jump}
use Rattle.source_language.specs.Names.{is_source_name, has_source_invariant, caught, own_names}
use Rattle.source_language.specs.Procedures.{placed}
use Rattle.source_language.specs.Pure.{PureFunction, PureSource}
use Rattle.source_language.specs.Valid.{HasNoSourceFault}
use Rattle.source_language.proofs.Labels as labels
use Rattle.source_language.proofs.Labels.{Fits, fits_append, fits_jump, fits_invariant, fits_logic}
use Rattle.source_language.proofs.Validity as validity
use Rattle.source_language.proofs.Validity.{no_function, no_passing_function, short_functions}
use Rattle.source_statements.specs.Codes.{Codes, jumps_to, behind, inside_label, guarded_code, far_label, choice_code, if_code}
use Rattle.source_statements.specs.Compiled.{head_code, loop_code, handler_label, statement_code, block_code, block_temporaries, block_throws, function_names, compiled_function, compiled, first_too_long}
use Rattle.source_statements.specs.Lengths.{block_length}
use Rattle.source_statements.specs.Names.{is_source_statement, is_source_block, is_source_function}
use Rattle.source_statements.specs.Pure as tree
use Rattle.source_statements.specs.Pure.{PureStatement, PureBlock, no_statements, statement_and}
use Rattle.source_statements.proofs.Following.{IsHandled}
use Rattle.source_statements.proofs.Lengths.{SameLengths, jumps_length, block-long}

pub fits_jumps : (n at label : ℕ) (es : List PureExpr) → label ≤ n → Fits n (jumps_to at es label)
fits_jumps n at label [] le = refl
fits_jumps n at label (e ∷ es) le = fits_jump n at label e (jumps_to at es label) le (fits_jumps n at label es le)

-- where commands fit that are left out, with the commands before them
fits_guarded : (into : Bool) (n pc at : ℕ) (front : List PureNumberedCommand) (es : List PureExpr) (inside : List PureNumberedCommand)
    → pc + length (guarded_code into pc at front es inside) ≤ n → (pc + length front ≤ n → Fits n front)
    → (inside_label into pc front es + length inside ≤ n → Fits n inside) → Fits n (guarded_code into pc at front es inside)
fits_guarded true n pc at front es inside le fits_front fits_inside =
    fits_append n front ((jumping ++ out) ++ inside) (fits_front (omega (arith, le, whole)))
    (fits_append n (jumping ++ out) inside
    (fits_append n jumping out (fits_jumps n at (start + 1) es (omega (arith, le, whole)))
    (fits_jump n at (start + 1 + length inside) truth [] (omega (arith, le, whole)) refl))
    (fits_inside (omega (arith, le, whole))))
  where
    start : ℕ
    start = behind pc front es

    jumping : List PureNumberedCommand
    jumping = jumps_to at es (start + 1)

    out : List PureNumberedCommand
    out = jump at truth (start + 1 + length inside) ∷ []

    whole : length (front ++ ((jumping ++ out) ++ inside)) ≡ length front + length es + 1 + length inside
    whole = omega (arith, length-append front ((jumping ++ out) ++ inside), length-append (jumping ++ out) inside, length-append jumping out, jumps_length at (start + 1) es)
fits_guarded false n pc at front es inside le fits_front fits_inside =
    fits_append n front (jumping ++ inside) (fits_front (omega (arith, le, whole)))
    (fits_append n jumping inside (fits_jumps n at (start + length inside) es (omega (arith, le, whole))) (fits_inside (omega (arith, le, whole))))
  where
    start : ℕ
    start = behind pc front es

    jumping : List PureNumberedCommand
    jumping = jumps_to at es (start + length inside)

    whole : length (front ++ (jumping ++ inside)) ≡ length front + length es + length inside
    whole = omega (arith, length-append front (jumping ++ inside), length-append jumping inside, jumps_length at (start + length inside) es)

fits_choice : (n pc at : ℕ) (front : List PureNumberedCommand) (es : List PureExpr) (near far : List PureNumberedCommand)
    → pc + length (choice_code pc at front es near far) ≤ n → (pc + length front ≤ n → Fits n front)
    → (behind pc front es + length near ≤ n → Fits n near) → (far_label pc front es near + length far ≤ n → Fits n far)
    → Fits n (choice_code pc at front es near far)
fits_choice n pc at front es near far le fits_front fits_near fits_far =
    fits_append n front (jumping ++ sides) (fits_front (omega (arith, le, whole)))
    (fits_append n jumping sides (fits_jumps n at label es (omega (arith, le, whole)))
    (fits_append n near (jump at truth (label + length far) ∷ far) (fits_near (omega (arith, le, whole)))
    (fits_jump n at (label + length far) truth far (omega (arith, le, whole)) (fits_far (omega (arith, le, whole))))))
  where
    label : ℕ
    label = far_label pc front es near

    jumping : List PureNumberedCommand
    jumping = jumps_to at es label

    sides : List PureNumberedCommand
    sides = near ++ (jump at truth (label + length far) ∷ far)

    whole : length (front ++ (jumping ++ sides)) ≡ length front + length es + length near + 1 + length far
    whole = omega (arith, length-append front (jumping ++ sides), length-append jumping sides, length-append near (jump at truth (label + length far) ∷ far), jumps_length at label es)

fits_if : (taken : Bool) (n pc at : ℕ) (front : List PureNumberedCommand) (es : List PureExpr) (on off : ℕ → List PureNumberedCommand)
    → pc + length (if_code taken pc at front es on off) ≤ n → (pc + length front ≤ n → Fits n front)
    → ((k : ℕ) → k + length (on k) ≤ n → Fits n (on k)) → ((k : ℕ) → k + length (off k) ≤ n → Fits n (off k))
    → Fits n (if_code taken pc at front es on off)
fits_if true n pc at front es on off le fits_front fits_on fits_off = fits_choice n pc at front es _ _ le fits_front (fits_off _) (fits_on _)
fits_if false n pc at front es on off le fits_front fits_on fits_off = fits_choice n pc at front es _ _ le fits_front (fits_on _) (fits_off _)

-- ---- statements

-- the label of a handler goes not past a place
abbrev pub IsWithin : ℕ → Option ℕ → Type 0
IsWithin n (Some label) = label ≤ n
IsWithin n None = Unit {0}

-- what is to be shown of the expressions and simple statements of a language
pub record LanguageFits {E S : Type 0} (c : Codes E S) (has_try : Bool) : Type 0 where
  pub lengths : has_try ≡ true → SameLengths c
  pub fronts : (e : E) (n pc at : ℕ) → pc + length (c.front e pc at) ≤ n → Fits n (c.front e pc at)
  pub simples : (h : Option ℕ) → IsHandled has_try h → (x : S) (n pc at : ℕ) → IsWithin n h → pc + length (c.simple_code h pc at x) ≤ n
      → Fits n (c.simple_code h pc at x)

module _ {E S : Type 0} (c : Codes E S) (has_try : Bool) (is_source_expression : E → Bool) (is_source_simple : S → Bool)
    (fits : LanguageFits c has_try) where
  abbrev Named : PureBlock E S → Type 0
  Named b = is_source_block has_try is_source_expression is_source_simple b ≡ true

  mutual
    statement-fits : (h : Option ℕ) → IsHandled has_try h → (x : PureStatement E S) (n pc at : ℕ) → is_source_statement has_try is_source_expression is_source_simple x ≡ true
        → IsWithin n h → pc + length (statement_code c h pc at x) ≤ n → Fits n (statement_code c h pc at x)
    statement-fits h handled (tree.simple x) n pc at names within le = fits.simples h handled x n pc at within le
    statement-fits h handled (tree.assert e) n pc at names within le =
        fits_guarded (not c.where_true) n pc at (c.front e pc at) (c.jumps (c.operand e)) (placed at (fail (literal (text (codes "assert")))) ∷ []) le
        (fits.fronts e n pc at) (λ le'. refl)
    statement-fits h handled (tree.assume e) n pc at names within le =
        fits_guarded (not c.where_true) n pc at (c.front e pc at) (c.jumps (c.operand e)) (placed at vanish ∷ []) le (fits.fronts e n pc at) (λ le'. refl)
    statement-fits h handled (tree.if_else e on off) n pc at names within le =
        fits_if c.where_true n pc at (c.front e pc at) (c.jumps (c.operand e)) (λ k. block_code c h k on) (λ k. block_code c h k off) le (fits.fronts e n pc at)
        (λ k le'. block-fits h handled on n k sides.0 within le') (λ k le'. block-fits h handled off n k sides.1 within le')
      where
        sides : Named on × Named off
        sides = and_parts _ _ (and_parts (is_source_expression e) _ names).1
    statement-fits h handled (tree.while e invariant body) n pc at names within le =
        fits_append n head whole (fits_invariant n at (own_names (max (c.uses e) (block_temporaries c body)) (block_throws c (is_some h) body)) invariant)
        (fits_guarded c.where_true n start at (c.front e start at) (c.jumps (c.operand e)) (code ++ back) (omega (arith, le, length-append head whole))
        (fits.fronts e n start at)
        (λ le'. fits_append n code back (block-fits h handled body n inside named within (omega (arith, le', length-append code back)))
        (fits_jump n at pc truth [] (omega (arith, le)) refl)))
      where
        named : Named body
        named = (and_parts (has_source_invariant invariant) _ (and_parts (is_source_expression e) _ names).1).1

        head : List PureNumberedCommand
        head = head_code c h at e invariant body

        start : ℕ
        start = pc + length head

        inside : ℕ
        inside = inside_label c.where_true start (c.front e start at) (c.jumps (c.operand e))

        code : List PureNumberedCommand
        code = block_code c h inside body

        back : List PureNumberedCommand
        back = jump at truth pc ∷ []

        whole : List PureNumberedCommand
        whole = loop_code c pc at start e (λ k. block_code c h k body)
    statement-fits h handled (tree.return e) n pc at names within le =
        let last = placed at (return (c.operand e)) ∷ [] in
        fits_append n (c.front e pc at) last (fits.fronts e n pc at (omega (arith, le, length-append (c.front e pc at) last))) refl
    statement-fits h handled (tree.logic l) n pc at names within le = fits_logic n at l
    statement-fits h handled (tree.try_catch body y handler) n pc at names within le =
        fits_append n inside _ (block-fits (Some start) parts.0 body n pc sides.0 (omega (arith, le, long, whole)) (omega (arith, le, whole)))
        (fits_jump n at (start + 1 + length rest) truth behind (omega (arith, le, long, whole))
        (fits_append n (placed at (assign y (name caught)) ∷ []) rest refl
        (block-fits h handled handler n (start + 1) sides.1 within (omega (arith, le, long, whole)))))
      where
        start : ℕ
        start = handler_label c pc body

        inside : List PureNumberedCommand
        inside = block_code c (Some start) pc body

        rest : List PureNumberedCommand
        rest = block_code c h (start + 1) handler

        behind : List PureNumberedCommand
        behind = placed at (assign y (name caught)) ∷ rest

        parts : (has_try ≡ true) × ((is_source_name y && (is_source_block has_try is_source_expression is_source_simple body && is_source_block has_try is_source_expression is_source_simple handler)) ≡ true)
        parts = and_parts _ _ names

        sides : Named body × Named handler
        sides = and_parts _ _ (and_parts (is_source_name y) _ parts.1).1

        long : length inside ≡ block_length c body
        long = block-long c (fits.lengths parts.0) body start pc

        whole : length (statement_code c h pc at (tree.try_catch body y handler)) ≡ length inside + 2 + length rest
        whole = omega (arith, length-append inside (jump at truth (start + 1 + length rest) ∷ behind))

    pub block-fits : (h : Option ℕ) → IsHandled has_try h → (b : PureBlock E S) (n pc : ℕ) → Named b → IsWithin n h → pc + length (block_code c h pc b) ≤ n → Fits n (block_code c h pc b)
    block-fits h handled no_statements n pc names within le = refl
    block-fits h handled (statement_and at x rest) n pc names within le =
        let code = statement_code c h pc at x in
        let later = block_code c h (pc + length code) rest in
        let long = length-append code later in
        let parts = and_parts (is_source_statement has_try is_source_expression is_source_simple x) (is_source_block has_try is_source_expression is_source_simple rest) names in
        fits_append n code later (statement-fits h handled x n pc at parts.0 within (omega (arith, le, long)))
        (block-fits h handled rest n (pc + length code) parts.1 within (omega (arith, le, long)))

  module _ (source : PureSource (PureFunction (PureBlock E S)))
      (named : list_all (λ f. is_source_function has_try is_source_expression is_source_simple f) source.functions ≡ true) where
    labels_within : list_any has_bad_label (map a_proc (compiled c source).procs) ≡ false
    labels_within = no_passing_function (compiled_function c) has_bad_label (λ f. is_source_function has_try is_source_expression is_source_simple f) source.functions named
        (λ f names. labels.no_bad_label f.name f.params f.at (function_names c f) (λ pc. block_code c None pc f.body)
        (λ n le. block-fits None tt f.body n (length (function_names c f)) (and_parts (list_all is_source_name f.params) _ names).1 tt le))

    bodies_end : list_any has_no_end (map a_proc (compiled c source).procs) ≡ false
    bodies_end = no_function (compiled_function c) has_no_end source.functions
        (λ f. labels.has_end f.name f.params f.at (function_names c f) (λ pc. block_code c None pc f.body))

    -- no fault of a short program of a source without a fault is named
    pub none_named : HasNoSourceFault (compiled c source) → first_too_long c source.functions ≡ None → (kind : InvalidKind) (i : ℕ)
        → IsNamedFault (compiled c source) kind i → ⊥
    none_named valid short = validity.none_named (compiled c source) labels_within bodies_end valid
        (short_functions (compiled_function c) (λ f. f.at) source.functions short)

    -- a source without a fault has a program without one, but for the number of commands
    pub program_is_valid : HasNoSourceFault (compiled c source) → IsValidButLength (compiled c source)
    program_is_valid valid = validity.program_is_valid (compiled c source) labels_within bodies_end valid
