-- The labels of compiled C-like statements are within their procedures, so a compiled program is valid, but for the number of its commands,
-- where its source is.
use Rattle.std.proofs.Common.{◌≡◌, ℕ, ◌+◌, ◌≤◌, List, [], ◌∷◌, ◌++◌, true, false, None, length, refl, sym, true≢false, arith, length-append}
use Rattle.std.specs.List.{list_all}
use Rattle.std.specs.Prelude.{codes}
use Rattle.gil_values.specs.declared.kinds.Kind.TheVariants.{Int}
use Rattle.gil_values.specs.declared.operators.BinOp.TheVariants.{Equal}
use Rattle.gil_values.specs.Pure.{procedure}
use Rattle.gil_syntax.specs.declared.validity.InvalidKind.{InvalidKind}
use Rattle.gil_syntax.specs.Pure.{PureExpr, literal, name, binary_of, assign, call, act, isym, PureNumberedCommand}
use Rattle.gil_syntax.specs.Valid.{IsNamedFault}
use Rattle.gil_syntax.specs.Uncounted.{IsValidButLength}
use Rattle.source_language.specs.Names.{temporary}
use Rattle.source_language.specs.Procedures.{null, placed}
use Rattle.source_language.proofs.Labels.{Fits, fits_append, fits_jump}
use Rattle.source_operators.specs.Names.{is_source_expression}
use Rattle.source_operators.specs.Codes.{result, code, all_uses, results, all_code}
use Rattle.source_operators.proofs.Fitting.{operand_fits, operands_fit}
use Rattle.source_statements.proofs.Fitting as statements
use Rattle.source_statements.proofs.Fitting.{LanguageFits}
use Rattle.clike_operators.specs.declared.pieces.Beyond.TheVariants.{Vanishes}
use Rattle.clike_operators.specs.Codes.{codes_of_operators, range_code, cell_code, address_expr}
use Rattle.clike_operators.proofs.Fitting.{operators_fit, range_fits, cell_fits}
use Rattle.clike_lang.specs.Names.{is_source_simple, is_source_function}
use Rattle.clike_lang.specs.Pure as clike
use Rattle.clike_lang.specs.Pure.{PureSimple, PureSource}
use Rattle.clike_compiler.specs.Compiled.{clike_codes, compiled, expression_uses, target, first_code, free_code, store_code, simple_code}
use Rattle.clike_compiler.specs.Valid.{IsValidSource, first_too_long}

-- commands of an expression, and one command that is no jump
fits_then : (n pc : ℕ) (front back : List PureNumberedCommand) → pc + length (front ++ back) ≤ n → (pc + length front ≤ n → Fits n front) → Fits n back → Fits n (front ++ back)
fits_then n pc front back le fits_front fits_back = fits_append n front back (fits_front (omega (arith, le, length-append front back))) fits_back

fits_free : (n pc at i : ℕ) (e : PureExpr) → pc + length (free_code pc at i e) ≤ n → Fits n (free_code pc at i e)
fits_free n pc at i e le = fits_jump n at (pc + 1 + 1) (binary_of Equal e null) (placed at (act (temporary i) (codes "free") (e ∷ [])) ∷ []) (omega (arith, le)) refl

fits_store : (n pc at i : ℕ) (d e v : PureExpr) → pc + length (store_code pc at i d e v) ≤ n → Fits n (store_code pc at i d e v)
fits_store n pc at i d e v le =
    fits_then n pc (cell_code pc at i d e) (placed at (act (temporary (i + 2)) (codes "store") (address_expr i ∷ v ∷ [])) ∷ []) le
    (cell_fits n pc at i d e) refl

simple-fits : (c : PureSimple) (n pc at : ℕ) → pc + length (simple_code pc at c) ≤ n → Fits n (simple_code pc at c)
simple-fits (clike.assign x e) n pc at le =
    fits_then n pc (first_code pc at e) (placed at (assign x (result codes_of_operators e 0)) ∷ []) le
    (operand_fits codes_of_operators operators_fit e n pc at 0) refl
simple-fits (clike.input x) n pc at le =
    fits_append n (placed at (isym (temporary 0) Int) ∷ []) (range ++ last) refl
    (fits_append n range last (range_fits n (pc + 1) at (name (temporary 0)) Vanishes (omega (arith, le))) refl)
  where
    range : List PureNumberedCommand
    range = range_code (pc + 1) at (name (temporary 0)) Vanishes

    last : List PureNumberedCommand
    last = placed at (assign x (name (temporary 0))) ∷ []
simple-fits (clike.malloc x e) n pc at le =
    fits_then n pc (first_code pc at e) (placed at (act x (codes "alloc") (result codes_of_operators e 0 ∷ [])) ∷ []) le
    (operand_fits codes_of_operators operators_fit e n pc at 0) refl
simple-fits (clike.call x f es) n pc at le =
    fits_then n pc (all_code codes_of_operators es pc at 0)
    (placed at (call (target x (all_uses codes_of_operators es)) (literal (procedure f)) (results codes_of_operators es 0) None) ∷ []) le
    (operands_fit codes_of_operators operators_fit es n pc at 0) refl
simple-fits (clike.free e) n pc at le =
    let back = free_code (pc + length (first_code pc at e)) at (expression_uses e) (result codes_of_operators e 0) in
    fits_then n pc (first_code pc at e) back le (operand_fits codes_of_operators operators_fit e n pc at 0)
    (fits_free n (pc + length (first_code pc at e)) at (expression_uses e) (result codes_of_operators e 0)
    (omega (arith, le, length-append (first_code pc at e) back)))
simple-fits (clike.store a b c) n pc at le =
    fits_append n first (second ++ (third ++ back)) (operand_fits codes_of_operators operators_fit a n pc at 0 (omega (arith, le, long)))
    (fits_append n second (third ++ back)
    (operand_fits codes_of_operators operators_fit b n (pc + length first) at (expression_uses a) (omega (arith, le, long)))
    (fits_append n third back
    (operand_fits codes_of_operators operators_fit c n (pc + length first + length second) at (expression_uses a + expression_uses b) (omega (arith, le, long)))
    (fits_store n (pc + length first + length second + length third) at (expression_uses a + expression_uses b + expression_uses c)
    (result codes_of_operators a 0) (result codes_of_operators b (expression_uses a))
    (result codes_of_operators c (expression_uses a + expression_uses b)) (omega (arith, le, long)))))
  where
    first : List PureNumberedCommand
    first = first_code pc at a

    second : List PureNumberedCommand
    second = code codes_of_operators b (pc + length first) at (expression_uses a)

    third : List PureNumberedCommand
    third = code codes_of_operators c (pc + length first + length second) at (expression_uses a + expression_uses b)

    back : List PureNumberedCommand
    back = store_code (pc + length first + length second + length third) at (expression_uses a + expression_uses b + expression_uses c)
        (result codes_of_operators a 0) (result codes_of_operators b (expression_uses a)) (result codes_of_operators c (expression_uses a + expression_uses b))

    long : length (first ++ (second ++ (third ++ back))) ≡ length first + length second + length third + length back
    long = omega (arith, length-append first (second ++ (third ++ back)), length-append second (third ++ back), length-append third back)

language_fits : LanguageFits clike_codes false
language_fits = record {
  lengths = λ tries. absurd (true≢false (sym tries));
  fronts = λ e n pc at le. operand_fits codes_of_operators operators_fit e n pc at 0 le;
  simples = λ handler handled x n pc at within le. simple-fits x n pc at le;
}

module _ (source : PureSource) (named : list_all (λ f. is_source_function f) source.functions ≡ true) where
  -- no fault of a short program of a source without a fault is named
  pub none_named : IsValidSource source → first_too_long source.functions ≡ None → (kind : InvalidKind) (i : ℕ)
      → IsNamedFault (compiled source) kind i → ⊥
  none_named valid short = statements.none_named clike_codes false is_source_expression is_source_simple language_fits source named valid short

  -- a source without a fault has a program without one, but for the number of commands
  pub program_is_valid : IsValidSource source → IsValidButLength (compiled source)
  program_is_valid valid = statements.program_is_valid clike_codes false is_source_expression is_source_simple language_fits source named valid
