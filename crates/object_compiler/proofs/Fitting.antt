-- The labels of compiled programs of the object language are within their procedures, and bodies end.
use Rattle.std.proofs.Common.{◌≡◌, ℕ, ◌+◌, ◌≤◌, List, [], ◌∷◌, ◌++◌, Bool, true, false, map, Option, Some, None, length, refl, ap, ◌∙◌, arith, length-append}
use Rattle.std.specs.List.{list_any, list_all}
use Rattle.std.proofs.lemmas.Bool.{and_parts}
use Rattle.std.proofs.lemmas.List.{map_push}
use Rattle.std.proofs.lemmas.List.Folds.{list_any-append}
use Rattle.gil_syntax.specs.declared.validity.InvalidKind.{InvalidKind}
use Rattle.gil_syntax.specs.Pure.{PureExpr, name, assign, PureNumberedCommand, PureProc}
use Rattle.gil_syntax.specs.Valid.{ProgramItem, a_proc, has_bad_label, has_no_end, has_many_commands, IsNamedFault}
use Rattle.gil_syntax.specs.Uncounted.{IsValidButLength}
use Rattle.source_language.specs.Code.{truth}
use Rattle.source_language.specs.Names.{is_source_name, caught}
use Rattle.source_language.specs.Procedures.{placed}
use Rattle.source_language.proofs.Labels as labels
use Rattle.source_language.proofs.Labels.{Fits, neither, fits_append, fits_jump}
use Rattle.source_language.proofs.Validity as validity
use Rattle.source_language.proofs.Validity.{no_function, no_passing_function, short_functions}
use Rattle.source_operators.specs.Codes.{result, results}
use Rattle.source_operators.specs.Names.{is_source_expression}
use Rattle.source_operators.proofs.Fitting.{operand_fits, operands_fit}
use Rattle.source_statements.specs.Compiled.{function_names, block_code}
use Rattle.source_statements.proofs.Fitting as statements
use Rattle.source_statements.proofs.Fitting.{IsWithin, LanguageFits}
use Rattle.source_statements.proofs.Following.{IsHandled}
use Rattle.object_operators.specs.Codes.{codes_of_operators}
use Rattle.object_operators.specs.Library.{get_proc}
use Rattle.object_operators.specs.Pure.{PureExpression}
use Rattle.object_operators.proofs.Fitting.{operators_fit}
use Rattle.object_lang.specs.Names.{is_source_simple, is_source_function}
use Rattle.object_lang.specs.Pure.{PureSimple, assign as assign_statement, input, create, proto, has, call as call_statement, set, delete, set_proto, fail, throw, PureSource}
use Rattle.object_lang.specs.Resolved.{resolved}
use Rattle.object_compiler.specs.Compiled.{object_codes, first_code, first_codes, action_code, call_code, throw_code, simple_code, compiled_function, compiled}
use Rattle.object_compiler.specs.Valid.{IsValidSource, first_too_long}
use Rattle.object_compiler.proofs.Lengths.{same_lengths}
use Rattle.object_compiler.proofs.Names.{resolved_named}

first-fits : (e : PureExpression) (n pc at : ℕ) → pc + length (first_code pc at e) ≤ n → Fits n (first_code pc at e)
first-fits e n pc at le = operand_fits codes_of_operators operators_fit e n pc at 0 le

-- behind one expression, and behind several
behind-one : (e : PureExpression) (back : List PureNumberedCommand) (n pc at : ℕ) → pc + length (first_code pc at e ++ back) ≤ n → Fits n back
    → Fits n (first_code pc at e ++ back)
behind-one e back n pc at le fits =
    fits_append n (first_code pc at e) back (first-fits e n pc at (omega (arith, le, length-append (first_code pc at e) back))) fits

behind-all : (es : List PureExpression) (back : List PureNumberedCommand) (n pc at : ℕ) → pc + length (first_codes pc at es ++ back) ≤ n → Fits n back
    → Fits n (first_codes pc at es ++ back)
behind-all es back n pc at le fits =
    fits_append n (first_codes pc at es) back
    (operands_fit codes_of_operators operators_fit es n pc at 0 (omega (arith, le, length-append (first_codes pc at es) back))) fits

action-fits : (x action : List ℕ) (es : List PureExpression) (n pc at : ℕ) → pc + length (action_code pc at x action es) ≤ n
    → Fits n (action_code pc at x action es)
action-fits x action es n pc at le = behind-all es _ n pc at le refl

call-fits : (h : Option ℕ) (n at : ℕ) (x : List ℕ) (e : PureExpr) (es : List PureExpr) → IsWithin n h → Fits n (call_code h at x (e ∷ es))
call-fits None n at x e es within = refl
call-fits (Some label) n at x e es within = fits_jump n at label truth (placed at (assign x (name caught)) ∷ []) within refl

throw-fits : (h : Option ℕ) (n at : ℕ) (e : PureExpr) → IsWithin n h → Fits n (throw_code h at e)
throw-fits None n at e within = refl
throw-fits (Some label) n at e within = fits_jump n at label truth [] within refl

simple-fits : (h : Option ℕ) → IsHandled true h → (c : PureSimple) (n pc at : ℕ) → IsWithin n h → pc + length (simple_code pc at h c) ≤ n
    → Fits n (simple_code pc at h c)
simple-fits h handled (assign_statement x e) n pc at within le = behind-one e _ n pc at le refl
simple-fits h handled (input x k) n pc at within le = refl
simple-fits h handled (create x e) n pc at within le = action-fits x _ (e ∷ []) n pc at le
simple-fits h handled (proto x e) n pc at within le = action-fits x _ (e ∷ []) n pc at le
simple-fits h handled (has x a b) n pc at within le = action-fits x _ (a ∷ b ∷ []) n pc at le
simple-fits h handled (call_statement x f es) n pc at within le =
    behind-all (f ∷ es) (call_code h at x (results codes_of_operators (f ∷ es) 0)) n pc at le (call-fits h n at x _ _ within)
simple-fits h handled (set a b c) n pc at within le = action-fits _ _ (a ∷ b ∷ c ∷ []) n pc at le
simple-fits h handled (delete a b) n pc at within le = action-fits _ _ (a ∷ b ∷ []) n pc at le
simple-fits h handled (set_proto a b) n pc at within le = action-fits _ _ (a ∷ b ∷ []) n pc at le
simple-fits h handled (fail e) n pc at within le = behind-one e _ n pc at le refl
simple-fits h handled (throw e) n pc at within le =
    behind-one e (throw_code h at (result codes_of_operators e 0)) n pc at le (throw-fits h n at (result codes_of_operators e 0) within)

language_fits : LanguageFits object_codes true
language_fits = record {
  lengths = λ tries. same_lengths;
  fronts = first-fits;
  simples = simple-fits;
}

-- what no procedure has, and not that which reads properties
with_last : (test : ProgramItem → Bool) (ps : List PureProc) → list_any test (map a_proc ps) ≡ false → test (a_proc get_proc) ≡ false
    → list_any test (map a_proc (ps ++ get_proc ∷ [])) ≡ false
with_last test ps none last =
    ap (list_any test) (map_push a_proc ps get_proc)
    ∙ list_any-append test (map a_proc ps) (a_proc get_proc ∷ [])
    ∙ neither _ _ none (neither _ _ last refl)

module _ (source : PureSource) (named : list_all (λ f. is_source_function f) source.functions ≡ true) where
  labels_within : list_any has_bad_label (map a_proc (compiled source).procs) ≡ false
  labels_within =
      with_last has_bad_label (map compiled_function (resolved source).functions)
      (no_passing_function compiled_function has_bad_label (λ f. is_source_function f) (resolved source).functions (resolved_named source named)
      (λ f names. labels.no_bad_label f.name f.params f.at (function_names object_codes f) (λ pc. block_code object_codes None pc f.body)
      (λ n le. statements.block-fits object_codes true is_source_expression is_source_simple language_fits None tt f.body n
      (length (function_names object_codes f))
      (and_parts (list_all is_source_name f.params) _ (and_parts (is_source_name f.name) _ names).1).1 tt le)))
      refl

  bodies_end : list_any has_no_end (map a_proc (compiled source).procs) ≡ false
  bodies_end =
      with_last has_no_end (map compiled_function (resolved source).functions)
      (no_function compiled_function has_no_end (resolved source).functions
      (λ f. labels.has_end f.name f.params f.at (function_names object_codes f) (λ pc. block_code object_codes None pc f.body)))
      refl

  -- no fault of a short program of a source without a fault is named
  pub none_named : IsValidSource source → first_too_long source ≡ None → (kind : InvalidKind) (i : ℕ) → IsNamedFault (compiled source) kind i → ⊥
  none_named valid short =
      validity.none_named (compiled source) labels_within bodies_end valid
      (with_last has_many_commands (map compiled_function (resolved source).functions)
      (short_functions compiled_function (λ f. f.at) (resolved source).functions short) refl)

  -- a source without a fault has a program without one, but for the number of commands
  pub program_is_valid : IsValidSource source → IsValidButLength (compiled source)
  program_is_valid valid = validity.program_is_valid (compiled source) labels_within bodies_end valid
