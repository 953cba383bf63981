-- The labels of a compiled program are within and its bodies end, so it is valid, but for the number of its commands, where its source is.
use Rattle.std.proofs.Common.{◌≡◌, ℕ, ◌+◌, ◌≤◌, List, [], ◌∷◌, ◌++◌, map, length, false, None, refl, arith, length-append}
use Rattle.std.specs.Prelude.{codes}
use Rattle.std.specs.List.{list_any}
use Rattle.gil_syntax.specs.declared.validity.InvalidKind.{InvalidKind}
use Rattle.gil_syntax.specs.Pure.{name, assign, act, list_of, from_list, PureNumberedCommand}
use Rattle.gil_syntax.specs.Valid.{a_proc, has_bad_label, has_no_end, IsNamedFault}
use Rattle.gil_syntax.specs.Uncounted.{IsValidButLength}
use Rattle.source_language.specs.Names.{temporaries_from}
use Rattle.source_language.specs.Names.{temporary}
use Rattle.source_language.specs.Procedures.{placed}
use Rattle.source_language.proofs.Labels as labels
use Rattle.source_language.proofs.Labels.{Fits, fits_append, fits_invariant, fits_logic, fits_assert, fits_assume, fits_if, fits_while}
use Rattle.source_language.proofs.Validity as validity
use Rattle.source_language.proofs.Validity.{no_function, short_functions}
use Rattle.while_lang.specs.Pure as while
use Rattle.while_lang.specs.Pure.{PureField, PureStatement, PureBlock, no_statements, statement_and, PureFunction, PureSource}
use Rattle.while_compiler.specs.Compiled.{name_literals, field_values_code, fill_code, head_code, statement_code, block_code, block_temporaries, function_names, compiled_function, compiled}
use Rattle.while_compiler.specs.Valid.{IsValidSource, first_too_long}

fits-values : (n at i : ℕ) (fields : List PureField) → Fits n (field_values_code at i fields)
fits-values n at i [] = refl
fits-values n at i (field ∷ fields) = fits-values n at (i + 1) fields

fits-filling : (n at made written i : ℕ) (fields : List PureField) → Fits n (fill_code at made written i fields)
fits-filling n at made written i [] = refl
fits-filling n at made written i (field ∷ fields) = fits-filling n at made written (i + 1) fields

mutual
  statement-fits : (c : PureStatement) (n pc at : ℕ) → pc + length (statement_code pc at c) ≤ n → Fits n (statement_code pc at c)
  statement-fits (while.assign x e) n pc at le = refl
  statement-fits (while.input x k) n pc at le = refl
  statement-fits (while.symbol x) n pc at le = refl
  statement-fits (while.new x fields) n pc at le =
      fits_append n (field_values_code at 0 fields) (made ∷ (filling ++ last)) (fits-values n at 0 fields)
      (fits_append n filling last (fits-filling n at (length fields) (length fields + 1) 0 fields) refl)
    where
      made : PureNumberedCommand
      made = placed at (act (temporary (length fields)) (codes "new") (list_of (from_list (name_literals fields)) ∷ []))

      filling : List PureNumberedCommand
      filling = fill_code at (length fields) (length fields + 1) 0 fields

      last : List PureNumberedCommand
      last = placed at (assign x (name (temporary (length fields)))) ∷ []
  statement-fits (while.lookup x y p) n pc at le = refl
  statement-fits (while.call x f es) n pc at le = refl
  statement-fits (while.mutate y p e) n pc at le = refl
  statement-fits (while.dispose e) n pc at le = refl
  statement-fits (while.assert e) n pc at le = fits_assert n pc at e le
  statement-fits (while.assume e) n pc at le = fits_assume n pc at e le
  statement-fits (while.if_else e body other) n pc at le =
      let off = block_code (pc + 1) other in
      fits_if n pc at e off (block_code (pc + 1 + length off + 1) body) le (block-fits other n (pc + 1))
      (block-fits body n (pc + 1 + length off + 1))
  statement-fits (while.while e invariant body) n pc at le =
      let front = head_code at invariant body in
      fits_while n pc at e front (block_code (pc + length front + 1 + 1) body) le
      (fits_invariant n at (temporaries_from 0 (block_temporaries body)) invariant) (block-fits body n (pc + length front + 1 + 1))
  statement-fits (while.return e) n pc at le = refl
  statement-fits (while.fail e) n pc at le = refl
  statement-fits (while.logic c) n pc at le = fits_logic n at c

  block-fits : (b : PureBlock) (n pc : ℕ) → pc + length (block_code pc b) ≤ n → Fits n (block_code pc b)
  block-fits no_statements n pc le = refl
  block-fits (statement_and at c rest) n pc le =
      let code = statement_code pc at c in
      let later = block_code (pc + length code) rest in
      let long = length-append code later in
      fits_append n code later (statement-fits c n pc at (omega (arith, le, long)))
      (block-fits rest n (pc + length code) (omega (arith, le, long)))

module _ (source : PureSource) where
  labels_within : list_any has_bad_label (map a_proc (compiled source).procs) ≡ false
  labels_within = no_function compiled_function has_bad_label source.functions
      (λ f. labels.no_bad_label f.name f.params f.at (function_names f) (λ pc. block_code pc f.body)
      (λ n le. block-fits f.body n (length (function_names f)) le))

  bodies_end : list_any has_no_end (map a_proc (compiled source).procs) ≡ false
  bodies_end = no_function compiled_function has_no_end source.functions
      (λ f. labels.has_end f.name f.params f.at (function_names f) (λ pc. block_code pc f.body))

  -- no fault of a short program of a source without a fault is named
  pub none_named : IsValidSource source → first_too_long source.functions ≡ None → (kind : InvalidKind) (i : ℕ)
      → IsNamedFault (compiled source) kind i → ⊥
  none_named valid short = validity.none_named (compiled source) labels_within bodies_end valid
      (short_functions compiled_function (λ f. f.at) source.functions short)

  -- a source without a fault has a program without one, but for the number of commands
  pub program_is_valid : IsValidSource source → IsValidButLength (compiled source)
  program_is_valid valid = validity.program_is_valid (compiled source) labels_within bodies_end valid
