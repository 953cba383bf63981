-- The GIL program that a While program is compiled to. The commands of a statement have the byte at which it begins as their
-- place; labels are indices of the procedure's commands. Temporaries are numbered anew in each statement, in the order in which
-- they are assigned.
use Rattle.std.specs.Prelude.{ℕ, suc, ◌+◌, List, [], ◌∷◌, ◌++◌, map, length, codes, max, Option, None}
use Rattle.gil_values.specs.Pure.{text, procedure}
use Rattle.gil_syntax.specs.Pure.{PureExpr, literal, name, list_of, from_list, assign, call, act, usym, isym, return, fail, PureNumberedCommand, PureProc, PureParts}
use Rattle.source_language.specs.Compiled.{if_code, while_code, assert_code, assume_code, invariant_code, logic_command}
use Rattle.source_language.specs.Names.{temporary, temporaries_from}
use Rattle.source_language.specs.Procedures as procedures
use Rattle.source_language.specs.Procedures.{placed}
use Rattle.source_language.specs.Pure.{PureInvariant}
use Rattle.while_lang.specs.Pure as while
use Rattle.while_lang.specs.Pure.{PureField, PureStatement, PureBlock, no_statements, statement_and, PureFunction, PureSource}

-- ---- temporaries

-- a new record takes one for each field, one for the record, and one for what is written
abbrev pub field_temporaries : List PureField → ℕ
field_temporaries [] = 1
field_temporaries (field ∷ fields) = suc (length fields) + 2

abbrev mutual
  -- how many temporaries a statement uses, those of its blocks included
  pub statement_temporaries : PureStatement → ℕ
  statement_temporaries (while.new x fields) = field_temporaries fields
  statement_temporaries (while.mutate y p e) = 1
  statement_temporaries (while.dispose e) = 1
  statement_temporaries (while.if_else e on off) = max (block_temporaries on) (block_temporaries off)
  statement_temporaries (while.while e invariant body) = block_temporaries body
  statement_temporaries _ = 0

  pub block_temporaries : PureBlock → ℕ
  block_temporaries no_statements = 0
  block_temporaries (statement_and at c rest) = max (statement_temporaries c) (block_temporaries rest)

-- ---- commands

abbrev pub name_literals : List PureField → List PureExpr
name_literals fields = map (λ field. literal (text field.name)) fields

-- the values of the fields, in temporaries from a number on
abbrev pub field_values_code : ℕ → ℕ → List PureField → List PureNumberedCommand
field_values_code at i [] = []
field_values_code at i (field ∷ fields) = placed at (assign (temporary i) field.value) ∷ field_values_code at (i + 1) fields

-- the fields of the record in a temporary get these values; what is written goes into another temporary
abbrev pub fill_code : ℕ → ℕ → ℕ → ℕ → List PureField → List PureNumberedCommand
fill_code at made written i [] = []
fill_code at made written i (field ∷ fields) =
    placed at (act (temporary written) (codes "mutate") (name (temporary made) ∷ literal (text field.name) ∷ name (temporary i) ∷ []))
    ∷ fill_code at made written (i + 1) fields

abbrev pub new_code : ℕ → List ℕ → List PureField → List PureNumberedCommand
new_code at x fields =
    field_values_code at 0 fields
    ++ (placed at (act (temporary (length fields)) (codes "new") (list_of (from_list (name_literals fields)) ∷ []))
    ∷ (fill_code at (length fields) (length fields + 1) 0 fields
    ++ placed at (assign x (name (temporary (length fields)))) ∷ []))

abbrev pub property : List ℕ → PureExpr
property p = literal (text p)

-- the commands before the test of a loop: its invariant, with the temporaries that its body assigns
abbrev pub head_code : ℕ → Option PureInvariant → PureBlock → List PureNumberedCommand
head_code at invariant body = invariant_code at (temporaries_from 0 (block_temporaries body)) invariant

abbrev mutual
  -- the commands of a statement that stand in their procedure from a place on
  pub statement_code : ℕ → ℕ → PureStatement → List PureNumberedCommand
  statement_code pc at (while.assign x e) = placed at (assign x e) ∷ []
  statement_code pc at (while.input x k) = placed at (isym x k) ∷ []
  statement_code pc at (while.symbol x) = placed at (usym x) ∷ []
  statement_code pc at (while.new x fields) = new_code at x fields
  statement_code pc at (while.lookup x y p) = placed at (act x (codes "lookup") (name y ∷ property p ∷ [])) ∷ []
  statement_code pc at (while.call x f es) = placed at (call x (literal (procedure f)) es None) ∷ []
  statement_code pc at (while.mutate y p e) = placed at (act (temporary 0) (codes "mutate") (name y ∷ property p ∷ e ∷ [])) ∷ []
  statement_code pc at (while.dispose e) = placed at (act (temporary 0) (codes "dispose") (e ∷ [])) ∷ []
  statement_code pc at (while.assert e) = assert_code pc at e
  statement_code pc at (while.assume e) = assume_code pc at e
  statement_code pc at (while.if_else e on off) =
      if_code pc at e (block_code (pc + 1) off) (block_code (pc + 1 + length (block_code (pc + 1) off) + 1) on)
  statement_code pc at (while.while e invariant body) =
      while_code pc at e (head_code at invariant body) (block_code (pc + length (head_code at invariant body) + 1 + 1) body)
  statement_code pc at (while.return e) = placed at (return e) ∷ []
  statement_code pc at (while.fail e) = placed at (fail e) ∷ []
  statement_code pc at (while.logic c) = placed at (logic_command c) ∷ []

  pub block_code : ℕ → PureBlock → List PureNumberedCommand
  block_code pc no_statements = []
  block_code pc (statement_and at c rest) = statement_code pc at c ++ block_code (pc + length (statement_code pc at c)) rest

-- ---- programs

abbrev pub function_names : PureFunction → List (List ℕ)
function_names f = temporaries_from 0 (block_temporaries f.body)

abbrev pub function_code : PureFunction → ℕ → List PureNumberedCommand
function_code f pc = block_code pc f.body

abbrev pub compiled_function : PureFunction → PureProc
compiled_function f = procedures.compiled_function function_names function_code f

abbrev pub compiled : PureSource → PureParts
compiled source = record { procs = map compiled_function source.functions; specs = source.specs; preds = source.preds }
