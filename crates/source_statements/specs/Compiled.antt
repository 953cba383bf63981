-- The commands of statements, and the program that a source is compiled to, over what a language says of the commands of its expressions and
-- simple statements. The commands of a statement have the byte at which it begins as their place; labels are indices of the procedure's
-- commands. Temporaries are numbered anew in each statement.
use Rattle.std.specs.Prelude.{ℕ, ◌+◌, List, [], ◌∷◌, ◌++◌, map, length, Bool, true, false, not, ◌&&◌, ◌||◌, max, codes, Option, Some, None}
use Rattle.std.specs.Option.{is_some}
use Rattle.gil_values.specs.Pure.{text}
use Rattle.gil_syntax.specs.Pure.{literal, fail, vanish, return, PureNumberedCommand, PureProc, PureParts}
use Rattle.source_language.specs.Code.{truth, jump}
use Rattle.source_language.specs.Compiled.{invariant_code, logic_command}
use Rattle.source_language.specs.Limits as limits
use Rattle.source_language.specs.Names.{own_names}
use Rattle.source_language.specs.Procedures as procedures
use Rattle.source_language.specs.Procedures.{placed}
use Rattle.source_language.specs.Pure.{PureFunction, PureSource, PureInvariant}
use Rattle.source_statements.specs.Codes.{Codes, inside_label, guarded_code, if_code, try_code}
use Rattle.source_statements.specs.Lengths.{block_length}
use Rattle.source_statements.specs.Pure as tree
use Rattle.source_statements.specs.Pure.{PureStatement, PureBlock, no_statements, statement_and}

module _ {E S : Type 0} (c : Codes E S) where
  abbrev mutual
    -- how many temporaries a statement uses, those of its blocks included
    pub statement_temporaries : PureStatement E S → ℕ
    statement_temporaries (tree.simple x) = c.simple_uses x
    statement_temporaries (tree.assert e) = c.uses e
    statement_temporaries (tree.assume e) = c.uses e
    statement_temporaries (tree.if_else e on off) = max (c.uses e) (max (block_temporaries on) (block_temporaries off))
    statement_temporaries (tree.while e invariant body) = max (c.uses e) (block_temporaries body)
    statement_temporaries (tree.return e) = c.uses e
    statement_temporaries (tree.logic l) = 0
    statement_temporaries (tree.try_catch body y handler) = max (block_temporaries body) (block_temporaries handler)

    pub block_temporaries : PureBlock E S → ℕ
    block_temporaries no_statements = 0
    block_temporaries (statement_and at x rest) = max (statement_temporaries x) (block_temporaries rest)

  abbrev mutual
    -- whether there is a block in a statement whose throws are handled, at whose handler the variable of thrown values is read
    pub statement_tries : PureStatement E S → Bool
    statement_tries (tree.if_else e on off) = block_tries on || block_tries off
    statement_tries (tree.while e invariant body) = block_tries body
    statement_tries (tree.try_catch body y handler) = true
    statement_tries _ = false

    pub block_tries : PureBlock E S → Bool
    block_tries no_statements = false
    block_tries (statement_and at x rest) = statement_tries x || block_tries rest

  abbrev mutual
    -- whether a statement assigns the variable of thrown values, where throws are handled around it or not
    pub statement_throws : Bool → PureStatement E S → Bool
    statement_throws handled (tree.simple x) = handled && c.may_throw x
    statement_throws handled (tree.if_else e on off) = block_throws handled on || block_throws handled off
    statement_throws handled (tree.while e invariant body) = block_throws handled body
    statement_throws handled (tree.try_catch body y handler) = block_throws true body || block_throws handled handler
    statement_throws handled _ = false

    pub block_throws : Bool → PureBlock E S → Bool
    block_throws handled no_statements = false
    block_throws handled (statement_and at x rest) = statement_throws handled x || block_throws handled rest

  -- the commands before the test of a loop: its invariant, with the names that its test and its body assign besides those of the source
  abbrev pub head_code : Option ℕ → ℕ → E → Option PureInvariant → PureBlock E S → List PureNumberedCommand
  head_code handler at e invariant body =
      invariant_code at (own_names (max (c.uses e) (block_temporaries body)) (block_throws (is_some handler) body)) invariant

  -- the test of a loop, its body and the jump back to a label, from a place on
  abbrev pub loop_code : ℕ → ℕ → ℕ → E → (ℕ → List PureNumberedCommand) → List PureNumberedCommand
  loop_code back at pc e body =
      guarded_code c.where_true pc at (c.front e pc at) (c.jumps (c.operand e))
      (body (inside_label c.where_true pc (c.front e pc at) (c.jumps (c.operand e))) ++ jump at truth back ∷ [])

  -- where a block whose throws are handled stands from a place on, its handler begins behind the jump that follows the block
  abbrev pub handler_label : ℕ → PureBlock E S → ℕ
  handler_label pc body = pc + block_length c body + 1

  abbrev mutual
    -- the commands of a statement that stand in their procedure from a place on, where throws are handled at a label or leave the procedure
    pub statement_code : Option ℕ → ℕ → ℕ → PureStatement E S → List PureNumberedCommand
    statement_code h pc at (tree.simple x) = c.simple_code h pc at x
    statement_code h pc at (tree.assert e) =
        guarded_code (not c.where_true) pc at (c.front e pc at) (c.jumps (c.operand e)) (placed at (fail (literal (text (codes "assert")))) ∷ [])
    statement_code h pc at (tree.assume e) = guarded_code (not c.where_true) pc at (c.front e pc at) (c.jumps (c.operand e)) (placed at vanish ∷ [])
    statement_code h pc at (tree.if_else e on off) =
        if_code c.where_true pc at (c.front e pc at) (c.jumps (c.operand e)) (λ n. block_code h n on) (λ n. block_code h n off)
    statement_code h pc at (tree.while e invariant body) =
        head_code h at e invariant body
        ++ loop_code pc at (pc + length (head_code h at e invariant body)) e (λ n. block_code h n body)
    statement_code h pc at (tree.return e) = c.front e pc at ++ placed at (return (c.operand e)) ∷ []
    statement_code h pc at (tree.logic l) = placed at (logic_command l) ∷ []
    statement_code h pc at (tree.try_catch body y handler) =
        try_code (handler_label pc body + 1 + length (block_code h (handler_label pc body + 1) handler)) at y
        (block_code (Some (handler_label pc body)) pc body) (block_code h (handler_label pc body + 1) handler)

    pub block_code : Option ℕ → ℕ → PureBlock E S → List PureNumberedCommand
    block_code h pc no_statements = []
    block_code h pc (statement_and at x rest) = statement_code h pc at x ++ block_code h (pc + length (statement_code h pc at x)) rest

  -- ---- programs

  -- the names that begin with Null: the temporaries, and the variable of thrown values where it is read
  abbrev pub function_names : PureFunction (PureBlock E S) → List (List ℕ)
  function_names f = own_names (block_temporaries f.body) (block_tries f.body)

  abbrev pub function_code : PureFunction (PureBlock E S) → ℕ → List PureNumberedCommand
  function_code f pc = block_code None pc f.body

  abbrev pub compiled_function : PureFunction (PureBlock E S) → PureProc
  compiled_function f = procedures.compiled_function function_names function_code f

  abbrev pub compiled : PureSource (PureFunction (PureBlock E S)) → PureParts
  compiled source = record { procs = map compiled_function source.functions; specs = source.specs; preds = source.preds }

  -- the byte at which the first function begins that gives more than 1,000 commands
  abbrev pub first_too_long : List (PureFunction (PureBlock E S)) → Option ℕ
  first_too_long functions = limits.first_too_long (λ f. f.at) compiled_function functions
