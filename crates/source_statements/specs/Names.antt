-- Whether statements are such as a source text can spell: they name only what it can name, from whether expressions and simple statements
-- do, and blocks whose throws are handled stand in them only where the language has such.
use Rattle.std.specs.Prelude.{Bool, true, ◌&&◌}
use Rattle.std.specs.List.{list_all}
use Rattle.source_language.specs.Names.{is_source_name, has_source_invariant}
use Rattle.source_language.specs.Pure.{PureFunction}
use Rattle.source_statements.specs.Pure.{PureStatement, simple, assert, assume, if_else, while, return, logic, try_catch, PureBlock, no_statements, statement_and}

module _ {E S : Type 0} (has_try : Bool) (is_source_expression : E → Bool) (is_source_simple : S → Bool) where
  abbrev mutual
    pub is_source_statement : PureStatement E S → Bool
    is_source_statement (simple c) = is_source_simple c
    is_source_statement (assert e) = is_source_expression e
    is_source_statement (assume e) = is_source_expression e
    is_source_statement (if_else e on off) = is_source_expression e && (is_source_block on && is_source_block off)
    is_source_statement (while e invariant body) = is_source_expression e && (has_source_invariant invariant && is_source_block body)
    is_source_statement (return e) = is_source_expression e
    is_source_statement (logic c) = true
    is_source_statement (try_catch body y handler) = has_try && (is_source_name y && (is_source_block body && is_source_block handler))

    pub is_source_block : PureBlock E S → Bool
    is_source_block no_statements = true
    is_source_block (statement_and at c rest) = is_source_statement c && is_source_block rest

  abbrev pub is_source_function : PureFunction (PureBlock E S) → Bool
  is_source_function f = list_all is_source_name f.params && is_source_block f.body
