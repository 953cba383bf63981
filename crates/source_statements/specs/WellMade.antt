-- Whether what statements hold of names, literals and assertions is well made, from whether expressions and simple statements are.
use Rattle.std.specs.Prelude.{Bool, true, ◌&&◌, Option, Some, None}
use Rattle.std.specs.List.{list_all}
use Rattle.gil_syntax.specs.Pure.{loop_invariant}
use Rattle.gil_syntax.specs.WellMade.{is_program_name, is_well_made_command}
use Rattle.source_language.specs.Compiled.{logic_command}
use Rattle.source_language.specs.Pure.{PureFunction, PureLogic, PureInvariant}
use Rattle.source_statements.specs.Pure.{PureStatement, simple, assert, assume, if_else, while, return, logic, try_catch, PureBlock, no_statements, statement_and}

abbrev pub is_well_made_logic : PureLogic → Bool
is_well_made_logic l = is_well_made_command (logic_command l)

abbrev pub is_well_made_invariant : Option PureInvariant → Bool
is_well_made_invariant None = true
is_well_made_invariant (Some i) = is_well_made_command (loop_invariant i.names i.logicals i.items)

module _ {E S : Type 0} (is_well_made_expression : E → Bool) (is_well_made_simple : S → Bool) where
  abbrev mutual
    pub is_well_made_statement : PureStatement E S → Bool
    is_well_made_statement (simple c) = is_well_made_simple c
    is_well_made_statement (assert e) = is_well_made_expression e
    is_well_made_statement (assume e) = is_well_made_expression e
    is_well_made_statement (if_else e on off) = is_well_made_expression e && (is_well_made_block on && is_well_made_block off)
    is_well_made_statement (while e invariant body) = is_well_made_expression e && (is_well_made_invariant invariant && is_well_made_block body)
    is_well_made_statement (return e) = is_well_made_expression e
    is_well_made_statement (logic l) = is_well_made_logic l
    is_well_made_statement (try_catch body y handler) = is_program_name y && (is_well_made_block body && is_well_made_block handler)

    pub is_well_made_block : PureBlock E S → Bool
    is_well_made_block no_statements = true
    is_well_made_block (statement_and at c rest) = is_well_made_statement c && is_well_made_block rest

  abbrev pub is_well_made_function : PureFunction (PureBlock E S) → Bool
  is_well_made_function f = list_all is_program_name f.params && is_well_made_block f.body
