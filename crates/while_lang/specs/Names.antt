-- Whether a tree names only what a source text can name: no name has a '$', and expressions name no logical variable.
use Rattle.std.specs.Prelude.{Bool, true, ◌&&◌}
use Rattle.std.specs.List.{list_all}
use Rattle.gil_syntax.specs.Pure.{from_list}
use Rattle.source_language.specs.Names.{is_source_name, is_source_expr, are_source_exprs, has_source_invariant}
use Rattle.while_lang.specs.Pure.{PureStatement, assign, input, symbol, new, lookup, call, mutate, dispose, assert, assume, if_else, while, return, fail, logic, PureBlock, no_statements, statement_and, PureFunction}
use Rattle.while_lang.specs.Meaning.{field_values}

abbrev mutual
  pub is_source_statement : PureStatement → Bool
  is_source_statement (assign x e) = is_source_name x && is_source_expr e
  is_source_statement (input x k) = is_source_name x
  is_source_statement (symbol x) = is_source_name x
  is_source_statement (new x fields) = is_source_name x && are_source_exprs (from_list (field_values fields))
  is_source_statement (lookup x y p) = is_source_name x && is_source_name y
  is_source_statement (call x f es) = is_source_name x && are_source_exprs (from_list es)
  is_source_statement (mutate y p e) = is_source_name y && is_source_expr e
  is_source_statement (dispose e) = is_source_expr e
  is_source_statement (assert e) = is_source_expr e
  is_source_statement (assume e) = is_source_expr e
  is_source_statement (if_else e on off) = is_source_expr e && (is_source_block on && is_source_block off)
  is_source_statement (while e invariant body) = is_source_expr e && (has_source_invariant invariant && is_source_block body)
  is_source_statement (return e) = is_source_expr e
  is_source_statement (fail e) = is_source_expr e
  is_source_statement (logic c) = true

  pub is_source_block : PureBlock → Bool
  is_source_block no_statements = true
  is_source_block (statement_and at c rest) = is_source_statement c && is_source_block rest

abbrev pub is_source_function : PureFunction → Bool
is_source_function f = list_all is_source_name f.params && is_source_block f.body
