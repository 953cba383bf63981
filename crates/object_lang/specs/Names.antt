-- Whether a tree names only what a source text can name: no name has a '$'.
use Rattle.std.specs.Prelude.{Bool, true, ◌&&◌}
use Rattle.std.specs.List.{list_all}
use Rattle.source_language.specs.Names.{is_source_name}
use Rattle.source_operators.specs.Names.{is_source_expression}
use Rattle.source_statements.specs.Names as statements
use Rattle.object_lang.specs.Pure.{PureSimple, assign, input, create, proto, has, call, set, delete, set_proto, fail, throw, PureFunction}

abbrev pub is_source_simple : PureSimple → Bool
is_source_simple (assign x e) = is_source_name x && is_source_expression e
is_source_simple (input x k) = is_source_name x
is_source_simple (create x e) = is_source_name x && is_source_expression e
is_source_simple (proto x e) = is_source_name x && is_source_expression e
is_source_simple (has x a b) = is_source_name x && (is_source_expression a && is_source_expression b)
is_source_simple (call x f es) = is_source_name x && (is_source_expression f && list_all is_source_expression es)
is_source_simple (set a b c) = is_source_expression a && (is_source_expression b && is_source_expression c)
is_source_simple (delete a b) = is_source_expression a && is_source_expression b
is_source_simple (set_proto a b) = is_source_expression a && is_source_expression b
is_source_simple (fail e) = is_source_expression e
is_source_simple (throw e) = is_source_expression e

abbrev pub is_source_function : PureFunction → Bool
is_source_function f = is_source_name f.name && statements.is_source_function true is_source_expression is_source_simple f
