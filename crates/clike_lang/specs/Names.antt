-- Whether a tree is such as a source text can spell: no name has a '$', and throws are handled nowhere.
use Rattle.std.specs.Prelude.{ℕ, List, Bool, true, false, ◌&&◌, Option, Some, None}
use Rattle.std.specs.List.{list_all}
use Rattle.source_language.specs.Names.{is_source_name}
use Rattle.source_operators.specs.Names.{is_source_expression}
use Rattle.source_statements.specs.Names as statements
use Rattle.clike_lang.specs.Pure.{PureSimple, assign, input, malloc, call, free, store, PureFunction}

abbrev pub is_source_target : Option (List ℕ) → Bool
is_source_target None = true
is_source_target (Some x) = is_source_name x

abbrev pub is_source_simple : PureSimple → Bool
is_source_simple (assign x e) = is_source_name x && is_source_expression e
is_source_simple (input x) = is_source_name x
is_source_simple (malloc x e) = is_source_name x && is_source_expression e
is_source_simple (call x f es) = is_source_target x && list_all is_source_expression es
is_source_simple (free e) = is_source_expression e
is_source_simple (store a b c) = is_source_expression a && (is_source_expression b && is_source_expression c)

abbrev pub is_source_function : PureFunction → Bool
is_source_function f = statements.is_source_function false is_source_expression is_source_simple f
