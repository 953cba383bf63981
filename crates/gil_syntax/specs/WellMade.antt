-- What the types of the syntax leave open: no symbol occurs in a literal, and no literal is a list; a draw is of an
-- int, a bool or a str; the names of logical variables begin with '#', and those of program variables and parameters
-- don't.
use Rattle.std.specs.Prelude.{ℕ, List, [], ◌∷◌, Bool, true, false, not, ◌&&◌, nat_eq}
use Rattle.std.specs.List.{list_all}
use Rattle.gil_values.specs.declared.kinds.Kind.{Kind}
use Rattle.gil_values.specs.declared.kinds.Kind.TheVariants.{Int, Bool as Boolean, Str}
use Rattle.gil_values.specs.Pure.{PureValue, symbol, list}
use Rattle.gil_syntax.specs.declared.assertions.Param.{Param}
use Rattle.gil_syntax.specs.Pure.{PureExpr, literal, name, logical, PureItem, PureCommand, assign, call, act, usym, isym, ifgoto, return, fail, throw, vanish, fold_use, unfold_use, assert_that, loop_invariant, PureProc, PureSpec, PurePredDef, PureParts}
use Rattle.gil_syntax.specs.Subexpressions.{subexpressions, exprs_of_item, exprs_of, assertions_of}

-- a value that a literal may be
abbrev pub is_spellable : PureValue → Bool
is_spellable (symbol n) = false
is_spellable (list vs) = false
is_spellable _ = true

-- a kind that an input may have
abbrev pub is_drawable : Kind → Bool
is_drawable Int = true
is_drawable Boolean = true
is_drawable Str = true
is_drawable _ = false

-- the first character is '#'
abbrev pub has_hash : List ℕ → Bool
has_hash [] = false
has_hash (c ∷ cs) = nat_eq c 35

abbrev pub is_program_name : List ℕ → Bool
is_program_name x = not (has_hash x)

abbrev pub is_well_made_node : PureExpr → Bool
is_well_made_node (literal v) = is_spellable v
is_well_made_node (name x) = is_program_name x
is_well_made_node (logical x) = has_hash x
is_well_made_node _ = true

abbrev pub is_well_made_expr : PureExpr → Bool
is_well_made_expr e = list_all is_well_made_node (subexpressions e)

abbrev pub are_logical : List Param → Bool
are_logical ps = list_all (λ q. has_hash q.name) ps

abbrev pub are_program_names : List Param → Bool
are_program_names ps = list_all (λ q. is_program_name q.name) ps

-- what a command assigns, draws and lists
abbrev pub has_well_made_names : PureCommand → Bool
has_well_made_names (assign x e) = is_program_name x
has_well_made_names (call x e es handler) = is_program_name x
has_well_made_names (act x a es) = is_program_name x
has_well_made_names (usym x) = is_program_name x
has_well_made_names (isym x k) = is_program_name x && is_drawable k
has_well_made_names (ifgoto e i) = true
has_well_made_names (return e) = true
has_well_made_names (fail e) = true
has_well_made_names (throw e) = true
has_well_made_names vanish = true
has_well_made_names (fold_use u) = true
has_well_made_names (unfold_use u) = true
has_well_made_names (assert_that items) = true
has_well_made_names (loop_invariant xs ps items) = list_all is_program_name xs && are_logical ps

abbrev pub is_well_made_command : PureCommand → Bool
is_well_made_command c = has_well_made_names c && list_all is_well_made_expr (exprs_of c)

abbrev pub is_well_made_assertion : List PureItem → Bool
is_well_made_assertion items = list_all (λ item. list_all is_well_made_expr (exprs_of_item item)) items

abbrev pub is_well_made_proc : PureProc → Bool
is_well_made_proc q = list_all is_program_name q.params && list_all (λ c. is_well_made_command c.command) q.body

abbrev pub is_well_made_spec : PureSpec → Bool
is_well_made_spec s = are_program_names s.params && are_logical s.logicals && list_all is_well_made_assertion (assertions_of s)

abbrev pub is_well_made_pred : PurePredDef → Bool
is_well_made_pred d =
    are_program_names d.ins && are_program_names d.outs && are_logical d.logicals && list_all is_well_made_assertion d.cases

abbrev pub is_well_made : PureParts → Bool
is_well_made p = list_all is_well_made_proc p.procs && list_all is_well_made_spec p.specs && list_all is_well_made_pred p.preds
