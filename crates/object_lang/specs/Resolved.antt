-- Names of functions as values. In a function, a variable that is none of its parameters, that no statement of it assigns and that is the
-- name of a function of the program, is that function: a procedure as a value. The lists of invariants assign nothing, and logic commands
-- stay as they are.
use Rattle.std.specs.Prelude.{ℕ, List, map, Bool, false, not, ◌&&◌, ◌||◌, if◌then◌else◌}
use Rattle.std.specs.List.{list_any}
use Rattle.std.specs.Str.{bytes_eq}
use Rattle.gil_values.specs.Pure.{procedure}
use Rattle.source_operators.specs.Pure as trees
use Rattle.source_statements.specs.Pure as tree
use Rattle.object_operators.specs.Pure.{PureExpression}
use Rattle.object_lang.specs.Pure.{PureSimple, assign, input, create, proto, has, call, set, delete, set_proto, fail, throw, PureStatement, PureBlock, PureFunction, PureSource}

-- ---- which names are functions

abbrev pub is_target : List ℕ → PureSimple → Bool
is_target x (assign y e) = bytes_eq y x
is_target x (input y k) = bytes_eq y x
is_target x (create y e) = bytes_eq y x
is_target x (proto y e) = bytes_eq y x
is_target x (has y a b) = bytes_eq y x
is_target x (call y f es) = bytes_eq y x
is_target x _ = false

abbrev mutual
  -- whether a statement assigns a variable; a thrown value that is caught is assigned
  pub statement_assigns : List ℕ → PureStatement → Bool
  statement_assigns x (tree.simple c) = is_target x c
  statement_assigns x (tree.if_else e on off) = block_assigns x on || block_assigns x off
  statement_assigns x (tree.while e invariant body) = block_assigns x body
  statement_assigns x (tree.try_catch body y handler) = bytes_eq y x || (block_assigns x body || block_assigns x handler)
  statement_assigns x _ = false

  pub block_assigns : List ℕ → PureBlock → Bool
  block_assigns x tree.no_statements = false
  block_assigns x (tree.statement_and at c rest) = statement_assigns x c || block_assigns x rest

abbrev pub is_variable : PureFunction → List ℕ → Bool
is_variable f x = list_any (λ y. bytes_eq y x) f.params || block_assigns x f.body

abbrev pub is_function : List PureFunction → List ℕ → Bool
is_function functions x = list_any (λ g. bytes_eq g.name x) functions

-- in a function of a program with these functions
abbrev pub names_function : List PureFunction → PureFunction → List ℕ → Bool
names_function functions f x = is_function functions x && not (is_variable f x)

-- ---- trees in which these names are procedures

module _ (is : List ℕ → Bool) where
  abbrev pub resolved_name : List ℕ → PureExpression
  resolved_name x = if is x then trees.constant (procedure x) else trees.variable x

  abbrev pub resolved_expression : PureExpression → PureExpression
  resolved_expression (trees.constant v) = trees.constant v
  resolved_expression (trees.variable x) = resolved_name x
  resolved_expression (trees.brackets e) = trees.brackets (resolved_expression e)
  resolved_expression (trees.prefixed u e) = trees.prefixed u (resolved_expression e)
  resolved_expression (trees.joined j d e) = trees.joined j (resolved_expression d) (resolved_expression e)
  resolved_expression (trees.skipping c d e) = trees.skipping c (resolved_expression d) (resolved_expression e)

  abbrev pub resolved_simple : PureSimple → PureSimple
  resolved_simple (assign x e) = assign x (resolved_expression e)
  resolved_simple (input x k) = input x k
  resolved_simple (create x e) = create x (resolved_expression e)
  resolved_simple (proto x e) = proto x (resolved_expression e)
  resolved_simple (has x a b) = has x (resolved_expression a) (resolved_expression b)
  resolved_simple (call x f es) = call x (resolved_expression f) (map resolved_expression es)
  resolved_simple (set a b c) = set (resolved_expression a) (resolved_expression b) (resolved_expression c)
  resolved_simple (delete a b) = delete (resolved_expression a) (resolved_expression b)
  resolved_simple (set_proto a b) = set_proto (resolved_expression a) (resolved_expression b)
  resolved_simple (fail e) = fail (resolved_expression e)
  resolved_simple (throw e) = throw (resolved_expression e)

  abbrev mutual
    pub resolved_statement : PureStatement → PureStatement
    resolved_statement (tree.simple c) = tree.simple (resolved_simple c)
    resolved_statement (tree.assert e) = tree.assert (resolved_expression e)
    resolved_statement (tree.assume e) = tree.assume (resolved_expression e)
    resolved_statement (tree.if_else e on off) = tree.if_else (resolved_expression e) (resolved_block on) (resolved_block off)
    resolved_statement (tree.while e invariant body) = tree.while (resolved_expression e) invariant (resolved_block body)
    resolved_statement (tree.return e) = tree.return (resolved_expression e)
    resolved_statement (tree.logic l) = tree.logic l
    resolved_statement (tree.try_catch body y handler) = tree.try_catch (resolved_block body) y (resolved_block handler)

    pub resolved_block : PureBlock → PureBlock
    resolved_block tree.no_statements = tree.no_statements
    resolved_block (tree.statement_and at c rest) = tree.statement_and at (resolved_statement c) (resolved_block rest)

abbrev pub resolved_function : List PureFunction → PureFunction → PureFunction
resolved_function functions f = record f { body = resolved_block (names_function functions f) f.body }

abbrev pub resolved : PureSource → PureSource
resolved source = record source { functions = map (resolved_function source.functions) source.functions }
