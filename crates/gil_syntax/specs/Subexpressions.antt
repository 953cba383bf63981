-- What stands in expressions, commands and assertions.
use Rattle.std.specs.Prelude.{ℕ, List, [], ◌∷◌, ◌++◌}
use Rattle.std.specs.List.{flat_map}
use Rattle.gil_values.specs.Pure.{PureValue}
use Rattle.gil_syntax.specs.Pure.{PureExpr, literal, name, logical, list_of, unary_of, binary_of, PureExprs, no_exprs, expr_and, PurePredUse, PureItem, pure, uses, PureCommand, assign, call, act, usym, isym, ifgoto, return, fail, throw, vanish, fold_use, unfold_use, assert_that, loop_invariant, PureSpec}

-- an expression and all that stands in it, from left to right
abbrev mutual
  pub subexpressions : PureExpr → List PureExpr
  subexpressions (literal v) = literal v ∷ []
  subexpressions (name x) = name x ∷ []
  subexpressions (logical x) = logical x ∷ []
  subexpressions (list_of es) = list_of es ∷ subexpressions_of_all es
  subexpressions (unary_of op e) = unary_of op e ∷ subexpressions e
  subexpressions (binary_of op d e) = binary_of op d e ∷ (subexpressions d ++ subexpressions e)

  pub subexpressions_of_all : PureExprs → List PureExpr
  subexpressions_of_all no_exprs = []
  subexpressions_of_all (expr_and e es) = subexpressions e ++ subexpressions_of_all es

abbrev pub own_names : PureExpr → List (List ℕ)
own_names (name x) = x ∷ []
own_names (logical x) = x ∷ []
own_names _ = []

-- the program variables and logical variables of an expression
abbrev pub names_of : PureExpr → List (List ℕ)
names_of e = flat_map own_names (subexpressions e)

abbrev pub own_logicals : PureExpr → List (List ℕ)
own_logicals (logical x) = x ∷ []
own_logicals _ = []

abbrev pub logicals_of : PureExpr → List (List ℕ)
logicals_of e = flat_map own_logicals (subexpressions e)

abbrev pub own_literals : PureExpr → List PureValue
own_literals (literal v) = v ∷ []
own_literals _ = []

abbrev pub literals_of : PureExpr → List PureValue
literals_of e = flat_map own_literals (subexpressions e)

abbrev pub exprs_of_use : PurePredUse → List PureExpr
exprs_of_use u = u.ins ++ u.outs

abbrev pub exprs_of_item : PureItem → List PureExpr
exprs_of_item (pure e) = e ∷ []
exprs_of_item (uses u) = exprs_of_use u

abbrev pub uses_of_item : PureItem → List PurePredUse
uses_of_item (pure e) = []
uses_of_item (uses u) = u ∷ []

-- the expressions of a command, those of its assertion included
abbrev pub exprs_of : PureCommand → List PureExpr
exprs_of (assign x e) = e ∷ []
exprs_of (call x e es handler) = e ∷ es
exprs_of (act x a es) = es
exprs_of (usym x) = []
exprs_of (isym x k) = []
exprs_of (ifgoto e i) = e ∷ []
exprs_of (return e) = e ∷ []
exprs_of (fail e) = e ∷ []
exprs_of (throw e) = e ∷ []
exprs_of vanish = []
exprs_of (fold_use u) = exprs_of_use u
exprs_of (unfold_use u) = exprs_of_use u
exprs_of (assert_that items) = flat_map exprs_of_item items
exprs_of (loop_invariant xs ps items) = flat_map exprs_of_item items

-- the uses of predicates in a command
abbrev pub uses_of : PureCommand → List PurePredUse
uses_of (assign x e) = []
uses_of (call x e es handler) = []
uses_of (act x a es) = []
uses_of (usym x) = []
uses_of (isym x k) = []
uses_of (ifgoto e i) = []
uses_of (return e) = []
uses_of (fail e) = []
uses_of (throw e) = []
uses_of vanish = []
uses_of (fold_use u) = u ∷ []
uses_of (unfold_use u) = u ∷ []
uses_of (assert_that items) = flat_map uses_of_item items
uses_of (loop_invariant xs ps items) = flat_map uses_of_item items

-- the precondition of a specification, its postconditions and its error postconditions
abbrev pub assertions_of : PureSpec → List (List PureItem)
assertions_of s = s.pre ∷ (s.posts ++ s.errors)
