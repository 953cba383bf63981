-- The nodes and uses that are faults.
use Rattle.std.specs.Prelude.{ℕ, List, Bool, false, not, ◌||◌}
use Rattle.gil_syntax.specs.Pure.{PureExpr, literal, logical, PurePredUse, PureCommand, assign, call, act, usym, isym, ifgoto, return, fail, throw, vanish, fold_use, unfold_use, assert_that, loop_invariant, PureParts}
use Rattle.gil_syntax.specs.WellMade.{is_well_made_node}
use Rattle.gil_syntax.specs.Valid.{param_names, is_among, predicates_of, is_named, is_wide}

-- a logical variable that isn't declared
abbrev pub is_undeclared : (List ℕ → Bool) → PureExpr → Bool
is_undeclared declared (logical x) = not (declared x)
is_undeclared declared _ = false

-- a predicate that is neither core nor defined
abbrev pub is_unknown_use : PureParts → PurePredUse → Bool
is_unknown_use p u = not (is_named (predicates_of p) u.pred)

-- which logical variables a command may name, where its specification declares these
abbrev pub declared_by : (List ℕ → Bool) → PureCommand → List ℕ → Bool
declared_by outer (assign y e) x = false
declared_by outer (call y e es handler) x = false
declared_by outer (act y a es) x = false
declared_by outer (usym y) x = false
declared_by outer (isym y k) x = false
declared_by outer (ifgoto e i) x = false
declared_by outer (return e) x = false
declared_by outer (fail e) x = false
declared_by outer (throw e) x = false
declared_by outer vanish x = false
declared_by outer (fold_use u) x = outer x
declared_by outer (unfold_use u) x = outer x
declared_by outer (assert_that items) x = outer x
declared_by outer (loop_invariant xs ps items) x = outer x || is_among (param_names ps) x

abbrev pub is_wide_literal : PureExpr → Bool
is_wide_literal (literal v) = is_wide v
is_wide_literal _ = false

abbrev pub no_node : PureExpr → Bool
no_node e = false

abbrev pub no_use : PurePredUse → Bool
no_use u = false

-- a literal or a name that no well-made program has
abbrev pub is_ill_made : PureExpr → Bool
is_ill_made e = not (is_well_made_node e)
