-- Forms of expressions.
use Rattle.std.specs.Prelude.{Bool, true, false}
use Rattle.gil_syntax.specs.Pure.{PureExpr, name}

abbrev pub is_variable : PureExpr → Bool
is_variable (name x) = true
is_variable _ = false
