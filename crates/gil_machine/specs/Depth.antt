-- How deep lists stand in one another in a value: 0 in a value that is no list.
use Rattle.std.specs.Prelude.{ℕ, suc, max}
use Rattle.gil_values.specs.Pure.{PureValue, integer, boolean, text, symbol, kind, procedure, list, PureValues, no_values, value_and}

abbrev mutual
  pub depth : PureValue → ℕ
  depth (integer n) = 0
  depth (boolean b) = 0
  depth (text cs) = 0
  depth (symbol n) = 0
  depth (kind k) = 0
  depth (procedure name) = 0
  depth (list vs) = suc (deepest vs)

  pub deepest : PureValues → ℕ
  deepest no_values = 0
  deepest (value_and v vs) = max (depth v) (deepest vs)
