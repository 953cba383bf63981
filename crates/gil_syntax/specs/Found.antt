-- What stands in expressions, assertions and commands.
use Rattle.std.specs.Prelude.{List, Bool, ◌||◌}
use Rattle.std.specs.List.{list_any, flat_map}
use Rattle.gil_syntax.specs.Pure.{PureExpr, PurePredUse, PureItem, PureNumberedCommand}
use Rattle.gil_syntax.specs.Subexpressions.{subexpressions, exprs_of_item, uses_of_item, exprs_of, uses_of}

-- such a node stands in the expression
abbrev pub stands_in : (PureExpr → Bool) → PureExpr → Bool
stands_in node e = list_any node (subexpressions e)

-- such a node stands in one of the expressions, or such a use is among the uses
abbrev pub stands_among : (PureExpr → Bool) → (PurePredUse → Bool) → List PureExpr → List PurePredUse → Bool
stands_among node used es us = list_any used us || list_any (stands_in node) es

abbrev pub stands_in_assertion : (PureExpr → Bool) → (PurePredUse → Bool) → List PureItem → Bool
stands_in_assertion node used items = stands_among node used (flat_map exprs_of_item items) (flat_map uses_of_item items)

abbrev pub stands_in_command : (PureExpr → Bool) → (PurePredUse → Bool) → PureNumberedCommand → Bool
stands_in_command node used c = stands_among node used (exprs_of c.command) (uses_of c.command)
