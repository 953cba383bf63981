use Rattle.std.proofs.Common.{◌≡◌, map, take, false}
use Rattle.gil_syntax.specs.View.{expr_view}
use Rattle.assert_logic.specs.Names.{named_among}
use Rattle.spec_vacuity.proofs.names.stands_in_expressions.Given as goal

abbrev pub invariant-loop-expression : goal.invariant-loop-expression
invariant-loop-expression l = named_among (map expr_view (take l.expression-index l.expressions)) l.name ≡ false
