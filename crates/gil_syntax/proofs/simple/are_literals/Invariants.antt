use Rattle.std.proofs.Common.{◌≡◌, map, take, true}
use Rattle.std.specs.List.{list_all}
use Rattle.gil_syntax.specs.Simple.{is_literal}
use Rattle.gil_syntax.specs.View.{expr_view}
use Rattle.gil_syntax.proofs.simple.are_literals.Given as goal

abbrev pub invariant-loop-expression : goal.invariant-loop-expression
invariant-loop-expression l = list_all is_literal (map expr_view (take l.expression-index l.expression-items)) ≡ true
