use Rattle.std.proofs.Common.{◌≡◌, map, take}
use Rattle.object_lang.specs.Resolved.{names_function, resolved_expression}
use Rattle.object_lang.specs.View.{expression_view, function_view}
use Rattle.object_lang.proofs.resolving.resolved_expressions.Given as goal

abbrev pub invariant-loop-expression : goal.invariant-loop-expression
invariant-loop-expression l = map expression_view l.list
    ≡ map (resolved_expression (names_function (map function_view l.functions) (function_view l.function))) (map expression_view (take l.expression-index l.expression-items))
