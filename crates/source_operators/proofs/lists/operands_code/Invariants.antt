use Rattle.std.proofs.Common.{◌≡◌, ◌+◌, take, map}
use Rattle.gil_syntax.specs.View.{exprs_view}
use Rattle.source_language.specs.Code.{code_view}
use Rattle.source_operators.specs.Codes.{all_uses, results, all_code}
use Rattle.source_operators.specs.View.{expression_view}
use Rattle.source_operators.proofs.lists.operands_code.Given as goal

abbrev pub invariant-loop-expression : goal.invariant-loop-expression
invariant-loop-expression g l =
    (code_view l.code ≡ all_code (g.L.Operators.codes l.language) (map expression_view (take l.expression-index l.expressions)) l.label l.at l.free)
    × (exprs_view l.results ≡ results (g.L.Operators.codes l.language) (map expression_view (take l.expression-index l.expressions)) l.free)
    × (l.next ≡ l.free + all_uses (g.L.Operators.codes l.language) (map expression_view (take l.expression-index l.expressions)))
