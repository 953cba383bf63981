use Rattle.std.proofs.Common.{◌+◌, [], ◌∷◌, ◌++◌, length, sym, ap, ◌∙◌, arith}
use Rattle.gil_syntax.specs.View.{exprs_view}
use Rattle.source_language.specs.Code.{code_view}
use Rattle.source_operators.specs.Codes.{code, result}
use Rattle.source_operators.specs.View.{expression_view}
use Rattle.source_operators.proofs.ListCodes.{uses-next, results-next, code-next}
use Rattle.source_operators.proofs.lists.operands_code.Goals as goal

pub loop-expression-preserved : goal.loop-expression-preserved
loop-expression-preserved g c =
    let codes = g.L.Operators.codes c.args.language.now in
    let items = c.args.expressions.now in
    let i = c.loop-expression.expression-index in
    let item = c.expression-item.result in
    let within = c.loop-expression-test.true in (
      c.in_ok-append.ensures
          ∙ ap (λ more. code_view c.loop-expression.code ++ more) (c.in_ok-operand.ensures.code
          ∙ ap (λ n. code codes (expression_view item) n c.args.at c.loop-expression.next) (c.in_ok-behind.ensures ∙ ap (λ n. c.args.label + n) c.code_len.ensures))
          ∙ (λ k. c.loop-expression.invariant.0 k ++ code codes (expression_view item) (c.args.label + length (c.loop-expression.invariant.0 k)) c.args.at
          (c.loop-expression.invariant.2 k))
          ∙ sym (code-next codes items i item within c.expression-item.is c.args.label c.args.at c.args.free),
      c.in_ok-push.ensures.ok
          ∙ ap (λ e. exprs_view c.loop-expression.results ++ e ∷ []) c.in_ok-operand.ensures.expression
          ∙ (λ k. c.loop-expression.invariant.1 k ++ result codes (expression_view item) (c.loop-expression.invariant.2 k) ∷ [])
          ∙ sym (results-next codes items i item within c.expression-item.is c.args.free),
      omega (
        arith,
        uses-next codes items i item within c.expression-item.is,
        c.in_ok-operand.ensures.next,
        c.loop-expression.invariant.2,
      ),
    )
