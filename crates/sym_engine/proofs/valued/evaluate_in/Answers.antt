use Rattle.std.proofs.Common.{sym, subst}
use Rattle.gil_syntax.specs.View.{expr_view}
use Rattle.pure_terms.specs.Meaning.{IsOver}
use Rattle.sym_engine.proofs.Leaving.{evaluated_in, if_ok_map, if_ok_three}
use Rattle.sym_engine.proofs.valued.evaluate_in.Goals as goal
use Rattle.sym_evaluation.specs.Meaning.{AreCasesOf}
use Rattle.sym_evaluation.specs.Plainly.{AnswersPlainly, GuardsPlainly}
use Rattle.sym_evaluation.specs.Questions.{ComesFrom, NameNoOthers}
use Rattle.sym_evaluation.specs.View.{store_view, cases_view}
use Rattle.sym_paths.specs.Moves.{running_store}
use Rattle.sym_paths.specs.Valued.{IsEvaluated}
use Rattle.sym_paths.specs.View.{frames_view}

pub returns-clause-evaluated : goal.returns-clause-evaluated
returns-clause-evaluated c =
    let e = expr_view c.args.expression.now in
    let store = store_view c.store_in.result.now in
    let running = running_store (frames_view c.args.frames.now) in
    if_ok_three (λ k. AreCasesOf store e (cases_view k)) (λ k. ComesFrom store e (cases_view k)) (λ k. NameNoOthers IsOver store (cases_view k)) (λ k. IsEvaluated running e (cases_view k)) c.evaluate.result
    (λ k are come name. evaluated_in running store e (cases_view k) (sym c.store_in.ensures) are come name) c.evaluate.ensures.cases c.evaluate.ensures.origin c.evaluate.ensures.names

pub returns-clause-plain : goal.returns-clause-plain
returns-clause-plain c =
    let e = expr_view c.args.expression.now in
    if_ok_map (λ k. AnswersPlainly (store_view c.store_in.result.now) e (cases_view k)) (λ k. AnswersPlainly (running_store (frames_view c.args.frames.now)) e (cases_view k)) c.evaluate.result
    (λ k is. subst (λ bs. AnswersPlainly bs e (cases_view k)) c.store_in.ensures is) c.evaluate.ensures.plain

pub returns-clause-guard : goal.returns-clause-guard
returns-clause-guard c =
    let e = expr_view c.args.expression.now in
    if_ok_map (λ k. GuardsPlainly (store_view c.store_in.result.now) e (cases_view k)) (λ k. GuardsPlainly (running_store (frames_view c.args.frames.now)) e (cases_view k)) c.evaluate.result
    (λ k is. subst (λ bs. GuardsPlainly bs e (cases_view k)) c.store_in.ensures is) c.evaluate.ensures.guard
