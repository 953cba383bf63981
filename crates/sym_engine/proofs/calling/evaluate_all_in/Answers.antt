use Rattle.std.proofs.Common.{sym, subst}
use Rattle.gil_syntax.specs.View.{exprs_view}
use Rattle.sym_engine.proofs.Arguments.{all_evaluated_in}
use Rattle.sym_engine.proofs.Leaving.{if_ok_map, if_ok_three}
use Rattle.sym_engine.proofs.calling.evaluate_all_in.Goals as goal
use Rattle.sym_evaluation.specs.Meaning.{AreCasesOfAll}
use Rattle.sym_evaluation.specs.Plainly.{AllAnswerPlainly}
use Rattle.sym_evaluation.specs.Questions.{AllComeFrom, NameNoOthers, AreEachOver}
use Rattle.sym_evaluation.specs.View.{store_view, all_cases_view}
use Rattle.sym_paths.specs.Moves.{running_store}
use Rattle.sym_paths.specs.View.{frames_view}
use Rattle.sym_paths.specs.Cases.{AreEvaluated}

pub returns-clause-evaluated : goal.returns-clause-evaluated
returns-clause-evaluated c =
    let es = exprs_view c.args.expressions.now in
    let store = store_view c.store_in.result.now in
    let running = running_store (frames_view c.args.frames.now) in
    if_ok_three (λ k. AreCasesOfAll store es (all_cases_view k)) (λ k. AllComeFrom store es (all_cases_view k)) (λ k. NameNoOthers AreEachOver store (all_cases_view k)) (λ k. AreEvaluated running es (all_cases_view k)) c.evaluate_all.result
    (λ k are come name. all_evaluated_in running store es (all_cases_view k) (sym c.store_in.ensures) are come name) c.evaluate_all.ensures.cases c.evaluate_all.ensures.origin c.evaluate_all.ensures.names

pub returns-clause-plain : goal.returns-clause-plain
returns-clause-plain c =
    let es = exprs_view c.args.expressions.now in
    if_ok_map (λ k. AllAnswerPlainly (store_view c.store_in.result.now) es (all_cases_view k)) (λ k. AllAnswerPlainly (running_store (frames_view c.args.frames.now)) es (all_cases_view k)) c.evaluate_all.result
    (λ k is. subst (λ bs. AllAnswerPlainly bs es (all_cases_view k)) c.store_in.ensures is) c.evaluate_all.ensures.plain
