use Rattle.std.proofs.Common.{◌∷◌, [], map, refl, ap, sym, subst, ◌∙◌}
use Rattle.std.proofs.lemmas.List.{append-nil, map-append}
use Rattle.gil_syntax.specs.Program.{prog_view}
use Rattle.gil_syntax.specs.Pure.{call as pure_call}
use Rattle.gil_syntax.specs.View.{expr_view, exprs_view}
use Rattle.gil_machine.specs.Step.{handler_label}
use Rattle.sym_engine.specs.Lawful.{AreLawfulIn}
use Rattle.sym_engine.specs.Narrow.{StayNarrowIn}
use Rattle.sym_engine.specs.Plain.{StayPlainIn}
use Rattle.sym_engine.specs.View.{called_view, candidate_view, candidates_view}
use Rattle.sym_engine.proofs.Adding.{call_lawful}
use Rattle.sym_engine.proofs.Arguments.{seen_results, seen_none}
use Rattle.sym_engine.proofs.Staying.{call_plain}
use Rattle.sym_engine.proofs.StayingNarrow.{call_narrow}
use Rattle.sym_engine.proofs.calling.call_candidates.Goals as goal
use Rattle.pure_terms.specs.View.{term_view}
use Rattle.sym_evaluation.specs.View.{cases_view, all_cases_view, good_view}
use Rattle.sym_paths.specs.Valued.{faulted}
use Rattle.sym_paths.specs.View.{path_view}
use Rattle.sym_paths.specs.Calls.{Calls, CallsTerm}
use Rattle.sym_paths.specs.Cases.{AreResults}
use Rattle.sym_paths.specs.Copies.{AreCopied}

pub returns-in_ok-push-in-Some-clause-lawful : goal.returns-in_ok-push-in-Some-clause-lawful
returns-in_ok-push-in-Some-clause-lawful g c =
    let pushed = ap candidates_view c.in_ok-push-in-Some.ensures.ok ∙ map-append candidate_view c.in_ok-candidates.candidates (c.in_ok-call_term-in-Some.field-0 ∷ []) in
    let labelled =
    subst (λ l. CallsTerm (path_view c.args.path) c.args.name.now l c.args.here.now (prog_view c.args.prog.now) (term_view c.in-Some.good.result.callee) (good_view called_view c.in-Some.good) (candidate_view c.in_ok-call_term-in-Some.field-0)) c.label_of-label.ensures
    c.in_ok-call_term-in-Some.ensures in
    subst (AreLawfulIn g.M.SymMemory.stands g.M.SymMemory.terms g.M.SymMemory.asked g.M.Local.LocalMemory.actions (prog_view c.args.prog.now) (path_view c.args.path) c.args.here.now (pure_call c.args.name.now (expr_view c.args.callee.now) (exprs_view c.args.arguments.now) c.args.handler)) (sym pushed)
    (call_lawful g.M.SymMemory.stands g.M.SymMemory.terms g.M.SymMemory.depends g.M.SymMemory.plain g.M.SymMemory.asked g.M.Local.LocalMemory.actions (path_view c.args.path) c.args.here.now (prog_view c.args.prog.now) (cases_view c.in_ok-callee.callee) (all_cases_view c.in_ok-arguments.arguments) (candidates_view c.in_ok-candidates.candidates) (candidate_view c.in_ok-call_term-in-Some.field-0 ∷ [])
    (subst (λ k. AreCopied g.M.SymMemory.stands g.M.SymMemory.terms g.M.SymMemory.depends g.M.SymMemory.plain (map (faulted (path_view c.args.path) c.args.here.now) k.faults) (candidates_view c.in_ok-candidates.candidates)) c.in_ok-faults.ensures c.in_ok-candidates.ensures)
    c.args.name.now (expr_view c.args.callee.now) (exprs_view c.args.arguments.now) c.args.handler c.in_ok-callee.ensures.evaluated c.in_ok-arguments.ensures.evaluated
    (subst (λ k. AreResults (Calls (path_view c.args.path) c.args.name.now (handler_label c.args.handler) c.args.here.now (prog_view c.args.prog.now)) k.good (candidate_view c.in_ok-call_term-in-Some.field-0 ∷ [])) c.in_ok-faults.ensures
    (seen_results called_view (Calls (path_view c.args.path) c.args.name.now (handler_label c.args.handler) c.args.here.now (prog_view c.args.prog.now)) c.in_ok-faults.field-0.good c.in-Some.good (candidate_view c.in_ok-call_term-in-Some.field-0 ∷ []) c.in-Some.is
    (candidate_view c.in_ok-call_term-in-Some.field-0, (labelled, refl)))))

pub returns-in-None-clause-lawful : goal.returns-in-None-clause-lawful
returns-in-None-clause-lawful g c =
    subst (AreLawfulIn g.M.SymMemory.stands g.M.SymMemory.terms g.M.SymMemory.asked g.M.Local.LocalMemory.actions (prog_view c.args.prog.now) (path_view c.args.path) c.args.here.now (pure_call c.args.name.now (expr_view c.args.callee.now) (exprs_view c.args.arguments.now) c.args.handler)) (append-nil (candidates_view c.in_ok-candidates.candidates))
    (call_lawful g.M.SymMemory.stands g.M.SymMemory.terms g.M.SymMemory.depends g.M.SymMemory.plain g.M.SymMemory.asked g.M.Local.LocalMemory.actions (path_view c.args.path) c.args.here.now (prog_view c.args.prog.now) (cases_view c.in_ok-callee.callee) (all_cases_view c.in_ok-arguments.arguments) (candidates_view c.in_ok-candidates.candidates) []
    (subst (λ k. AreCopied g.M.SymMemory.stands g.M.SymMemory.terms g.M.SymMemory.depends g.M.SymMemory.plain (map (faulted (path_view c.args.path) c.args.here.now) k.faults) (candidates_view c.in_ok-candidates.candidates)) c.in_ok-faults.ensures c.in_ok-candidates.ensures)
    c.args.name.now (expr_view c.args.callee.now) (exprs_view c.args.arguments.now) c.args.handler c.in_ok-callee.ensures.evaluated c.in_ok-arguments.ensures.evaluated
    (subst (λ k. AreResults (Calls (path_view c.args.path) c.args.name.now (handler_label c.args.handler) c.args.here.now (prog_view c.args.prog.now)) k.good []) c.in_ok-faults.ensures
    (seen_none called_view (Calls (path_view c.args.path) c.args.name.now (handler_label c.args.handler) c.args.here.now (prog_view c.args.prog.now)) c.in_ok-faults.field-0.good c.in-None.is)))

pub returns-in_ok-push-in-Some-clause-plain : goal.returns-in_ok-push-in-Some-clause-plain
returns-in_ok-push-in-Some-clause-plain g c =
    let pushed = ap candidates_view c.in_ok-push-in-Some.ensures.ok ∙ map-append candidate_view c.in_ok-candidates.candidates (c.in_ok-call_term-in-Some.field-0 ∷ []) in
    let labelled =
    subst (λ l. CallsTerm (path_view c.args.path) c.args.name.now l c.args.here.now (prog_view c.args.prog.now) (term_view c.in-Some.good.result.callee) (good_view called_view c.in-Some.good) (candidate_view c.in_ok-call_term-in-Some.field-0)) c.label_of-label.ensures
    c.in_ok-call_term-in-Some.ensures in
    λ keeps. subst (StayPlainIn g.M.SymMemory.plain (prog_view c.args.prog.now) (path_view c.args.path) (pure_call c.args.name.now (expr_view c.args.callee.now) (exprs_view c.args.arguments.now) c.args.handler)) (sym pushed)
    (call_plain g.M.SymMemory.stands g.M.SymMemory.terms g.M.SymMemory.depends g.M.SymMemory.plain (path_view c.args.path) c.args.here.now (prog_view c.args.prog.now) (cases_view c.in_ok-callee.callee) (all_cases_view c.in_ok-arguments.arguments) (candidates_view c.in_ok-candidates.candidates) (candidate_view c.in_ok-call_term-in-Some.field-0 ∷ [])
    (subst (λ k. AreCopied g.M.SymMemory.stands g.M.SymMemory.terms g.M.SymMemory.depends g.M.SymMemory.plain (map (faulted (path_view c.args.path) c.args.here.now) k.faults) (candidates_view c.in_ok-candidates.candidates)) c.in_ok-faults.ensures c.in_ok-candidates.ensures)
    c.args.name.now (expr_view c.args.callee.now) (exprs_view c.args.arguments.now) c.args.handler c.in_ok-callee.ensures.evaluated.origin.1 c.in_ok-callee.ensures.plain c.in_ok-arguments.ensures.plain
    (subst (λ k. AreResults (Calls (path_view c.args.path) c.args.name.now (handler_label c.args.handler) c.args.here.now (prog_view c.args.prog.now)) k.good (candidate_view c.in_ok-call_term-in-Some.field-0 ∷ [])) c.in_ok-faults.ensures
    (seen_results called_view (Calls (path_view c.args.path) c.args.name.now (handler_label c.args.handler) c.args.here.now (prog_view c.args.prog.now)) c.in_ok-faults.field-0.good c.in-Some.good (candidate_view c.in_ok-call_term-in-Some.field-0 ∷ []) c.in-Some.is
    (candidate_view c.in_ok-call_term-in-Some.field-0, (labelled, refl)))))

pub returns-in-None-clause-plain : goal.returns-in-None-clause-plain
returns-in-None-clause-plain g c =
    λ keeps. subst (StayPlainIn g.M.SymMemory.plain (prog_view c.args.prog.now) (path_view c.args.path) (pure_call c.args.name.now (expr_view c.args.callee.now) (exprs_view c.args.arguments.now) c.args.handler)) (append-nil (candidates_view c.in_ok-candidates.candidates))
    (call_plain g.M.SymMemory.stands g.M.SymMemory.terms g.M.SymMemory.depends g.M.SymMemory.plain (path_view c.args.path) c.args.here.now (prog_view c.args.prog.now) (cases_view c.in_ok-callee.callee) (all_cases_view c.in_ok-arguments.arguments) (candidates_view c.in_ok-candidates.candidates) []
    (subst (λ k. AreCopied g.M.SymMemory.stands g.M.SymMemory.terms g.M.SymMemory.depends g.M.SymMemory.plain (map (faulted (path_view c.args.path) c.args.here.now) k.faults) (candidates_view c.in_ok-candidates.candidates)) c.in_ok-faults.ensures c.in_ok-candidates.ensures)
    c.args.name.now (expr_view c.args.callee.now) (exprs_view c.args.arguments.now) c.args.handler c.in_ok-callee.ensures.evaluated.origin.1 c.in_ok-callee.ensures.plain c.in_ok-arguments.ensures.plain
    (subst (λ k. AreResults (Calls (path_view c.args.path) c.args.name.now (handler_label c.args.handler) c.args.here.now (prog_view c.args.prog.now)) k.good []) c.in_ok-faults.ensures
    (seen_none called_view (Calls (path_view c.args.path) c.args.name.now (handler_label c.args.handler) c.args.here.now (prog_view c.args.prog.now)) c.in_ok-faults.field-0.good c.in-None.is)))

pub returns-in_ok-push-in-Some-clause-narrow : goal.returns-in_ok-push-in-Some-clause-narrow
returns-in_ok-push-in-Some-clause-narrow g c =
    let pushed = ap candidates_view c.in_ok-push-in-Some.ensures.ok ∙ map-append candidate_view c.in_ok-candidates.candidates (c.in_ok-call_term-in-Some.field-0 ∷ []) in
    let labelled =
    subst (λ l. CallsTerm (path_view c.args.path) c.args.name.now l c.args.here.now (prog_view c.args.prog.now) (term_view c.in-Some.good.result.callee) (good_view called_view c.in-Some.good) (candidate_view c.in_ok-call_term-in-Some.field-0)) c.label_of-label.ensures
    c.in_ok-call_term-in-Some.ensures in
    subst (StayNarrowIn g.M.SymMemory.terms (prog_view c.args.prog.now) (path_view c.args.path) (pure_call c.args.name.now (expr_view c.args.callee.now) (exprs_view c.args.arguments.now) c.args.handler)) (sym pushed)
    (call_narrow g.M.SymMemory.stands g.M.SymMemory.terms g.M.SymMemory.depends g.M.SymMemory.plain (path_view c.args.path) c.args.here.now (prog_view c.args.prog.now) (cases_view c.in_ok-callee.callee) (all_cases_view c.in_ok-arguments.arguments) (candidates_view c.in_ok-candidates.candidates) (candidate_view c.in_ok-call_term-in-Some.field-0 ∷ [])
    (subst (λ k. AreCopied g.M.SymMemory.stands g.M.SymMemory.terms g.M.SymMemory.depends g.M.SymMemory.plain (map (faulted (path_view c.args.path) c.args.here.now) k.faults) (candidates_view c.in_ok-candidates.candidates)) c.in_ok-faults.ensures c.in_ok-candidates.ensures)
    c.args.name.now (expr_view c.args.callee.now) (exprs_view c.args.arguments.now) c.args.handler c.in_ok-callee.ensures.evaluated c.in_ok-arguments.ensures.evaluated
    (subst (λ k. AreResults (Calls (path_view c.args.path) c.args.name.now (handler_label c.args.handler) c.args.here.now (prog_view c.args.prog.now)) k.good (candidate_view c.in_ok-call_term-in-Some.field-0 ∷ [])) c.in_ok-faults.ensures
    (seen_results called_view (Calls (path_view c.args.path) c.args.name.now (handler_label c.args.handler) c.args.here.now (prog_view c.args.prog.now)) c.in_ok-faults.field-0.good c.in-Some.good (candidate_view c.in_ok-call_term-in-Some.field-0 ∷ []) c.in-Some.is
    (candidate_view c.in_ok-call_term-in-Some.field-0, (labelled, refl)))))

pub returns-in-None-clause-narrow : goal.returns-in-None-clause-narrow
returns-in-None-clause-narrow g c =
    subst (StayNarrowIn g.M.SymMemory.terms (prog_view c.args.prog.now) (path_view c.args.path) (pure_call c.args.name.now (expr_view c.args.callee.now) (exprs_view c.args.arguments.now) c.args.handler)) (append-nil (candidates_view c.in_ok-candidates.candidates))
    (call_narrow g.M.SymMemory.stands g.M.SymMemory.terms g.M.SymMemory.depends g.M.SymMemory.plain (path_view c.args.path) c.args.here.now (prog_view c.args.prog.now) (cases_view c.in_ok-callee.callee) (all_cases_view c.in_ok-arguments.arguments) (candidates_view c.in_ok-candidates.candidates) []
    (subst (λ k. AreCopied g.M.SymMemory.stands g.M.SymMemory.terms g.M.SymMemory.depends g.M.SymMemory.plain (map (faulted (path_view c.args.path) c.args.here.now) k.faults) (candidates_view c.in_ok-candidates.candidates)) c.in_ok-faults.ensures c.in_ok-candidates.ensures)
    c.args.name.now (expr_view c.args.callee.now) (exprs_view c.args.arguments.now) c.args.handler c.in_ok-callee.ensures.evaluated c.in_ok-arguments.ensures.evaluated
    (subst (λ k. AreResults (Calls (path_view c.args.path) c.args.name.now (handler_label c.args.handler) c.args.here.now (prog_view c.args.prog.now)) k.good []) c.in_ok-faults.ensures
    (seen_none called_view (Calls (path_view c.args.path) c.args.name.now (handler_label c.args.handler) c.args.here.now (prog_view c.args.prog.now)) c.in_ok-faults.field-0.good c.in-None.is)))
