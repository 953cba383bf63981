use Rattle.std.proofs.Common.{◌∷◌, [], ap, sym, subst, ◌∙◌}
use Rattle.std.proofs.lemmas.List.{append-nil, map-append}
use Rattle.gil_syntax.specs.Pure.{throw as pure_throw}
use Rattle.gil_syntax.specs.View.{expr_view}
use Rattle.sym_engine.specs.Lawful.{AreLawful}
use Rattle.sym_engine.specs.Narrow.{StayNarrow}
use Rattle.sym_engine.specs.Plain.{StayPlain}
use Rattle.sym_engine.specs.View.{candidate_view, candidates_view}
use Rattle.sym_engine.proofs.Copied.{throw_lawful, some_results, no_results}
use Rattle.sym_engine.proofs.Staying.{throw_plain}
use Rattle.sym_engine.proofs.StayingNarrow.{throw_narrow}
use Rattle.sym_engine.proofs.throwing.throw_candidates.Goals as goal
use Rattle.sym_evaluation.specs.View.{cases_view}
use Rattle.sym_paths.specs.View.{path_view}
use Rattle.sym_paths.specs.Throws.{Throws}

pub returns-in_ok-push-in-Some-clause-lawful : goal.returns-in_ok-push-in-Some-clause-lawful
returns-in_ok-push-in-Some-clause-lawful g c =
    let pushed = ap candidates_view c.in_ok-push-in-Some.ensures.ok ∙ map-append candidate_view c.in_ok-candidates.candidates (c.in_ok-throw_result-in-Some.field-0 ∷ []) in
    subst (AreLawful g.M.SymMemory.stands g.M.SymMemory.terms g.M.SymMemory.asked g.M.Local.LocalMemory.actions (path_view c.args.path) c.args.here.now (pure_throw (expr_view c.args.expression.now))) (sym pushed)
    (throw_lawful g.M.SymMemory.stands g.M.SymMemory.terms g.M.SymMemory.depends g.M.SymMemory.plain g.M.SymMemory.asked g.M.Local.LocalMemory.actions (path_view c.args.path) c.args.here.now (cases_view c.in_ok-faults.field-0) (candidates_view c.in_ok-candidates.candidates) (candidate_view c.in_ok-throw_result-in-Some.field-0 ∷ []) c.in_ok-candidates.ensures
    (expr_view c.args.expression.now) c.in_ok-faults.ensures.evaluated (some_results (Throws (path_view c.args.path) c.args.here.now (path_view c.args.path).stack) c.in_ok-faults.field-0.good c.in-Some.good (candidate_view c.in_ok-throw_result-in-Some.field-0 ∷ []) c.in-Some.is c.in_ok-throw_result-in-Some.ensures))

pub returns-in-None-clause-lawful : goal.returns-in-None-clause-lawful
returns-in-None-clause-lawful g c =
    subst (AreLawful g.M.SymMemory.stands g.M.SymMemory.terms g.M.SymMemory.asked g.M.Local.LocalMemory.actions (path_view c.args.path) c.args.here.now (pure_throw (expr_view c.args.expression.now))) (append-nil (candidates_view c.in_ok-candidates.candidates))
    (throw_lawful g.M.SymMemory.stands g.M.SymMemory.terms g.M.SymMemory.depends g.M.SymMemory.plain g.M.SymMemory.asked g.M.Local.LocalMemory.actions (path_view c.args.path) c.args.here.now (cases_view c.in_ok-faults.field-0) (candidates_view c.in_ok-candidates.candidates) [] c.in_ok-candidates.ensures
    (expr_view c.args.expression.now) c.in_ok-faults.ensures.evaluated (no_results (Throws (path_view c.args.path) c.args.here.now (path_view c.args.path).stack) c.in_ok-faults.field-0.good c.in-None.is))

pub returns-in_ok-push-in-Some-clause-plain : goal.returns-in_ok-push-in-Some-clause-plain
returns-in_ok-push-in-Some-clause-plain g c =
    let pushed = ap candidates_view c.in_ok-push-in-Some.ensures.ok ∙ map-append candidate_view c.in_ok-candidates.candidates (c.in_ok-throw_result-in-Some.field-0 ∷ []) in
    λ keeps. subst (StayPlain g.M.SymMemory.plain (path_view c.args.path) (pure_throw (expr_view c.args.expression.now))) (sym pushed)
    (throw_plain g.M.SymMemory.stands g.M.SymMemory.terms g.M.SymMemory.depends g.M.SymMemory.plain (path_view c.args.path) c.args.here.now (expr_view c.args.expression.now) (cases_view c.in_ok-faults.field-0) (candidates_view c.in_ok-candidates.candidates) (candidate_view c.in_ok-throw_result-in-Some.field-0 ∷ []) c.in_ok-candidates.ensures c.in_ok-faults.ensures.plain
    (some_results (Throws (path_view c.args.path) c.args.here.now (path_view c.args.path).stack) c.in_ok-faults.field-0.good c.in-Some.good (candidate_view c.in_ok-throw_result-in-Some.field-0 ∷ []) c.in-Some.is c.in_ok-throw_result-in-Some.ensures))

pub returns-in-None-clause-plain : goal.returns-in-None-clause-plain
returns-in-None-clause-plain g c =
    λ keeps. subst (StayPlain g.M.SymMemory.plain (path_view c.args.path) (pure_throw (expr_view c.args.expression.now))) (append-nil (candidates_view c.in_ok-candidates.candidates))
    (throw_plain g.M.SymMemory.stands g.M.SymMemory.terms g.M.SymMemory.depends g.M.SymMemory.plain (path_view c.args.path) c.args.here.now (expr_view c.args.expression.now) (cases_view c.in_ok-faults.field-0) (candidates_view c.in_ok-candidates.candidates) [] c.in_ok-candidates.ensures c.in_ok-faults.ensures.plain (no_results (Throws (path_view c.args.path) c.args.here.now (path_view c.args.path).stack) c.in_ok-faults.field-0.good c.in-None.is))

pub returns-in_ok-push-in-Some-clause-narrow : goal.returns-in_ok-push-in-Some-clause-narrow
returns-in_ok-push-in-Some-clause-narrow g c =
    let pushed = ap candidates_view c.in_ok-push-in-Some.ensures.ok ∙ map-append candidate_view c.in_ok-candidates.candidates (c.in_ok-throw_result-in-Some.field-0 ∷ []) in
    subst (StayNarrow g.M.SymMemory.terms (path_view c.args.path) (pure_throw (expr_view c.args.expression.now))) (sym pushed)
    (throw_narrow g.M.SymMemory.stands g.M.SymMemory.terms g.M.SymMemory.depends g.M.SymMemory.plain (path_view c.args.path) c.args.here.now (expr_view c.args.expression.now) (cases_view c.in_ok-faults.field-0) (candidates_view c.in_ok-candidates.candidates) (candidate_view c.in_ok-throw_result-in-Some.field-0 ∷ []) c.in_ok-candidates.ensures c.in_ok-faults.ensures.evaluated
    (some_results (Throws (path_view c.args.path) c.args.here.now (path_view c.args.path).stack) c.in_ok-faults.field-0.good c.in-Some.good (candidate_view c.in_ok-throw_result-in-Some.field-0 ∷ []) c.in-Some.is c.in_ok-throw_result-in-Some.ensures))

pub returns-in-None-clause-narrow : goal.returns-in-None-clause-narrow
returns-in-None-clause-narrow g c =
    subst (StayNarrow g.M.SymMemory.terms (path_view c.args.path) (pure_throw (expr_view c.args.expression.now))) (append-nil (candidates_view c.in_ok-candidates.candidates))
    (throw_narrow g.M.SymMemory.stands g.M.SymMemory.terms g.M.SymMemory.depends g.M.SymMemory.plain (path_view c.args.path) c.args.here.now (expr_view c.args.expression.now) (cases_view c.in_ok-faults.field-0) (candidates_view c.in_ok-candidates.candidates) [] c.in_ok-candidates.ensures c.in_ok-faults.ensures.evaluated (no_results (Throws (path_view c.args.path) c.args.here.now (path_view c.args.path).stack) c.in_ok-faults.field-0.good c.in-None.is))
