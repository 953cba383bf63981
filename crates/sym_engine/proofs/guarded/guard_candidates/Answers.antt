use Rattle.std.proofs.Common.{[], Some, refl, ap, subst}
use Rattle.std.specs.Option.{option_map}
use Rattle.gil_syntax.specs.Pure.{ifgoto as pure_ifgoto}
use Rattle.gil_syntax.specs.View.{expr_view}
use Rattle.pure_terms.specs.View.{term_view}
use Rattle.sym_engine.specs.Lawful.{AddsCopies, AreLawful}
use Rattle.sym_engine.specs.Narrow.{StayNarrow}
use Rattle.sym_engine.specs.Plain.{StayPlain}
use Rattle.sym_engine.specs.View.{candidates_view}
use Rattle.sym_engine.proofs.Adding.{guard_lawful, adds_none}
use Rattle.sym_engine.proofs.Arguments.{seen_none}
use Rattle.sym_engine.proofs.Leaving.{if_ok_map}
use Rattle.sym_engine.proofs.Simpler.{guard_evaluated, guard_fails}
use Rattle.sym_engine.proofs.Staying.{guard_none, guard_some}
use Rattle.sym_engine.proofs.StayingNarrow.{guard_none_narrow, guard_some_narrow}
use Rattle.sym_engine.proofs.guarded.guard_candidates.Goals as goal
use Rattle.sym_evaluation.specs.Plainly.{GuardsPlainly}
use Rattle.sym_evaluation.proofs.GuardTerms.{plain_guard_stays}
use Rattle.sym_evaluation.specs.View.{cases_view, faults_view, good_view, sides_view}
use Rattle.sym_paths.specs.Moves.{running_store}
use Rattle.sym_paths.specs.Valued.{IsEvaluated}
use Rattle.sym_paths.specs.View.{path_view}
use Rattle.sym_paths.specs.Guards.{IsGuardEvaluated, Turns, turns}

pub returns-in-None-clause-lawful : goal.returns-in-None-clause-lawful
returns-in-None-clause-lawful g c =
    guard_lawful g.M.SymMemory.stands g.M.SymMemory.terms g.M.SymMemory.depends g.M.SymMemory.plain g.M.SymMemory.asked g.M.Local.LocalMemory.actions (path_view c.args.path) c.args.here.now (cases_view c.in_ok-faults.field-0) (candidates_view c.in_ok-candidates.candidates) (candidates_view c.in_ok-candidates.candidates) []
    c.in_ok-candidates.ensures (adds_none g.M.SymMemory.stands g.M.SymMemory.terms g.M.SymMemory.depends g.M.SymMemory.plain (candidates_view c.in_ok-candidates.candidates))
    (expr_view c.args.expression.now) c.args.label.now (guard_fails (running_store (path_view c.args.path).stack) (expr_view c.args.expression.now) (cases_view c.in_ok-faults.field-0) (ap (option_map (good_view term_view)) c.in-None.is) c.in_ok-faults.ensures.evaluated) (seen_none term_view (Turns (path_view c.args.path) c.args.label.now c.args.here.now) c.in_ok-faults.field-0.good c.in-None.is)

pub returns-in_ok-sides-in-Some-clause-lawful : goal.returns-in_ok-sides-in-Some-clause-lawful
returns-in_ok-sides-in-Some-clause-lawful g c =
    let path = path_view c.args.path in
    let e = expr_view c.args.expression.now in
    let guard = good_view term_view (record { conds = c.in-Some.good.conds; result = c.in_ok-result-in-Some.result }) in
    let evaluated : IsGuardEvaluated (running_store path.stack) e (record { faults = faults_view c.in_ok-faults.field-0.faults; good = Some guard }) =
    guard_evaluated (running_store path.stack) e c.in_ok-faults.field-0.good c.in-Some.good (faults_view c.in_ok-faults.field-0.faults) (term_view c.in_ok-result-in-Some.result) c.in-Some.is c.in_ok-faults.ensures.evaluated c.in_ok-result-in-Some.ensures in
    if_ok_map
    (λ cs. AddsCopies g.M.SymMemory.stands g.M.SymMemory.terms g.M.SymMemory.depends g.M.SymMemory.plain (turns path c.args.label.now c.args.here.now guard (sides_view c.in_ok-sides-in-Some.sides)) (candidates_view c.in_ok-candidates.candidates) (candidates_view cs))
    (λ cs. AreLawful g.M.SymMemory.stands g.M.SymMemory.terms g.M.SymMemory.asked g.M.Local.LocalMemory.actions path c.args.here.now (pure_ifgoto e c.args.label.now) (candidates_view cs)) c.add_sides.result
    (λ cs adds.
    guard_lawful g.M.SymMemory.stands g.M.SymMemory.terms g.M.SymMemory.depends g.M.SymMemory.plain g.M.SymMemory.asked g.M.Local.LocalMemory.actions path c.args.here.now (record { faults = faults_view c.in_ok-faults.field-0.faults; good = Some guard }) (candidates_view c.in_ok-candidates.candidates) (candidates_view cs)
    (turns path c.args.label.now c.args.here.now guard (sides_view c.in_ok-sides-in-Some.sides)) c.in_ok-candidates.ensures adds e c.args.label.now evaluated
    (sides_view c.in_ok-sides-in-Some.sides, (c.in_ok-sides-in-Some.ensures.sides, c.in_ok-sides-in-Some.ensures.origin, refl)))
    c.add_sides.ensures

pub returns-in-None-clause-plain : goal.returns-in-None-clause-plain
returns-in-None-clause-plain g c =
    λ keeps. guard_none g.M.SymMemory.stands g.M.SymMemory.terms g.M.SymMemory.depends g.M.SymMemory.plain (path_view c.args.path) c.args.here.now (expr_view c.args.expression.now) c.args.label.now (cases_view c.in_ok-faults.field-0) (candidates_view c.in_ok-candidates.candidates) c.in_ok-candidates.ensures c.in_ok-faults.ensures.guard
    (ap (option_map (good_view term_view)) c.in-None.is)

pub returns-in_ok-sides-in-Some-clause-plain : goal.returns-in_ok-sides-in-Some-clause-plain
returns-in_ok-sides-in-Some-clause-plain g c =
    let path = path_view c.args.path in
    let e = expr_view c.args.expression.now in
    let faults = faults_view c.in_ok-faults.field-0.faults in
    let good = good_view term_view c.in-Some.good in
    let term = term_view c.in_ok-result-in-Some.result in
    let sides = sides_view c.in_ok-sides-in-Some.sides in
    let answers : GuardsPlainly (running_store path.stack) e (record { faults = faults; good = Some good }) =
    subst (λ o. GuardsPlainly (running_store path.stack) e (record { faults = faults; good = option_map (good_view term_view) o })) c.in-Some.is c.in_ok-faults.ensures.guard in
    λ keeps. if_ok_map
    (λ cs. AddsCopies g.M.SymMemory.stands g.M.SymMemory.terms g.M.SymMemory.depends g.M.SymMemory.plain (turns path c.args.label.now c.args.here.now (record good { result = term }) sides) (candidates_view c.in_ok-candidates.candidates) (candidates_view cs))
    (λ cs. StayPlain g.M.SymMemory.plain path (pure_ifgoto (expr_view c.args.expression.now) c.args.label.now) (candidates_view cs)) c.add_sides.result
    (λ cs adds.
    guard_some g.M.SymMemory.stands g.M.SymMemory.terms g.M.SymMemory.depends g.M.SymMemory.plain path c.args.here.now e c.args.label.now faults good term sides (candidates_view c.in_ok-candidates.candidates) (candidates_view cs) c.in_ok-candidates.ensures adds answers
    (λ n plain. plain_guard_stays n good.result term plain c.in_ok-result-in-Some.ensures) c.in_ok-sides-in-Some.ensures.decided)
    c.add_sides.ensures

pub returns-in-None-clause-narrow : goal.returns-in-None-clause-narrow
returns-in-None-clause-narrow g c =
    guard_none_narrow g.M.SymMemory.stands g.M.SymMemory.terms g.M.SymMemory.depends g.M.SymMemory.plain (path_view c.args.path) c.args.here.now (expr_view c.args.expression.now) c.args.label.now (cases_view c.in_ok-faults.field-0) (candidates_view c.in_ok-candidates.candidates) c.in_ok-candidates.ensures c.in_ok-faults.ensures.evaluated

pub returns-in_ok-sides-in-Some-clause-narrow : goal.returns-in_ok-sides-in-Some-clause-narrow
returns-in_ok-sides-in-Some-clause-narrow g c =
    let path = path_view c.args.path in
    let e = expr_view c.args.expression.now in
    let faults = faults_view c.in_ok-faults.field-0.faults in
    let good = good_view term_view c.in-Some.good in
    let term = term_view c.in_ok-result-in-Some.result in
    let sides = sides_view c.in_ok-sides-in-Some.sides in
    let evaluated : IsEvaluated (running_store path.stack) e (record { faults = faults; good = Some good }) =
    subst (λ o. IsEvaluated (running_store path.stack) e (record { faults = faults; good = option_map (good_view term_view) o })) c.in-Some.is c.in_ok-faults.ensures.evaluated in
    if_ok_map
    (λ cs. AddsCopies g.M.SymMemory.stands g.M.SymMemory.terms g.M.SymMemory.depends g.M.SymMemory.plain (turns path c.args.label.now c.args.here.now (record good { result = term }) sides) (candidates_view c.in_ok-candidates.candidates) (candidates_view cs))
    (λ cs. StayNarrow g.M.SymMemory.terms path (pure_ifgoto (expr_view c.args.expression.now) c.args.label.now) (candidates_view cs)) c.add_sides.result
    (λ cs adds.
    guard_some_narrow g.M.SymMemory.stands g.M.SymMemory.terms g.M.SymMemory.depends g.M.SymMemory.plain path c.args.here.now e c.args.label.now faults good term sides (candidates_view c.in_ok-candidates.candidates) (candidates_view cs) c.in_ok-candidates.ensures adds evaluated
    c.in_ok-result-in-Some.ensures c.in_ok-sides-in-Some.ensures.origin)
    c.add_sides.ensures
