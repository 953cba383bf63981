use Rattle.std.proofs.Common.{◌≡◌, [], sym, subst}
use Rattle.gil_syntax.specs.Program.{prog_view}
use Rattle.pure_terms.specs.View.{term_view}
use Rattle.sym_leaving.specs.Leaving.{IsThrown, caught, uncaught}
use Rattle.sym_leaving.specs.View.{thrown_view}
use Rattle.sym_paths.specs.View.{path_view}
use Rattle.sym_states.proofs.Values.{ok_to}
use Rattle.sym_states.specs.View.{facts_view, state_view}
use Rattle.checked_paths.specs.Following.{IsAnswered}
use Rattle.checked_paths.specs.View.{checking_view, entry_view, next_view}
use Rattle.checked_rows.specs.States.{with_state}
use Rattle.call_rows.specs.declared.leaving.Completion.{Completion}
use Rattle.call_rows.specs.Leaving.{EndsEntry, EndsOver, GoesOnAfter}
use Rattle.call_rows.proofs.LeavingLaws.{uncaught_over}
use Rattle.checked_paths.specs.Causes.{ShowsEnd}
use Rattle.checked_paths.proofs.Exact.{if_ok_both}
use Rattle.checked_rows.specs.Asking.{AddsTo, AsksEntryEnd}
use Rattle.call_rows.specs.Asked.{AsksCompleting}
use Rattle.call_rows.proofs.AskedLaws.{adds_to, answer_adds, conds_kept}
use Rattle.call_rows.proofs.leaving.thrown_next.Goals as goal

pub returns-in-Caught-clause-answer : goal.returns-in-Caught-clause-answer
returns-in-Caught-clause-answer g c =
    let stands = g.M.SymMemory.stands in
    let terms = g.M.SymMemory.terms in
    let y = checking_view c.args.checking.now in
    let r = state_view c.args.state in
    let t = term_view c.args.term.now in
    let next = path_view c.in-Caught.path in
    let thrown : IsThrown stands terms (with_state y.path r) t (caught next) =
    subst (λ q. IsThrown stands terms q t (caught next)) c.in_ok-path.ensures.path (subst (λ k. IsThrown stands terms (path_view c.in_ok-path.path) t (thrown_view k)) c.in-Caught.is c.in_ok-path-2.ensures) in
    ok_to c.follow.result (λ n. IsAnswered stands terms (facts_view c.in_ok-path.preds) y.passed next (next_view n)) (λ n. GoesOnAfter (prog_view c.args.prog.now) stands terms (entry_view c.args.spec.now c.args.entered.now) y c.args.here.now Completion.Throws t r (next_view n))
    (λ n answered. (caught next, (thrown, subst (λ fs. IsAnswered stands terms fs y.passed next (next_view n)) c.in_ok-path.ensures.facts answered))) c.follow.ensures.answer

pub uncaught_next-requires-clause-over : goal.uncaught_next-requires-clause-over
uncaught_next-requires-clause-over g c =
    let stands = g.M.SymMemory.stands in
    let terms = g.M.SymMemory.terms in
    let e = entry_view c.args.spec.now c.args.entered.now in
    let y = checking_view c.args.checking.now in
    let r = state_view c.args.state in
    let t = term_view c.args.term.now in
    let next = path_view c.in-Uncaught.path in
    let thrown : IsThrown stands terms (with_state y.path r) t (uncaught next) =
    subst (λ q. IsThrown stands terms q t (uncaught next)) c.in_ok-path.ensures.path (subst (λ k. IsThrown stands terms (path_view c.in_ok-path.path) t (thrown_view k)) c.in-Uncaught.is c.in_ok-path-2.ensures) in
    subst (λ fs. EndsOver terms e t fs next) (sym c.in_ok-path.ensures.facts) (uncaught_over terms e t y r next c.requires.may thrown.no_frame)

pub returns-clause-answer : goal.returns-clause-answer
returns-clause-answer g c =
    let p = prog_view c.args.prog.now in
    let stands = g.M.SymMemory.stands in
    let terms = g.M.SymMemory.terms in
    let e = entry_view c.args.spec.now c.args.entered.now in
    let y = checking_view c.args.checking.now in
    let r = state_view c.args.state in
    let t = term_view c.args.term.now in
    let next = path_view c.in-Uncaught.path in
    let thrown : IsThrown stands terms (with_state y.path r) t (uncaught next) =
    subst (λ q. IsThrown stands terms q t (uncaught next)) c.in_ok-path.ensures.path (subst (λ k. IsThrown stands terms (path_view c.in_ok-path.path) t (thrown_view k)) c.in-Uncaught.is c.in_ok-path-2.ensures) in
    ok_to c.uncaught_next.result (λ n. EndsEntry p stands terms e c.args.here.now (facts_view c.in_ok-path.preds) t next (next_view n)) (λ n. GoesOnAfter p stands terms e y c.args.here.now Completion.Throws t r (next_view n))
    (λ n ends. (uncaught next, (thrown, subst (λ fs. EndsEntry p stands terms e c.args.here.now fs t next (next_view n)) c.in_ok-path.ensures.facts ends))) c.uncaught_next.ensures.answer

pub returns-in-Caught-clause-asked : goal.returns-in-Caught-clause-asked
returns-in-Caught-clause-asked g c =
    let stands = g.M.SymMemory.stands in
    let terms = g.M.SymMemory.terms in
    let p = prog_view c.args.prog.now in
    let e = entry_view c.args.spec.now c.args.entered.now in
    let y = checking_view c.args.checking.now in
    let r = state_view c.args.state in
    let t = term_view c.args.term.now in
    let next = path_view c.in-Caught.path in
    let facts = facts_view c.in_ok-path.preds in
    let Own = AsksCompleting p e Completion.Throws in
    let thrown : IsThrown stands terms (with_state y.path r) t (caught next) =
    subst (λ q. IsThrown stands terms q t (caught next)) c.in_ok-path.ensures.path (subst (λ k. IsThrown stands terms (path_view c.in_ok-path.path) t (thrown_view k)) c.in-Caught.is c.in_ok-path-2.ensures) in
    let same : next.conds ≡ r.conds = conds_kept next (with_state y.path r) next.stack thrown.keeps.same_else in
    if_ok_both (λ n. IsAnswered stands terms facts y.passed next (next_view n)) (λ n. ShowsEnd c.args.here.now next (next_view n)) (λ n. AddsTo Own r.conds (next_view n)) c.follow.result
    (λ n answered shows. subst (λ cs. AddsTo Own cs (next_view n)) same (answer_adds stands terms Own facts y.passed c.args.here.now next (next_view n) answered shows)) c.follow.ensures.answer c.follow.ensures.shows

pub returns-clause-asked : goal.returns-clause-asked
returns-clause-asked g c =
    let stands = g.M.SymMemory.stands in
    let terms = g.M.SymMemory.terms in
    let p = prog_view c.args.prog.now in
    let e = entry_view c.args.spec.now c.args.entered.now in
    let y = checking_view c.args.checking.now in
    let r = state_view c.args.state in
    let t = term_view c.args.term.now in
    let next = path_view c.in-Uncaught.path in
    let thrown : IsThrown stands terms (with_state y.path r) t (uncaught next) =
    subst (λ q. IsThrown stands terms q t (uncaught next)) c.in_ok-path.ensures.path (subst (λ k. IsThrown stands terms (path_view c.in_ok-path.path) t (thrown_view k)) c.in-Uncaught.is c.in_ok-path-2.ensures) in
    let same : next.conds ≡ r.conds = conds_kept next (with_state y.path r) [] thrown.no_frame in
    ok_to c.uncaught_next.result (λ n. AddsTo (AsksEntryEnd p e e.spec.errors) next.conds (next_view n)) (λ n. AddsTo (AsksCompleting p e Completion.Throws) r.conds (next_view n))
    (λ n adds. adds_to (AsksEntryEnd p e e.spec.errors) (AsksCompleting p e Completion.Throws) (λ a asks. asks) r.conds (next_view n) (subst (λ cs. AddsTo (AsksEntryEnd p e e.spec.errors) cs (next_view n)) same adds)) c.uncaught_next.ensures.asked
