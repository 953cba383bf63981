use Rattle.std.proofs.Common.{◌≡◌, subst}
use Rattle.gil_syntax.specs.Program.{prog_view}
use Rattle.pure_terms.specs.View.{term_view}
use Rattle.sym_leaving.specs.Leaving.{IsLeft}
use Rattle.sym_paths.specs.View.{path_view}
use Rattle.sym_states.proofs.Values.{ok_to}
use Rattle.sym_states.specs.View.{facts_view, state_view}
use Rattle.checked_paths.specs.Following.{IsAnswered}
use Rattle.checked_paths.specs.View.{checking_view, entry_view, next_view}
use Rattle.checked_rows.specs.States.{with_state}
use Rattle.call_rows.specs.declared.leaving.Completion.{Completion}
use Rattle.call_rows.specs.Leaving.{GoesOnAfter}
use Rattle.checked_paths.specs.Causes.{ShowsEnd}
use Rattle.checked_paths.proofs.Exact.{if_ok_both}
use Rattle.checked_rows.specs.Asking.{AddsTo}
use Rattle.call_rows.specs.Asked.{AsksCompleting}
use Rattle.call_rows.proofs.AskedLaws.{answer_adds, conds_kept}
use Rattle.call_rows.proofs.leaving.returned_next.Goals as goal

pub returns-clause-answer : goal.returns-clause-answer
returns-clause-answer g c =
    let stands = g.M.SymMemory.stands in
    let terms = g.M.SymMemory.terms in
    let y = checking_view c.args.checking.now in
    let r = state_view c.args.state in
    let t = term_view c.args.term.now in
    let next = path_view c.in_ok-path-2.path in
    let left : IsLeft stands terms (with_state y.path r) t next =
    subst (λ q. IsLeft stands terms q t next) c.in_ok-path.ensures.path (subst (λ u. IsLeft stands terms (path_view c.in_ok-path.path) u next) c.in_ok-copy.ensures c.in_ok-path-2.ensures) in
    ok_to c.follow.result (λ n. IsAnswered stands terms (facts_view c.in_ok-path.preds) y.passed next (next_view n)) (λ n. GoesOnAfter (prog_view c.args.prog.now) stands terms (entry_view c.args.spec.now c.args.entered.now) y c.args.here.now Completion.Returns t r (next_view n))
    (λ n answered. (next, (left, subst (λ fs. IsAnswered stands terms fs y.passed next (next_view n)) c.in_ok-path.ensures.facts answered))) c.follow.ensures.answer

pub returns-clause-asked : goal.returns-clause-asked
returns-clause-asked g c =
    let stands = g.M.SymMemory.stands in
    let terms = g.M.SymMemory.terms in
    let p = prog_view c.args.prog.now in
    let e = entry_view c.args.spec.now c.args.entered.now in
    let y = checking_view c.args.checking.now in
    let r = state_view c.args.state in
    let t = term_view c.args.term.now in
    let next = path_view c.in_ok-path-2.path in
    let facts = facts_view c.in_ok-path.preds in
    let Own = AsksCompleting p e Completion.Returns in
    let left : IsLeft stands terms (with_state y.path r) t next =
    subst (λ q. IsLeft stands terms q t next) c.in_ok-path.ensures.path (subst (λ u. IsLeft stands terms (path_view c.in_ok-path.path) u next) c.in_ok-copy.ensures c.in_ok-path-2.ensures) in
    let same : next.conds ≡ r.conds = conds_kept next (with_state y.path r) next.stack left.keeps.same_else in
    if_ok_both (λ n. IsAnswered stands terms facts y.passed next (next_view n)) (λ n. ShowsEnd c.args.here.now next (next_view n)) (λ n. AddsTo Own r.conds (next_view n)) c.follow.result
    (λ n answered shows. subst (λ cs. AddsTo Own cs (next_view n)) same (answer_adds stands terms Own facts y.passed c.args.here.now next (next_view n) answered shows)) c.follow.ensures.answer c.follow.ensures.shows
