use Rattle.std.proofs.Common.{◌≡◌, [], ◌∷◌, ◌++◌, ap, subst, ◌∙◌}
use Rattle.std.proofs.lemmas.List.{map-append}
use Rattle.sym_paths.specs.Moves.{passing}
use Rattle.sym_paths.specs.View.{path_view}
use Rattle.sym_states.proofs.Values.{ok_to}
use Rattle.sym_states.specs.View.{fact_view, facts_view, state_view}
use Rattle.checked_paths.specs.Following.{IsAnswered}
use Rattle.checked_paths.specs.View.{checking_view, next_view}
use Rattle.checked_rows.specs.Folding.{GoesOnIn}
use Rattle.checked_rows.specs.States.{with_state}
use Rattle.sym_paths.specs.Pure.{PurePath}
use Rattle.checked_paths.specs.Causes.{ShowsEnd}
use Rattle.checked_paths.proofs.Exact.{if_ok_both}
use Rattle.checked_rows.specs.Asked.{HasConds}
use Rattle.checked_rows.proofs.AskedLaws.{same_answer}
use Rattle.checked_rows.proofs.folding.go_on_with.Goals as goal

pub returns-clause-goes : goal.returns-clause-goes
returns-clause-goes g c =
    let stands = g.M.SymMemory.stands in
    let terms = g.M.SymMemory.terms in
    let x = checking_view c.args.checking.now in
    let s = state_view c.args.state in
    let facts : facts_view c.push.new.self ≡ s.facts ++ fact_view c.args.fact ∷ [] =
    ap facts_view c.in_ok-push.ensures.ok ∙ (map-append fact_view c.in_ok-path.preds (c.args.fact ∷ []) ∙ ap (λ cs. cs ++ fact_view c.args.fact ∷ []) c.in_ok-path.ensures.facts) in
    let path : path_view c.in_ok-pass.field-0 ≡ passing (with_state x.path s) = c.in_ok-pass.ensures ∙ ap (λ q. passing q) c.in_ok-path.ensures.path in
    ok_to c.follow.result (λ n. IsAnswered stands terms (facts_view c.push.new.self) x.passed (path_view c.in_ok-pass.field-0) (next_view n)) (λ n. GoesOnIn stands terms x s (s.facts ++ fact_view c.args.fact ∷ []) (next_view n))
    (λ n answered. subst (λ fs. IsAnswered stands terms fs x.passed (passing (with_state x.path s)) (next_view n)) facts (subst (λ q. IsAnswered stands terms (facts_view c.push.new.self) x.passed q (next_view n)) path answered))
    c.follow.ensures.answer

pub returns-clause-same : goal.returns-clause-same
returns-clause-same g c =
    let stands = g.M.SymMemory.stands in
    let terms = g.M.SymMemory.terms in
    let x = checking_view c.args.checking.now in
    let s = state_view c.args.state in
    let next = path_view c.in_ok-pass.field-0 in
    let path : next ≡ passing (with_state x.path s) = c.in_ok-pass.ensures ∙ ap (λ q. passing q) c.in_ok-path.ensures.path in
    if_ok_both (λ n. IsAnswered stands terms (facts_view c.push.new.self) x.passed next (next_view n)) (λ n. ShowsEnd c.args.here.now next (next_view n)) (λ n. HasConds s.conds (next_view n)) c.follow.result
    (λ n answer shows. subst (λ (q : PurePath g.row.M.Denot). HasConds q.conds (next_view n)) path (same_answer stands terms (facts_view c.push.new.self) x.passed c.args.here.now next (next_view n) answer shows)) c.follow.ensures.answer c.follow.ensures.shows
