use Rattle.std.proofs.Common.{◌≡◌, [], ◌∷◌, sym, ap, subst, ◌∙◌}
use Rattle.sym_model.specs.Lists.{Each}
use Rattle.sym_paths.specs.Moves.{passing}
use Rattle.sym_paths.specs.Pure.{PurePath}
use Rattle.sym_paths.specs.View.{path_view}
use Rattle.sym_states.proofs.Values.{ok_to}
use Rattle.sym_states.specs.View.{facts_view}
use Rattle.checked_paths.specs.View.{checking_view, next_view, nexts_view, passed_by_view}
use Rattle.checked_rows.specs.Asked.{HasConds}
use Rattle.checked_rows.proofs.AskedLaws.{same_answer}
use Rattle.checked_rows.proofs.nexts.go_on.Goals as goal

pub returns-clause-same : goal.returns-clause-same
returns-clause-same g c =
    let stands = g.M.SymMemory.stands in
    let terms = g.M.SymMemory.terms in
    let x = checking_view c.args.checking in
    let parts = c.into_parts-path.result in
    let next = path_view c.in_ok-pass.field-0 in
    let n = next_view c.in_ok-next.next in
    let path : next ≡ passing x.path = c.in_ok-pass.ensures ∙ ap (λ q. passing (path_view q)) c.into_parts-path.ensures.path in
    let same : HasConds x.path.conds n =
    subst (λ (q : PurePath g.row.M.Denot). HasConds q.conds n) path (same_answer stands terms (facts_view parts.1) (passed_by_view parts.2) c.args.here.now next n c.in_ok-next.ensures.answer c.in_ok-next.ensures.shows) in
    ok_to c.alone.result (λ ns. nexts_view ns ≡ n ∷ []) (λ ns. Each (HasConds x.path.conds) (nexts_view ns)) (λ ns is. subst (Each (HasConds x.path.conds)) (sym is) (same, tt)) c.alone.ensures
