use Rattle.std.proofs.Common.{◌≡◌, ◌∙◌, sym, ap, subst}
use Rattle.gil_syntax.specs.View.{exprs_view}
use Rattle.pure_terms.specs.Pure.{list_of, from_list, to_list-from_list}
use Rattle.pure_terms.specs.View.{term_view, terms_view}
use Rattle.sym_evaluation.specs.View.{store_view}
use Rattle.sym_evaluation.proofs.Views.{term_view-List}
use Rattle.sym_states.specs.View.{state_view}
use Rattle.sym_states.proofs.Values.{ok_to}
use Rattle.footprint.specs.Items.{SpreadsValues, MatchesDone}
use Rattle.footprint.specs.View.{leaves_view}
use Rattle.footprint.proofs.items.match_done.Goals as goal

pub returns-in-List : goal.returns-in-List
returns-in-List g c =
    let ts = terms_view c.in-List.terms in
    let es = exprs_view c.args.outs.now in
    let bs = store_view c.args.store.now in
    let s = state_view c.args.state in
    let seen : list_of (from_list ts) ≡ term_view c.args.done.now = sym (ap term_view c.in-List.is ∙ term_view-List c.in-List.terms) in
    ok_to c.match_outs.result _ (λ r. MatchesDone c.args.number c.args.scope.now es bs s (term_view c.args.done.now) (leaves_view r))
    (λ r is. subst (λ t. MatchesDone c.args.number c.args.scope.now es bs s t (leaves_view r)) seen
    (subst (λ us. SpreadsValues c.args.number c.args.scope.now es bs s us (leaves_view r)) (sym (to_list-from_list ts)) is)) c.match_outs.ensures
