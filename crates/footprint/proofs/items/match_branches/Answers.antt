use Rattle.std.proofs.Common.{[], ◌∷◌, ◌++◌, sym, subst}
use Rattle.std.proofs.lemmas.List.{map-append}
use Rattle.gil_syntax.specs.View.{exprs_view}
use Rattle.sym_evaluation.specs.View.{store_view}
use Rattle.sym_model.specs.View.{branch_view, branches_view}
use Rattle.sym_states.specs.View.{state_view}
use Rattle.footprint.specs.Items.{MatchesResult, MatchesBranch}
use Rattle.footprint.specs.Spreading.{Gathers}
use Rattle.footprint.specs.View.{leaves_view}
use Rattle.footprint.proofs.Parts.{gathers_more}
use Rattle.footprint.proofs.items.match_branches.Goals as goal

pub loop-branch-preserved : goal.loop-branch-preserved
loop-branch-preserved g c =
    let s = state_view c.args.state.now in
    let bs = store_view c.args.store.now in
    let es = exprs_view c.args.outs.now in
    let P = MatchesBranch c.args.number c.args.scope.now es bs s in
    let b = branch_view c.in-Some.branch in
    let here : P b (leaves_view c.in_ok-more.more) = subst (λ q. MatchesResult c.args.number c.args.scope.now es bs q b.result (leaves_view c.in_ok-more.more)) c.in_ok-next.ensures c.in_ok-more.ensures in
    subst (λ xs. Gathers P xs (leaves_view c.in_ok-leaves.leaves)) (sym (map-append branch_view c.loop-branch.yielded (c.in-Some.branch ∷ [])))
    (subst (Gathers P (branches_view c.loop-branch.yielded ++ b ∷ [])) (sym c.in_ok-leaves.ensures)
    (gathers_more P (branches_view c.loop-branch.yielded) b (leaves_view c.loop-branch.leaves) (leaves_view c.in_ok-more.more) c.loop-branch.invariant here))
