use Rattle.std.proofs.Common.{[], ◌∷◌, sym, ap, ◌∙◌}
use Rattle.std.proofs.lemmas.List.{map-append}
use Rattle.sym_model.specs.View.{branch_view, branches_view}
use Rattle.sym_states.specs.Producing.{divided}
use Rattle.sym_states.specs.View.{state_view, arguments_view, production_view}
use Rattle.sym_states.proofs.Conditions.{open_seen}
use Rattle.sym_states.proofs.CoreItems.{divided_placed}
use Rattle.sym_states.proofs.adding.divide.Goals as goal

pub loop-branch-preserved : goal.loop-branch-preserved
loop-branch-preserved g c =
    let s = state_view c.args.state.now in
    let a = arguments_view c.args.arguments.now in
    c.in_ok-place.ensures
    ∙ divided_placed s a (branches_view c.loop-branch.yielded) (branch_view c.in-Some.branch) c.needs_form.result (state_view c.in_ok-next.next) (production_view c.loop-branch.production)
    (open_seen c.in-Some.branch.conds ∙ sym c.needs_form.ensures) c.in_ok-next.ensures c.loop-branch.invariant
    ∙ ap (divided s a) (sym (map-append branch_view c.loop-branch.yielded (c.in-Some.branch ∷ [])))
