use Rattle.std.proofs.Common.{◌≡◌, ◌∷◌, [], ◌++◌, None, sym, subst}
use Rattle.pure_terms.specs.View.{term_view, terms_view}
use Rattle.sym_engine.specs.View.{candidate_view}
use Rattle.sym_engine.proofs.Arguments.{done_acts}
use Rattle.sym_engine.proofs.Leaving.{if_ok_map}
use Rattle.sym_engine.proofs.acting.act_to.Goals as goal
use Rattle.sym_evaluation.specs.Pure.{PureStore}
use Rattle.sym_evaluation.specs.View.{good_view}
use Rattle.sym_model.specs.View.{branch_view, result_view}
use Rattle.sym_paths.specs.Laws.{IsBound}
use Rattle.sym_paths.specs.Moves.{advanced, running_store}
use Rattle.sym_paths.specs.View.{path_view}
use Rattle.sym_paths.specs.Acting.{ActsTo}

pub returns-in-Done : goal.returns-in-Done
returns-in-Done g c =
    let path = path_view c.args.path in
    let q = path_view c.in_ok-path.path in
    let good = good_view terms_view c.args.good.now in
    let branch = branch_view c.args.branch in
    if_ok_map
    (λ k. (bs : PureStore) × (IsBound (running_store q.stack) c.args.name.now (term_view c.in-Done.term) bs × (candidate_view k ≡ record { path = record q { choices = q.choices ++ 0 ∷ []; stack = advanced bs q.stack; ending = None }; no_fault = [] })))
    (λ k. ActsTo path c.args.name.now c.args.here.now c.args.takes good branch (result_view c.args.branch.result) (candidate_view k)) c.finish.result
    (λ k (bs, (bound, is)). subst (λ r. ActsTo path c.args.name.now c.args.here.now c.args.takes good branch (result_view r) (candidate_view k)) (sym c.in-Done.is)
    (done_acts c.args.name.now c.args.here.now c.args.takes good path q branch (term_view c.in-Done.term) bs (candidate_view k) c.in_ok-path.ensures bound is))
    c.finish.ensures
