use Rattle.std.proofs.Common.{◌≡◌, ◌∷◌, ap, subst, ◌∙◌}
use Rattle.gil_syntax.specs.View.{proc_view}
use Rattle.pure_terms.specs.View.{terms_view, atoms_view}
use Rattle.sym_engine.specs.Lawful.{proceeding}
use Rattle.sym_engine.specs.View.{called_view, candidate_view}
use Rattle.sym_engine.proofs.Leaving.{if_ok_map}
use Rattle.sym_engine.proofs.calling.enter.Goals as goal
use Rattle.sym_evaluation.specs.Pure.{PureStore}
use Rattle.sym_evaluation.specs.View.{good_view}
use Rattle.sym_paths.specs.View.{frames_view, path_view}
use Rattle.sym_paths.specs.Calls.{IsFirstStore, waiting, called_frame, entering}

pub returns : goal.returns
returns g c =
    let path = path_view c.args.path in
    let proc = proc_view c.args.proc.now in
    let args = terms_view c.args.good.result.args in
    let conds = atoms_view c.args.good.conds in
    let (store, (first, frame)) = c.in_ok-first_frame.ensures in
    let stack : frames_view c.run_in.new.frames ≡ called_frame proc store ∷ waiting c.args.name.now c.args.handler path.stack = c.in_ok-run_in.ensures ∙ ap (λ f. f ∷ frames_view c.wait.new.frames) frame ∙ ap (λ fs. called_frame proc store ∷ fs) c.in_ok-wait.ensures in
    if_ok_map (λ k. candidate_view k ≡ proceeding path (frames_view c.run_in.new.frames) conds)
    (λ k. (bs : PureStore) × (IsFirstStore proc.params args bs × (candidate_view k ≡ entering path c.args.name.now c.args.handler c.args.here.now proc bs (good_view called_view c.args.good)))) c.proceed.result
    (λ k is. (store, (subst (λ ts. IsFirstStore proc.params ts store) c.as_slice.ensures first, is ∙ ap (λ fs. proceeding path fs conds) stack)))
    c.proceed.ensures
