use Rattle.std.proofs.Common.{◌≡◌, ◌+◌, ◌∷◌, subst}
use Rattle.pure_terms.specs.View.{term_view}
use Rattle.sym_engine.proofs.Leaving.{assigned_frames, on_ok_map}
use Rattle.sym_engine.proofs.frames.assign.Goals as goal
use Rattle.sym_evaluation.specs.Pure.{PureStore}
use Rattle.sym_evaluation.specs.View.{store_view}
use Rattle.sym_paths.specs.Laws.{IsBound}
use Rattle.sym_paths.specs.Moves.{running_store, advanced}
use Rattle.sym_paths.specs.View.{frame_view, frames_view}

pub returns : goal.returns
returns c =
    let old = frames_view c.args.frames.now in
    let new = frames_view c.run_in.new.frames in
    let running = frame_view c.in-Some.running in
    let waiting = frames_view c.take.new.frames in
    let store = store_view c.set.new.self in
    let bound : IsBound running.store c.args.name.now (term_view c.args.term) store = subst (λ n. IsBound running.store n (term_view c.args.term) store) c.in_ok-copy-in-Some.ensures c.in_ok-set-in-Some.ensures.ok in
    on_ok_map (new ≡ record running { next = running.next + 1; store = store } ∷ waiting) ((bs : PureStore) × (IsBound (running_store old) c.args.name.now (term_view c.args.term) bs × (new ≡ advanced bs old))) c.run_in.result
    (λ is. assigned_frames old waiting new running c.args.name.now (term_view c.args.term) store c.in-Some.ensures bound is) c.run_in.ensures
