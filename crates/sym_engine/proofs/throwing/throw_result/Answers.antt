use Rattle.pure_terms.specs.View.{term_view}
use Rattle.sym_evaluation.specs.View.{good_view}
use Rattle.sym_paths.specs.View.{frame_view, frames_view, path_view}
use Rattle.sym_paths.specs.Throws.{Throws}
use Rattle.sym_paths.specs.Returns.{Resumes, resuming}
use Rattle.sym_paths.specs.Pure.{PureFrame}
use Rattle.std.proofs.Common.{◌≡◌, ◌∷◌, []}
use Rattle.sym_engine.specs.View.{candidate_view}
use Rattle.sym_engine.proofs.Leaving.{frame_catches, if_ok_map}
use Rattle.sym_engine.proofs.throwing.throw_result.Goals as goal

pub returns-in-Some-take_catcher : goal.returns-in-Some-take_catcher
returns-in-Some-take_catcher g c =
    if_ok_map
    (λ d. (r : PureFrame) × (Resumes (term_view c.args.good.result) (frame_view c.in-Some-take_catcher.catcher.frame) r
    × (candidate_view d ≡ resuming (path_view c.args.path) (record r { next = c.in-Some-take_catcher.catcher.label } ∷ frames_view c.take_catcher.new.frames) (good_view term_view c.args.good))))
    (λ d. Throws (path_view c.args.path) c.args.here.now (frames_view c.args.path.stack) (good_view term_view c.args.good) (candidate_view d ∷ []))
    c.catch_result.result
    (λ d. frame_catches (path_view c.args.path) c.args.here.now (good_view term_view c.args.good) (candidate_view d) (frames_view c.args.path.stack) (frames_view c.take.new.frames) (frames_view c.take_catcher.new.frames) (frame_view c.in-Some.field-0) (frame_view c.in-Some-take_catcher.catcher.frame) c.in-Some-take_catcher.catcher.label c.in-Some.ensures c.in-Some-take_catcher.ensures.0 c.in-Some-take_catcher.ensures.1)
    c.catch_result.ensures
