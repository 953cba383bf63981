use Rattle.std.proofs.Common.{◌∷◌, subst}
use Rattle.pure_terms.specs.View.{term_view}
use Rattle.sym_leaving.proofs.ThrowLaws.{is_caught, is_uncaught}
use Rattle.sym_leaving.proofs.throwing.throw_with.Goals as goal
use Rattle.sym_paths.specs.Frames.{Catches}
use Rattle.sym_paths.specs.View.{frame_view, frames_view, path_view}

pub returns-in_ok-catch-in-Some-take_catcher : goal.returns-in_ok-catch-in-Some-take_catcher
returns-in_ok-catch-in-Some-take_catcher g c =
    is_caught g.M.SymMemory.stands g.M.SymMemory.terms (path_view c.args.path) (term_view c.args.thrown.now) (frame_view c.in-Some.field-0) (frames_view c.take.new.frames) c.in-Some.ensures
    (frame_view c.in-Some-take_catcher.catcher.frame) (frames_view c.take_catcher.new.frames) c.in-Some-take_catcher.ensures.0 (frames_view c.catch.new.frames)
    (subst (λ t. Catches t (frame_view c.in-Some-take_catcher.catcher.frame ∷ frames_view c.take_catcher.new.frames) (frames_view c.catch.new.frames)) c.in_ok-copy-in-Some-take_catcher.ensures c.in_ok-catch-in-Some-take_catcher.ensures)

pub returns-in-None : goal.returns-in-None
returns-in-None g c =
    is_uncaught g.M.SymMemory.stands g.M.SymMemory.terms (path_view c.args.path) (term_view c.args.thrown.now) (frame_view c.in-Some.field-0) (frames_view c.take.new.frames) c.in-Some.ensures
    c.in-None.ensures.0 (frames_view c.take_catcher.new.frames) c.in-None.ensures.1
