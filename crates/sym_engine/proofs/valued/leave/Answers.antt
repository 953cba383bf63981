use Rattle.std.proofs.Common.{◌<◌, subst}
use Rattle.sym_engine.proofs.Leaving.{some_wait}
use Rattle.sym_engine.proofs.valued.leave.Goals as goal
use Rattle.sym_paths.specs.View.{frame_view, frames_view}

pub unreachable-requires-in_default-take : goal.unreachable-requires-in_default-take
unreachable-requires-in_default-take g c =
    some_wait c.args.path.stack (frame_view c.in-Some.field-0) (frames_view c.take.new.frames) (subst (λ n. 1 < n) c.len.ensures c.if-len-le1.false) c.in-Some.ensures c.in_default-take.ensures.0
