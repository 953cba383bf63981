use Rattle.std.proofs.Common.{◌≡◌, length}
use Rattle.sym_paths.specs.Throws.{handling}
use Rattle.sym_engine.proofs.throwing.take_catcher.Given as goal
use Rattle.sym_paths.specs.View.{frames_view}

abbrev pub invariant-loop-frame : goal.invariant-loop-frame
invariant-loop-frame l = handling (frames_view l.fn.frames) ≡ handling (frames_view l.frames)

abbrev pub decreases-loop-frame : goal.decreases-loop-frame
decreases-loop-frame l = length (frames_view l.frames)
