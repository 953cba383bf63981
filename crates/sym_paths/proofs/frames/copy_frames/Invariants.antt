use Rattle.std.proofs.Common.{◌≡◌, take, map}
use Rattle.sym_paths.specs.View.{frame_view}
use Rattle.sym_paths.proofs.frames.copy_frames.Given as goal

abbrev pub invariant-loop-frame : goal.invariant-loop-frame
invariant-loop-frame l = map frame_view l.copied ≡ map frame_view (take l.frame-index l.frame-items)
