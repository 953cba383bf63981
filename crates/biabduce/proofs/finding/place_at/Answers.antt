use Rattle.std.proofs.Common.{ap}
use Rattle.gil_syntax.specs.View.{numbered_command_view}
use Rattle.sym_paths.specs.View.{frame_view, frames_view}
use Rattle.biabduce.proofs.Asking.{placed_at}
use Rattle.biabduce.proofs.finding.place_at.Goals as goal

pub returns : goal.returns
returns c p at =
    let (waiting, is) = c.in-Some.ensures in
    placed_at p (frames_view c.args.frames.now) (numbered_command_view c.args.numbered.now) _ (frame_view c.in-Some.frame.now) waiting is
    (ap (λ proc. record { proc = proc; at = c.args.numbered.now.at }) c.in_ok-proc.ensures) at
