use Rattle.std.proofs.Common.{◌-◌, length, ap, sym, ◌∙◌, arith}
use Rattle.std.proofs.lemmas.Option.{slice_get_read}
use Rattle.sym_paths.specs.View.{frames_view}
use Rattle.sym_paths.proofs.FirstFrame.{runs_first}
use Rattle.sym_paths.proofs.frames.running.Goals as goal

pub returns-in-len1-up : goal.returns-in-len1-up
returns-in-len1-up c =
    let frames = c.as_slice.result.now in
    let (waiting, is) = runs_first frames c.running-item.result c.in-len1-up.len_at_least
    (slice_get_read frames (length frames) (length frames - 1) c.running-item.result (λ i. length frames) (omega (arith, c.in-len1-up.len_at_least)) c.running-item.is) in
    (waiting, ap frames_view (sym c.as_slice.ensures) ∙ is)
