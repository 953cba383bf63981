use Rattle.std.proofs.Common.{◌<◌, length, arith}
use Rattle.gil_syntax.specs.Program.{prog_view}
use Rattle.syntax_print.specs.Programs.{printed_proc}
use Rattle.gil_print.proofs.Adding.{one_added}
use Rattle.gil_print.proofs.printing.push_procs.Goals as goal

pub loop-place-preserved : goal.loop-place-preserved
loop-place-preserved c =
    let below : c.loop-place.place < length (prog_view c.args.prog.now).procs = omega (arith, c.proc_count-place-end.ensures) in
    one_added printed_proc _ c.loop-place.place _ _ _ below c.loop-place.invariant c.in_ok-push_proc_at.ensures
