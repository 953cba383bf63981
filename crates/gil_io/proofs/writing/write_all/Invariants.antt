use Rattle.std.proofs.Common.{◌≡◌, length}
use Rattle.gil_io.proofs.Known.{Given}
use Rattle.gil_io.proofs.writing.write_all.Given as goal

abbrev pub invariant-loop-rest : goal.invariant-loop-rest
invariant-loop-rest g l =
    Given (g.K.Sink.taken l.fn.sink) (g.K.Sink.taken l.sink) l.bytes l.rest
    × (g.K.Sink.faults l.sink ≡ g.K.Sink.faults l.fn.sink)
    × (g.K.Sink.room l.sink ≡ g.K.Sink.room l.fn.sink)

abbrev pub decreases-loop-rest : goal.decreases-loop-rest
decreases-loop-rest g l = length l.rest
