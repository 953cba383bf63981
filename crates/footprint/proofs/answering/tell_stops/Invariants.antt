use Rattle.std.proofs.Common.{◌≡◌, ◌++◌, length}
use Rattle.std.specs.Vec.Iter.{into_iter_items, into_iter_len}
use Rattle.footprint.specs.Answers.{TellsStops}
use Rattle.footprint.specs.View.{stops_view, told_view}
use Rattle.footprint.proofs.answering.tell_stops.Given as goal

abbrev pub invariant-loop-stop : goal.invariant-loop-stop
invariant-loop-stop g l = record {
  counted : into_iter_len l.stop-iterator ≡ length (into_iter_items l.stop-iterator);
  rest : l.fn.stops ≡ l.yielded ++ into_iter_items l.stop-iterator;
  tells : TellsStops l.vars (stops_view l.yielded) (told_view l.told);
}
