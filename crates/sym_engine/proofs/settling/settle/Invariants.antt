use Rattle.std.proofs.Common.{◌≡◌, ◌++◌, length}
use Rattle.std.specs.Vec.Iter.{into_iter_len, into_iter_items}
use Rattle.sym_engine.specs.View.{candidates_view}
use Rattle.sym_engine.proofs.Settled.{SettledSoFar}
use Rattle.sym_paths.specs.View.{paths_view}
use Rattle.sym_engine.proofs.settling.settle.Given as goal

abbrev pub invariant-loop-candidate : goal.invariant-loop-candidate
invariant-loop-candidate g l = record {
  counted : into_iter_len l.candidate-iterator ≡ length (into_iter_items l.candidate-iterator);
  rest : l.fn.candidates ≡ l.yielded ++ into_iter_items l.candidate-iterator;
  settled : SettledSoFar l.old l.here (candidates_view l.yielded) (paths_view l.paths);
}
