use Rattle.std.proofs.Common.{◌≡◌, ◌++◌, length}
use Rattle.std.specs.Vec.Iter.{into_iter_items, into_iter_len}
use Rattle.footprint.specs.Assertions.{PrunesMatch}
use Rattle.footprint.specs.Spreading.{Gathers}
use Rattle.footprint.specs.View.{matches_view, leaves_view}
use Rattle.footprint.proofs.pruning.prune.Given as goal

abbrev pub invariant-loop-found : goal.invariant-loop-found
invariant-loop-found g l = record {
  counted : into_iter_len l.found-iterator ≡ length (into_iter_items l.found-iterator);
  rest : l.fn.leaves.matched ≡ l.yielded ++ into_iter_items l.found-iterator;
  gathers : Gathers (PrunesMatch g.M.SymMemory.stands g.M.SymMemory.terms g.M.SymMemory.kept) (matches_view l.yielded) (leaves_view l.kept);
}
