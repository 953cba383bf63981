use Rattle.std.proofs.Common.{◌≡◌, ◌++◌, length}
use Rattle.std.specs.Vec.Iter.{into_iter_len, into_iter_items}
use Rattle.checked_paths.specs.View.{nexts_view}
use Rattle.spec_exploration.specs.Exploring.{AreTaken, exploration_view}
use Rattle.spec_exploration.proofs.exploration.take.Given as goal

abbrev pub invariant-loop-next : goal.invariant-loop-next
invariant-loop-next g l = record {
  counted : into_iter_len l.next-iterator ≡ length (into_iter_items l.next-iterator);
  rest : l.fn.nexts ≡ l.yielded ++ into_iter_items l.next-iterator;
  taken : AreTaken (exploration_view l.fn.exploration) (nexts_view l.yielded) (exploration_view l.exploration);
}
