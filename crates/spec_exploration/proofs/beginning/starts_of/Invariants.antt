use Rattle.std.proofs.Common.{◌≡◌, ◌++◌, length}
use Rattle.std.specs.Vec.Iter.{into_iter_len, into_iter_items}
use Rattle.checked_paths.specs.View.{nexts_view}
use Rattle.sym_beginning.specs.View.{starts_view}
use Rattle.spec_exploration.specs.Beginning.{AreStartsOf}
use Rattle.spec_exploration.proofs.beginning.starts_of.Given as goal

abbrev pub invariant-loop-started : goal.invariant-loop-started
invariant-loop-started g l = record {
  counted : into_iter_len l.started-iterator ≡ length (into_iter_items l.started-iterator);
  rest : l.fn.starts ≡ l.yielded ++ into_iter_items l.started-iterator;
  answered : AreStartsOf l.here (starts_view l.yielded) (nexts_view l.nexts);
}
