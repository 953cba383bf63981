use Rattle.std.proofs.Common.{◌≡◌, ◌≤◌, length, take}
use Rattle.path_solver.proofs.lists.cut_to.Given as goal

abbrev pub decreases-loop-list : goal.decreases-loop-list
decreases-loop-list l = length l.list

abbrev pub invariant-loop-list : goal.invariant-loop-list
invariant-loop-list l = record {
  long : l.len ≤ length l.list;
  first : l.list ≡ take (length l.list) l.fn.list;
}
