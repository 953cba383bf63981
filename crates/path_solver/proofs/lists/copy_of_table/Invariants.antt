use Rattle.std.proofs.Common.{◌≡◌, take}
use Rattle.path_solver.proofs.lists.copy_of_table.Given as goal

abbrev pub invariant-loop-sort : goal.invariant-loop-sort
invariant-loop-sort l = l.table ≡ take l.sort-index l.vars
