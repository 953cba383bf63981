use Rattle.std.proofs.Common.{◌≡◌, take}
use Rattle.solver_sorts.proofs.tables.table_of.Given as goal

abbrev pub invariant-loop-sort : goal.invariant-loop-sort
invariant-loop-sort l = l.table ≡ take l.sort-index l.sorts
