use Rattle.std.proofs.Common.{◌≡◌, take}
use Rattle.solver_sorts.proofs.tables.sorts_of.Given as goal

abbrev pub invariant-loop-sort : goal.invariant-loop-sort
invariant-loop-sort l = l.sorts.items ≡ take l.sort-index l.vars
