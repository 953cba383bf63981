use Rattle.std.proofs.Common.{take, Some}
use Rattle.sym_states.specs.Sorts.{IsSortOf}
use Rattle.sym_states.proofs.sorts.sort_of.Given as goal

abbrev pub invariant-loop-param : goal.invariant-loop-param
invariant-loop-param l = IsSortOf (take l.param-index l.param-items) l.name (Some l.sort)
