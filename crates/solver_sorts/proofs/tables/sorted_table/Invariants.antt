use Rattle.std.proofs.Common.{take}
use Rattle.pure_terms.specs.View.{atoms_view}
use Rattle.solver_sorts.specs.Sorting.{IsSortedTable}
use Rattle.solver_sorts.proofs.tables.sorted_table.Given as goal

abbrev pub invariant-loop-atom : goal.invariant-loop-atom
invariant-loop-atom l = IsSortedTable l.vars (take l.atom-index (atoms_view l.atoms)) l.sorts.items
