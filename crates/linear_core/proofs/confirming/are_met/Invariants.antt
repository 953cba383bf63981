use Rattle.linear_core.specs.Walks.{AreMet}
use Rattle.linear_core.proofs.confirming.are_met.Given as goal

abbrev pub invariant-loop-row : goal.invariant-loop-row
invariant-loop-row l = AreMet l.differences l.reaches l.row
