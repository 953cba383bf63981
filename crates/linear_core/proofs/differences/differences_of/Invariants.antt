use Rattle.std.proofs.Common.{◌≡◌, map, take}
use Rattle.linear_core.specs.Nodes.{difference_of}
use Rattle.linear_core.proofs.differences.differences_of.Given as goal

abbrev pub invariant-loop-row : goal.invariant-loop-row
invariant-loop-row l = l.differences.items ≡ map difference_of (take l.row-index l.rows)
