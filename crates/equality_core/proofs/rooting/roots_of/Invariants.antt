use Rattle.std.proofs.Common.{◌≡◌, ◌++◌, drop}
use Rattle.equality_core.specs.Nodes.{nodes_view}
use Rattle.equality_core.specs.Values.{roots_from}
use Rattle.equality_core.proofs.rooting.roots_of.Given as goal

abbrev pub invariant-loop-number : goal.invariant-loop-number
invariant-loop-number l = roots_from (nodes_view l.nodes) 0 l.sorts ≡ l.roots.items ++ roots_from (nodes_view l.nodes) l.number (drop l.number l.sorts)
