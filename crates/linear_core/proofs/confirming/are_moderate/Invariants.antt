use Rattle.std.proofs.Common.{ℕ, ◌<◌}
use Rattle.linear_core.proofs.Testing.{IsModerate}
use Rattle.linear_core.proofs.confirming.are_moderate.Given as goal

abbrev pub invariant-loop-node : goal.invariant-loop-node
invariant-loop-node l = (x : ℕ) → x < l.node → IsModerate l.reaches x
