use Rattle.std.proofs.Common.{◌≡◌, ◌++◌, drop}
use Rattle.linear_core.specs.Walks.{factors_up_to}
use Rattle.linear_core.proofs.cycles.factors_up_to.Given as goal

abbrev pub invariant-loop-step : goal.invariant-loop-step
invariant-loop-step l = factors_up_to l.node l.steps ≡ l.factors ++ factors_up_to l.node (drop l.step-index l.steps)
