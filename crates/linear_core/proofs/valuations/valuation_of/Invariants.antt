use Rattle.std.proofs.Common.{◌≡◌, ◌++◌, drop}
use Rattle.gil_values.specs.View.{values_view}
use Rattle.linear_core.specs.Valuations.{values_from}
use Rattle.linear_core.proofs.valuations.valuation_of.Given as goal

abbrev pub invariant-loop-variable : goal.invariant-loop-variable
invariant-loop-variable l = values_from l.reaches 0 l.sorts ≡ values_view l.values ++ values_from l.reaches l.variable (drop l.variable l.sorts)
