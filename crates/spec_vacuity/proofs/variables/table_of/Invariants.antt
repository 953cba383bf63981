use Rattle.std.proofs.Common.{◌≡◌, take}
use Rattle.spec_vacuity.specs.Translation.{table_of}
use Rattle.spec_vacuity.proofs.variables.table_of.Given as goal

abbrev pub invariant-loop-variable : goal.invariant-loop-variable
invariant-loop-variable l = l.table ≡ table_of (take l.variable-index l.variables)
