use Rattle.std.proofs.Common.{◌≡◌, drop}
use Rattle.spec_vacuity.specs.Translation.{variable_from}
use Rattle.spec_vacuity.proofs.variables.variable_of.Given as goal

abbrev pub invariant-loop-place : goal.invariant-loop-place
invariant-loop-place l = variable_from 0 l.variables l.name ≡ variable_from l.place (drop l.place l.variables) l.name
