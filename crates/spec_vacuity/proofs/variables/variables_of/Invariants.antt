use Rattle.std.proofs.Common.{◌≡◌, ◌++◌, take, filter}
use Rattle.gil_syntax.specs.View.{spec_view}
use Rattle.spec_vacuity.specs.Translation.{is_own_variable}
use Rattle.spec_vacuity.proofs.variables.variables_of.Given as goal

abbrev pub invariant-loop-param : goal.invariant-loop-param
invariant-loop-param l = l.variables ≡ l.spec.params ++ filter (is_own_variable (spec_view l.spec)) (take l.param-index l.spec.logicals)
