use Rattle.std.proofs.Common.{◌≡◌, ◌++◌, take, map, filter}
use Rattle.gil_syntax.specs.Valid.{param_names}
use Rattle.gil_syntax.specs.View.{spec_view}
use Rattle.spec_vacuity.specs.Translation.{is_own_variable}
use Rattle.report_causes.proofs.variables.variable_names.Given as goal

abbrev pub invariant-loop-param : goal.invariant-loop-param
invariant-loop-param l =
    l.names ≡ param_names l.spec.params ++ map (λ q. q.name) (filter (is_own_variable (spec_view l.spec)) (take l.param-index l.spec.logicals))
