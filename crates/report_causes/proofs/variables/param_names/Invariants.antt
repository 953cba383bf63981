use Rattle.std.proofs.Common.{◌≡◌, take}
use Rattle.gil_syntax.specs.Valid.{param_names}
use Rattle.report_causes.proofs.variables.param_names.Given as goal

abbrev pub invariant-loop-param : goal.invariant-loop-param
invariant-loop-param l = l.names ≡ param_names (take l.param-index l.params)
