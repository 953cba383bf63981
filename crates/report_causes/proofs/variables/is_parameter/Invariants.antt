use Rattle.std.proofs.Common.{◌≡◌, drop}
use Rattle.gil_syntax.specs.Valid.{is_among, param_names}
use Rattle.report_causes.proofs.variables.is_parameter.Given as goal

abbrev pub invariant-loop-param : goal.invariant-loop-param
invariant-loop-param l = is_among (param_names l.params) l.name ≡ is_among (param_names (drop l.param-index l.params)) l.name
