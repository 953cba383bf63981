use Rattle.std.proofs.Common.{◌≡◌, take, false}
use Rattle.gil_syntax.specs.Valid.{is_among, param_names}
use Rattle.sym_matching.proofs.values.is_declared.Given as goal

abbrev pub invariant-loop-param : goal.invariant-loop-param
invariant-loop-param l = is_among (param_names (take l.param-index l.param-items)) l.name ≡ false
