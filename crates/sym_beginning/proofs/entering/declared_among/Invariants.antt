use Rattle.std.proofs.Common.{◌≡◌, take}
use Rattle.std.specs.List.{filter}
use Rattle.gil_syntax.specs.Valid.{is_among, param_names}
use Rattle.sym_beginning.proofs.entering.declared_among.Given as goal

abbrev pub invariant-loop-param : goal.invariant-loop-param
invariant-loop-param l = l.found ≡ filter (is_among l.names) (param_names (take l.param-index l.declared))
