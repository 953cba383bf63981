use Rattle.std.proofs.Common.{◌≡◌, ◌++◌, take}
use Rattle.sym_matching.proofs.cases.extend_scope.Given as goal

abbrev pub invariant-loop-param : goal.invariant-loop-param
invariant-loop-param l = l.scope ≡ l.fn.scope ++ take l.param-index l.param-items
