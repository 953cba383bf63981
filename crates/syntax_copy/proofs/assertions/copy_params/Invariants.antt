use Rattle.std.proofs.Common.{◌≡◌, take}
use Rattle.syntax_copy.proofs.assertions.copy_params.Given as goal

abbrev pub invariant-loop-param : goal.invariant-loop-param
invariant-loop-param l = l.list ≡ take l.param-index l.params
