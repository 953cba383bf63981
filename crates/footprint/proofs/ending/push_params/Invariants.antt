use Rattle.std.proofs.Common.{◌≡◌, ◌++◌, take}
use Rattle.footprint.proofs.ending.push_params.Given as goal

abbrev pub invariant-loop-param : goal.invariant-loop-param
invariant-loop-param l = l.params ≡ l.fn.params ++ take l.param-index l.param-items
