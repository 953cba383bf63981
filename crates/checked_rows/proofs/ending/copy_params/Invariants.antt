use Rattle.std.proofs.Common.{◌≡◌, ◌++◌, take}
use Rattle.checked_rows.proofs.ending.copy_params.Given as goal

abbrev pub invariant-loop-param : goal.invariant-loop-param
invariant-loop-param l = l.joined ≡ l.fn.first ++ take l.param-index l.param-items
