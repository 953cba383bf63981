use Rattle.std.proofs.Common.{◌≡◌, take, false}
use Rattle.checked_runs.specs.Specifications.{result_name}
use Rattle.gil_syntax.specs.Valid.{is_among}
use Rattle.bi_specifications.proofs.wording.result_parameter.Given as goal

abbrev pub invariant-loop-number : goal.invariant-loop-number
invariant-loop-number l = is_among (take l.number l.names) result_name ≡ false
