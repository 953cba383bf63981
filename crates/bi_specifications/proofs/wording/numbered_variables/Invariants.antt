use Rattle.std.proofs.Common.{◌≡◌, ◌++◌, drop}
use Rattle.bi_specifications.specs.Shape.{numbered_params}
use Rattle.bi_specifications.proofs.wording.numbered_variables.Given as goal

abbrev pub invariant-loop-number : goal.invariant-loop-number
invariant-loop-number l = l.logicals ++ numbered_params l.number (drop l.number l.sorts) ≡ numbered_params l.first (drop l.first l.sorts)
