use Rattle.std.proofs.Common.{◌≡◌, take}
use Rattle.bi_specifications.specs.Shape.{any_params}
use Rattle.bi_specifications.proofs.wording.any_parameters.Given as goal

abbrev pub invariant-loop-name : goal.invariant-loop-name
invariant-loop-name l = l.params ≡ any_params (take l.name-index l.name-items)
