use Rattle.std.proofs.Common.{◌≡◌, take}
use Rattle.bi_beginnings.specs.Beginnings.{any_for_each}
use Rattle.bi_beginnings.proofs.beginnings.sorts_of_params.Given as goal

abbrev pub invariant-loop-param : goal.invariant-loop-param
invariant-loop-param l = l.sorts ≡ any_for_each (take l._param-index l._param-items)
