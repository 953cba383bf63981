use Rattle.std.proofs.Common.{◌≡◌, take}
use Rattle.std.specs.List.{filter}
use Rattle.gil_syntax.specs.WellMade.{has_hash}
use Rattle.sym_beginning.proofs.entering.logical_names.Given as goal

abbrev pub invariant-loop-name : goal.invariant-loop-name
invariant-loop-name l = l.logical ≡ filter has_hash (take l.name-index l.name-items)
