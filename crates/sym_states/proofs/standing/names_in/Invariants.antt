use Rattle.std.proofs.Common.{◌≡◌, take}
use Rattle.std.specs.List.{flat_map}
use Rattle.gil_syntax.specs.View.{assertion_view}
use Rattle.sym_states.specs.Standing.{names_of_item}
use Rattle.sym_states.proofs.standing.names_in.Given as goal

abbrev pub invariant-loop-item : goal.invariant-loop-item
invariant-loop-item l = l.names ≡ flat_map names_of_item (assertion_view (take l.item-index l.item-items))
