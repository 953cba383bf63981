use Rattle.std.proofs.Common.{◌≡◌, map, take, true}
use Rattle.std.specs.List.{list_all}
use Rattle.gil_syntax.specs.Valid.{param_names}
use Rattle.gil_syntax.specs.View.{item_view}
use Rattle.assert_logic.specs.Modes.{known_after, known_at_first}
use Rattle.assert_logic.specs.ModesView.{scope_view}
use Rattle.assert_logic.proofs.reading.knows_params.Given as goal

abbrev pub invariant-loop-param : goal.invariant-loop-param
invariant-loop-param l =
    list_all (known_after (known_at_first (scope_view l.scope)) (map item_view l.items)) (param_names (take l.param-index l.params)) ≡ true
