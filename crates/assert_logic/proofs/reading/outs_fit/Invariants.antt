use Rattle.std.proofs.Common.{◌≡◌, [], map, take, drop}
use Rattle.gil_syntax.specs.View.{expr_view, item_view}
use Rattle.assert_logic.specs.Modes.{outs_fit, known_after, known_at_first}
use Rattle.assert_logic.specs.ModesView.{scope_view}
use Rattle.assert_logic.proofs.reading.outs_fit.Given as goal

abbrev pub invariant-loop-place : goal.invariant-loop-place
invariant-loop-place l =
    outs_fit (scope_view l.scope) (known_after (known_at_first (scope_view l.scope)) (map item_view l.items)) [] (map expr_view l.outs)
    ≡ outs_fit (scope_view l.scope) (known_after (known_at_first (scope_view l.scope)) (map item_view l.items))
    (map expr_view (take l.place l.outs)) (map expr_view (drop l.place l.outs))
