use Rattle.std.proofs.Common.{map, sym, ap, ◌∙◌}
use Rattle.gil_values.proofs.Lists.{slice_get-read}
use Rattle.gil_syntax.specs.Valid.{param_names}
use Rattle.gil_syntax.specs.View.{item_view}
use Rattle.assert_logic.specs.Modes.{known_after, known_at_first}
use Rattle.assert_logic.specs.ModesView.{scope_view}
use Rattle.assert_logic.proofs.LoopLemmas.{all_fails}
use Rattle.assert_logic.proofs.reading.knows_params.Goals as goal

pub returns-then-not-accepts_name : goal.returns-then-not-accepts_name
returns-then-not-accepts_name c =
    let known = known_after (known_at_first (scope_view c.args.scope)) (map item_view c.args.items.now) in
    sym (all_fails known (param_names c.args.params.now) c.loop-param.param-index c.param-item.result.name
    (slice_get-read (λ q. q.name) c.args.params.now c.loop-param.param-index c.param-item.result c.loop-param-test.true c.param-item.is)
    (ap known (sym c.as_str.ensures.characters) ∙ sym c.accepts_name.ensures ∙ c.if-not-accepts_name.true))
