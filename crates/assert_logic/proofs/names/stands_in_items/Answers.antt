use Rattle.std.proofs.Common.{sym, ◌∙◌}
use Rattle.gil_values.proofs.Lists.{slice_get-read}
use Rattle.gil_syntax.specs.View.{item_view}
use Rattle.gil_syntax.proofs.ExpressionLemmas.{list_any-element}
use Rattle.assert_logic.specs.Names.{named_by_item}
use Rattle.assert_logic.proofs.names.stands_in_items.Goals as goal

pub returns-then-stands_in_item : goal.returns-then-stands_in_item
returns-then-stands_in_item c =
    sym (list_any-element (λ item. named_by_item item c.args.name.now) _ c.loop-item.item-index _ (slice_get-read item_view _ c.loop-item.item-index _ c.loop-item-test.true c.item-item.is) (sym c.stands_in_item.ensures ∙ c.if-stands_in_item.true))
