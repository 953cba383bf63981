use Rattle.std.proofs.Common.{sym, ◌∙◌}
use Rattle.gil_syntax.specs.View.{item_view}
use Rattle.gil_syntax.proofs.ExpressionLemmas.{read_seen, stands_among-item}
use Rattle.gil_syntax.proofs.seeking.in_assertion.Goals as goal

pub returns-then-in_item : goal.returns-then-in_item
returns-then-in_item g c =
    let item = read_seen item_view _ _ c.loop-item.item-index _ c.as_slice-item-items.ensures c.loop-item-test.true c.item-item.is in
    sym (stands_among-item (g.S.Sought.is_node c.args.sought.now) (g.S.Sought.is_use c.args.sought.now) _ c.loop-item.item-index _ item (sym c.in_item.ensures ∙ c.if-in_item.true))
