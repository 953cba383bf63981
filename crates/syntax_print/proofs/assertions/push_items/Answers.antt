use Rattle.std.proofs.Common.{refl}
use Rattle.std.specs.Prelude.{codes}
use Rattle.gil_syntax.specs.View.{item_view}
use Rattle.gil_values.proofs.Joined.{element_read, pushed}
use Rattle.syntax_print.specs.Assertions.{printed_item}
use Rattle.syntax_print.proofs.assertions.push_items.Goals as goal

pub loop-index-preserved : goal.loop-index-preserved
loop-index-preserved c =
    let element = element_read item_view _ _ c.loop-index.index _ refl c.loop-index-test.true c.index-items-index.is in
    pushed printed_item (codes " * ") _ c.loop-index.index _ _ _ _ _ element c.loop-index.invariant c.in_ok-push_separator.ensures c.in_ok-push_item.ensures
