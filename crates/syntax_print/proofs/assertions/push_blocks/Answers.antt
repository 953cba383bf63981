use Rattle.std.proofs.Common.{map, ap}
use Rattle.std.specs.Prelude.{codes}
use Rattle.gil_syntax.specs.View.{assertion_view}
use Rattle.gil_values.proofs.Joined.{element_read, pushed}
use Rattle.syntax_print.specs.Assertions.{printed_block}
use Rattle.syntax_print.proofs.assertions.push_blocks.Goals as goal

pub loop-index-preserved : goal.loop-index-preserved
loop-index-preserved c =
    let element = element_read assertion_view _ _ c.loop-index.index _ (ap (map assertion_view) c.as_slice-assertion-items.ensures) c.loop-index-test.true c.assertion-item.is in
    pushed printed_block (codes " ") _ c.loop-index.index _ _ _ _ _ element c.loop-index.invariant c.in_ok-push_separator.ensures c.in_ok-push_block.ensures
