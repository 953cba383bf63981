use Rattle.std.proofs.Common.{sym, ◌∙◌}
use Rattle.gil_syntax.specs.View.{assertion_view}
use Rattle.gil_syntax.specs.Found.{stands_in_assertion}
use Rattle.gil_syntax.proofs.ExpressionLemmas.{read_seen, list_any-element}
use Rattle.gil_syntax.proofs.seeking.in_assertions.Goals as goal

pub returns-then-in_assertion : goal.returns-then-in_assertion
returns-then-in_assertion g c =
    let items = read_seen assertion_view _ _ c.loop-items.items-index _ c.as_slice-items-items.ensures c.loop-items-test.true c.items-item.is in
    sym (list_any-element (stands_in_assertion (g.S.Sought.is_node c.args.sought.now) (g.S.Sought.is_use c.args.sought.now)) _ c.loop-items.items-index _ items (sym c.in_assertion.ensures ∙ c.if-in_assertion.true))
