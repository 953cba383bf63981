use Rattle.std.proofs.Common.{sym, ◌∙◌, below_more}
use Rattle.gil_syntax.specs.View.{parts_view}
use Rattle.gil_syntax.proofs.CheckLemmas.{past_limit_here}
use Rattle.gil_syntax.proofs.uncounted.first_past_limit.Goals as goal

pub loop-item-preserved : goal.loop-item-preserved
loop-item-preserved c = below_more _ _ c.loop-item.invariant
    (past_limit_here (parts_view c.args.parts.now) c.loop-item.item c.in-Some.found c.in-Some.ensures.there
    ∙ sym (c.item_passes_limit.ensures (parts_view c.args.parts.now) c.in-Some.ensures.there.within) ∙ c.if-item_passes_limit.false)
