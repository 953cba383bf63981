use Rattle.term_table.proofs.RebuildingLaws.{copied_next}
use Rattle.term_table.proofs.rebuilding.copied.Goals as goal

pub loop-part-preserved : goal.loop-part-preserved
loop-part-preserved c =
    copied_next c.args.terms.now c.args.parts.now c.loop-part.part-index c.part-item.result c.place.result c.index-terms-place.result _ _ _
    c.requires c.loop-part-test.true c.part-item.is c.place.ensures c.index-terms-place.is c.in_ok-term.ensures c.loop-part.invariant
    c.in_ok-push.ensures.ok
