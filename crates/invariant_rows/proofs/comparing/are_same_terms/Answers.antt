use Rattle.std.proofs.Common.{refl}
use Rattle.pure_terms.specs.View.{terms_view}
use Rattle.invariant_rows.proofs.Lists.{take_same}
use Rattle.invariant_rows.proofs.comparing.are_same_terms.Goals as goal

pub loop-place-preserved : goal.loop-place-preserved
loop-place-preserved c =
    take_same (terms_view c.args.left.now) (terms_view c.args.right.now) c.loop-place.place c.loop-place.invariant (c.if-not-has_same_term.ensures refl)
