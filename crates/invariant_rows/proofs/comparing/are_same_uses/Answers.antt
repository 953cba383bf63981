use Rattle.std.proofs.Common.{refl}
use Rattle.sym_model.specs.View.{uses_view}
use Rattle.invariant_rows.proofs.Lists.{take_same}
use Rattle.invariant_rows.proofs.comparing.are_same_uses.Goals as goal

pub loop-place-preserved : goal.loop-place-preserved
loop-place-preserved c =
    take_same (uses_view c.args.left.now) (uses_view c.args.right.now) c.loop-place.place c.loop-place.invariant (c.if-not-has_same_use.ensures refl)
