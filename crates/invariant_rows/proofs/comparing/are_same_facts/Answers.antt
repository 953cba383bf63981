use Rattle.std.proofs.Common.{refl}
use Rattle.sym_states.specs.View.{facts_view}
use Rattle.invariant_rows.proofs.Lists.{take_same}
use Rattle.invariant_rows.proofs.comparing.are_same_facts.Goals as goal

pub loop-place-preserved : goal.loop-place-preserved
loop-place-preserved c =
    take_same (facts_view c.args.left.now) (facts_view c.args.right.now) c.loop-place.place c.loop-place.invariant (c.if-not-has_same_fact.ensures refl)
