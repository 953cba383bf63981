use Rattle.std.proofs.Common.{map, ◌++◌}
use Rattle.pure_terms.specs.View.{atoms_view}
use Rattle.sym_model.specs.Alternatives.{alternatives_view}
use Rattle.sym_model.proofs.Stepping.{flat_step}
use Rattle.sym_model.proofs.combining.both.Goals as goal

pub loop-conditions-preserved : goal.loop-conditions-preserved
loop-conditions-preserved c =
    flat_step atoms_view (λ a. map (λ b. a ++ b) (alternatives_view c.args.second.now)) c.as_slice-conditions-items.result.now c.loop-conditions.conditions-index c.conditions-item.result
    (alternatives_view c.loop-conditions.alternatives) (alternatives_view c.in_ok-alternatives.alternatives) c.loop-conditions-test.true c.conditions-item.is c.loop-conditions.invariant c.in_ok-alternatives.ensures
