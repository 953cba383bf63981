use Rattle.std.proofs.Common.{subst}
use Rattle.checked_paths.specs.Causes.{cause_view, shown_in}
use Rattle.spec_causes.specs.Reaching.{IsKnown}
use Rattle.spec_causes.proofs.showing.show.Goals as goal

pub tell-requires : goal.tell-requires
tell-requires g c = subst (λ cause. IsKnown (shown_in (cause_view cause))) c.in-Fails.is c.requires

pub tell-requires-in-Fault : goal.tell-requires-in-Fault
tell-requires-in-Fault g c = subst (λ cause. IsKnown (shown_in (cause_view cause))) c.in-Fault.is c.requires

pub tell-requires-in-Cut : goal.tell-requires-in-Cut
tell-requires-in-Cut g c = subst (λ cause. IsKnown (shown_in (cause_view cause))) c.in-Cut.is c.requires
