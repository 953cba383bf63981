use Rattle.gil_values.specs.View.{values_view}
use Rattle.spec_causes.proofs.Shown.{numbered_like}
use Rattle.spec_causes.proofs.showing.numbered.Goals as goal

pub returns : goal.returns
returns c = numbered_like c.args.vars.now c.in_ok-witness.witness.counter (values_view c.args.valuation.now) (values_view c.in_ok-witness.witness.valuation) c.requires c.in_ok-witness.ensures
