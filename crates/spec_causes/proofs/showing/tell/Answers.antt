use Rattle.std.proofs.Common.{ap}
use Rattle.std.specs.Option.{option_map}
use Rattle.gil_values.specs.View.{values_view}
use Rattle.pure_terms.specs.View.{atoms_view}
use Rattle.spec_causes.proofs.Shown.{told_met}
use Rattle.spec_causes.proofs.showing.tell.Goals as goal

pub returns-in_ok-numbered-in-Some : goal.returns-in_ok-numbered-in-Some
returns-in_ok-numbered-in-Some g c =
    told_met c.args.shown.now.vars (atoms_view c.args.shown.now.conds) (values_view c.in-Some.valuation) (values_view c.in_ok-numbered-in-Some.field-0) (c.requires (values_view c.in-Some.valuation) (ap (option_map values_view) c.in-Some.is))
    c.in_ok-numbered-in-Some.ensures
