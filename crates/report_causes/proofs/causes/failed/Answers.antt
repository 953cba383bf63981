use Rattle.gil_values.specs.View.{values_view}
use Rattle.report_causes.proofs.causes.failed.Goals as goal

pub returns-in-Ok : goal.returns-in-Ok
returns-in-Ok c t has = (record { valuation = values_view c.args.valuation.now; is_shown = c.requires; tells = c.in-Ok.ensures.ok }, has)
