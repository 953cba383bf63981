use Rattle.std.proofs.Common.{not, map, ap, ◌∙◌}
use Rattle.gil_syntax.specs.View.{assertion_view}
use Rattle.gil_syntax.proofs.WellMadeLemmas.{assertions_made}
use Rattle.gil_syntax.proofs.well_made.are_well_made_assertions.Goals as goal

pub returns : goal.returns
returns c = ap not c.in_assertions.ensures ∙ assertions_made (map assertion_view c.args.assertions.now)
