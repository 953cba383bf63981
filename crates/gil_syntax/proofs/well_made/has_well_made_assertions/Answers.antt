use Rattle.std.proofs.Common.{not, ap, ◌∙◌}
use Rattle.gil_syntax.specs.Subexpressions.{assertions_of}
use Rattle.gil_syntax.specs.View.{spec_view}
use Rattle.gil_syntax.proofs.WellMadeLemmas.{assertions_made}
use Rattle.gil_syntax.proofs.well_made.has_well_made_assertions.Goals as goal

pub returns : goal.returns
returns c = ap not c.in_spec.ensures ∙ assertions_made (assertions_of (spec_view c.args.spec.now))
