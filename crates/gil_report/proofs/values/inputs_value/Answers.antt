use Rattle.std.proofs.Common.{ap, ◌∙◌}
use Rattle.gil_values.specs.Printed.{printed_value}
use Rattle.gil_values.specs.View.{value_view}
use Rattle.gil_report.specs.Json.{texts}
use Rattle.gil_report.proofs.Seen.{texts-seen}
use Rattle.gil_report.proofs.values.inputs_value.Goals as goal

pub returns : goal.returns
returns c = c.in_ok-list.ensures ∙ texts-seen printed_value value_view _ ∙ ap (texts printed_value) c.as_slice.ensures
