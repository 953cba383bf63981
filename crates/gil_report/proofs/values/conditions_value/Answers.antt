use Rattle.std.proofs.Common.{map, ap, ◌∙◌}
use Rattle.gil_report.specs.Json.{texts}
use Rattle.gil_report.specs.Printed.{printed_condition}
use Rattle.gil_report.specs.View.{condition_view}
use Rattle.gil_report.proofs.Seen.{texts-seen}
use Rattle.gil_report.proofs.values.conditions_value.Goals as goal

pub returns : goal.returns
returns c = c.in_ok-list.ensures ∙ texts-seen printed_condition condition_view _ ∙ ap (λ xs. texts printed_condition (map condition_view xs)) c.as_slice.ensures
