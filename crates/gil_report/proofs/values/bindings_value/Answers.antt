use Rattle.std.proofs.Common.{map, ap, ◌∙◌}
use Rattle.gil_report.specs.Json.{texts}
use Rattle.gil_report.specs.Printed.{printed_binding}
use Rattle.gil_report.specs.View.{binding_view}
use Rattle.gil_report.proofs.Seen.{texts-seen}
use Rattle.gil_report.proofs.values.bindings_value.Goals as goal

pub returns : goal.returns
returns c = c.in_ok-list.ensures ∙ texts-seen printed_binding binding_view _ ∙ ap (λ xs. texts printed_binding (map binding_view xs)) c.as_slice.ensures
