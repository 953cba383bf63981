use Rattle.std.proofs.Common.{◌++◌, map, string_bytes, ap, ◌∙◌}
use Rattle.gil_report.specs.Printed.{bracketed, printed_condition}
use Rattle.gil_report.specs.View.{condition_view}
use Rattle.gil_report.proofs.Seen.{bracketed-seen}
use Rattle.gil_report.proofs.lists.push_conditions.Goals as goal

pub returns : goal.returns
returns c =
    c.in_ok-push_list.ensures
    ∙ ap (λ listed. string_bytes c.args.out.now ++ listed) (bracketed-seen printed_condition condition_view _ ∙ ap (λ xs. bracketed printed_condition (map condition_view xs)) c.as_slice.ensures)
