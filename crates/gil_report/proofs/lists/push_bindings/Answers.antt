use Rattle.std.proofs.Common.{◌++◌, map, string_bytes, ap, ◌∙◌}
use Rattle.gil_report.specs.Printed.{bracketed, printed_binding}
use Rattle.gil_report.specs.View.{binding_view}
use Rattle.gil_report.proofs.Seen.{bracketed-seen}
use Rattle.gil_report.proofs.lists.push_bindings.Goals as goal

pub returns : goal.returns
returns c =
    c.in_ok-push_list.ensures
    ∙ ap (λ listed. string_bytes c.args.out.now ++ listed) (bracketed-seen printed_binding binding_view _ ∙ ap (λ xs. bracketed printed_binding (map binding_view xs)) c.as_slice.ensures)
