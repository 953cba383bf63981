use Rattle.std.proofs.Common.{sym, ap, ◌∙◌}
use Rattle.std.specs.List.{list_any}
use Rattle.gil_values.specs.Pure.{text, to_list-from_list}
use Rattle.gil_values.specs.Equality.{same_value}
use Rattle.gil_values.specs.View.{value_view, values_view}
use Rattle.gil_values.proofs.Views.{value_view-List}
use Rattle.mem_model.specs.Names.{lists_name}
use Rattle.mem_model.proofs.names.is_listed.Goals as goal

pub returns-in-List : goal.returns-in-List
returns-in-List c =
    c.lists.ensures
    ∙ ap (list_any (same_value (text c.args.name.now))) (c.as_slice.ensures ∙ sym (to_list-from_list (values_view c.in-List.names)))
    ∙ ap (λ v. lists_name v c.args.name.now) (sym (value_view-List c.in-List.names) ∙ ap value_view (sym c.in-List.is))
