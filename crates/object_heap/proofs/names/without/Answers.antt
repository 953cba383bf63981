use Rattle.std.proofs.Common.{not, sym, ap, ◌∙◌}
use Rattle.std.specs.Prelude.{filter}
use Rattle.gil_values.specs.Pure.{text, list, from_list, to_list-from_list}
use Rattle.gil_values.specs.Equality.{same_value}
use Rattle.gil_values.specs.View.{value_view, values_view}
use Rattle.gil_values.proofs.Views.{value_view-List}
use Rattle.object_heap.specs.Table.{without_name}
use Rattle.object_heap.proofs.names.without.Goals as goal

pub returns-in_ok-others-in-List : goal.returns-in_ok-others-in-List
returns-in_ok-others-in-List c =
    value_view-List c.in_ok-others-in-List.field-0
    ∙ ap (λ vs. list (from_list vs)) (c.in_ok-others-in-List.ensures ∙ ap (filter (λ v. not (same_value (text c.args.name.now) v))) (c.as_slice.ensures ∙ sym (to_list-from_list (values_view c.in-List.names))))
    ∙ ap (λ d. without_name d c.args.name.now) (sym (value_view-List c.in-List.names) ∙ ap value_view (sym c.in-List.is))
