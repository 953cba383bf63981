use Rattle.std.proofs.Common.{◌≡◌, [], ◌∷◌, ◌++◌, sym, ap, ◌∙◌}
use Rattle.gil_values.specs.Pure.{text, list, from_list, to_list-from_list}
use Rattle.gil_values.specs.View.{value_view, values_view}
use Rattle.gil_values.proofs.Views.{value_view-List, value_view-Str}
use Rattle.gil_values.specs.declared.tree.Value
use Rattle.object_heap.specs.Table.{appended}
use Rattle.object_heap.proofs.names.with_name.Goals as goal

pub returns-in_ok-push-in-List : goal.returns-in_ok-push-in-List
returns-in_ok-push-in-List c =
    let pushed : values_view c.push.new.self ≡ values_view c.in_ok-longer-in-List.longer ++ value_view (Value.Str c.in_ok-copy-in-List.field-0) ∷ [] = c.in_ok-push-in-List.ensures.ok in
    let last : value_view (Value.Str c.in_ok-copy-in-List.field-0) ≡ text c.args.name.now = value_view-Str c.in_ok-copy-in-List.field-0 ∙ ap text c.in_ok-copy-in-List.ensures in
    value_view-List c.push.new.self
    ∙ ap (λ vs. list (from_list vs)) (pushed ∙ (λ i. (c.in_ok-longer-in-List.ensures ∙ sym (to_list-from_list (values_view c.in-List.names))) i ++ last i ∷ []))
    ∙ ap (λ d. appended d c.args.name.now) (sym (value_view-List c.in-List.names) ∙ ap value_view (sym c.in-List.is))
