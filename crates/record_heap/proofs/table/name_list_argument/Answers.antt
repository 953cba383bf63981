use Rattle.std.proofs.Common.{Bool, ap, ◌∙◌, if◌then◌else◌, Ok, Err}
use Rattle.gil_values.specs.Pure.{list, from_list}
use Rattle.gil_values.specs.View.{value_view, values_view}
use Rattle.gil_values.proofs.Views.{value_view-List}
use Rattle.mem_model.specs.declared.failures.Failure.{Failure}
use Rattle.mem_model.specs.Names.{are_distinct_texts}
use Rattle.record_heap.specs.Records.{names_read}
use Rattle.record_heap.proofs.table.name_list_argument.Goals as goal

pub returns-then-branch : goal.returns-then-branch
returns-then-branch c =
    names_read (values_view c.args.args.now) _ (values_view c.in-List.names) c.in_ok-distinct_texts.field-0
    c.in-Ok.ensures
    (ap value_view c.in-List.is ∙ value_view-List c.in-List.names)
    (c.in_ok-distinct_texts.ensures ∙ ap are_distinct_texts c.as_slice.ensures)
    ∙ ap (λ (b : Bool). if b then Ok (list (from_list (values_view c.in-List.names))) else Err Failure.Kind) c.if-branch.true

pub returns-else-branch : goal.returns-else-branch
returns-else-branch c =
    names_read (values_view c.args.args.now) _ (values_view c.in-List.names) c.in_ok-distinct_texts.field-0
    c.in-Ok.ensures
    (ap value_view c.in-List.is ∙ value_view-List c.in-List.names)
    (c.in_ok-distinct_texts.ensures ∙ ap are_distinct_texts c.as_slice.ensures)
    ∙ ap (λ (b : Bool). if b then Ok (list (from_list (values_view c.in-List.names))) else Err Failure.Kind) c.if-branch.false
