use Rattle.std.proofs.Common.{◌≡◌, sym, ap, subst, ◌∙◌}
use Rattle.gil_values.specs.declared.kinds.Kind.TheVariants.{Null}
use Rattle.gil_values.specs.declared.tree.Value
use Rattle.gil_values.specs.Pure.{PureValue, list, from_list}
use Rattle.gil_values.specs.View.{value_view, values_view}
use Rattle.gil_values.proofs.Views.{value_view-Sym, value_view-List, value_view-Kind}
use Rattle.mem_model.specs.declared.keys.Sub.TheVariants.{Shape}
use Rattle.mem_model.specs.Keys.{key}
use Rattle.mem_model.specs.Heaps.{Heap}
use Rattle.mem_model.specs.Pure.{done}
use Rattle.mem_model.specs.Tables.{name_keys, names_of, texts_of, created, LacksAll}
use Rattle.mem_model.specs.Stored.{stored_heap_view}
use Rattle.mem_model.proofs.Making.{lacks_new, new_location}
use Rattle.record_heap.specs.Table.{new}
use Rattle.record_heap.specs.Records.{names_fit, names_of_list}
use Rattle.record_heap.proofs.table.make.Goals as goal

pub create-requires : goal.create-requires
create-requires c =
    let d : PureValue = list (from_list (values_view c.args.names.now)) in
    let keys : c.deref.result.now ≡ name_keys c.in-Some.location (names_of d) =
    c.deref.ensures.value ∙ c.in_ok-keys.ensures
    ∙ ap (λ vs. name_keys c.in-Some.location (texts_of vs)) c.as_slice.ensures
    ∙ ap (name_keys c.in-Some.location) (sym (names_of_list (values_view c.args.names.now))) in
    subst (LacksAll (stored_heap_view c.args.heap.now)) (sym keys)
    (lacks_new c.in-Some.location (name_keys c.in-Some.location (names_of d)) (stored_heap_view c.args.heap.now)
    (new_location c.args.fresh c.in-Some.location (stored_heap_view c.args.heap.now) c.in-Some.is c.requires)
    (λ q among. (names_fit c.in-Some.location d q among).0))

pub returns : goal.returns
returns c =
    let d : PureValue = list (from_list (values_view c.args.names.now)) in
    let h : Heap = stored_heap_view c.args.heap.now in
    let keys : c.deref.result.now ≡ name_keys c.in-Some.location (names_of d) =
    c.deref.ensures.value ∙ c.in_ok-keys.ensures
    ∙ ap (λ vs. name_keys c.in-Some.location (texts_of vs)) c.as_slice.ensures
    ∙ ap (name_keys c.in-Some.location) (sym (names_of_list (values_view c.args.names.now))) in
    let shape : value_view (Value.List c.in_ok-copy.field-0) ≡ d = value_view-List c.in_ok-copy.field-0 ∙ ap (λ vs. list (from_list vs)) c.in_ok-copy.ensures in
    let made : stored_heap_view c.create.new.self ≡ created (key c.in-Some.location Shape) (value_view (Value.List c.in_ok-copy.field-0)) c.deref.result.now (value_view (Value.Kind Null)) h = c.in_ok-create.ensures.ok in (
      ap done (value_view-Sym c.in-Some.location) ∙ ap (λ f. (new f d h).outcome) (sym c.in-Some.is),
      made ∙ (λ i. created (key c.in-Some.location Shape) (shape i) (keys i) (value_view-Kind Null i) h) ∙ ap (λ f. (new f d h).heap) (sym c.in-Some.is),
    )
