use Rattle.std.proofs.Common.{◌≡◌, ◌≤◌, Some, slice_get, sym, ap, subst, ◌∙◌, arith}
use Rattle.gil_values.specs.Pure.{list, from_list, value_size, values_size}
use Rattle.gil_values.specs.View.{value_view, values_view}
use Rattle.gil_values.proofs.Lists.{slice_get-read}
use Rattle.gil_values.proofs.Views.{value_size-element, value_view-List}
use Rattle.pure_terms.specs.Renaming.{renamed}
use Rattle.sym_witness.specs.Numbering.{place_in}
use Rattle.sym_witness.proofs.SymbolLaws.{elements_renamed, map_next}
use Rattle.sym_witness.proofs.renaming.+rename.Goals as goal

pub rename-returns-in_ok-rename_all-in-List : goal.rename-returns-in_ok-rename_all-in-List
rename-returns-in_ok-rename_all-in-List t c =
    let f = place_in c.args.names.now in
    let vs = values_view c.in-List.values in
    let whole : value_view c.args.value.now ≡ list (from_list vs) = ap value_view c.in-List.is ∙ value_view-List c.in-List.values in
    value_view-List c.in_ok-rename_all-in-List.field-0 ∙ ap (λ us. list (from_list us)) c.in_ok-rename_all-in-List.ensures ∙ ap list (sym (elements_renamed f vs)) ∙ ap (renamed f) (sym whole)

pub rename_all-rename-requires : goal.rename_all-rename-requires
rename_all-rename-requires t c =
    let here : slice_get (values_view c.args.values.now) c.loop-value.value-index ≡ Some (value_view c.value-item.result)
    = subst (λ us. slice_get us c.loop-value.value-index ≡ Some (value_view c.value-item.result)) c.as_slice-value-items.ensures (slice_get-read value_view c.as_slice-value-items.result.now c.loop-value.value-index c.value-item.result (omega arith) c.value-item.is) in
    let small : value_size (value_view c.value-item.result) ≤ values_size (from_list (values_view c.args.values.now)) = value_size-element _ _ _ here in
    (omega (arith, small, c.decreases), tt)

pub rename_all-loop-value-preserved : goal.rename_all-loop-value-preserved
rename_all-loop-value-preserved t c =
    let here : slice_get (values_view c.args.values.now) c.loop-value.value-index ≡ Some (value_view c.value-item.result)
    = subst (λ us. slice_get us c.loop-value.value-index ≡ Some (value_view c.value-item.result)) c.as_slice-value-items.ensures (slice_get-read value_view c.as_slice-value-items.result.now c.loop-value.value-index c.value-item.result (omega arith) c.value-item.is) in
    map_next (renamed (place_in c.args.names.now)) (values_view c.args.values.now) _ _ c.loop-value.value-index (value_view c.value-item.result) _ here c.loop-value.invariant c.in_ok-rename.ensures c.in_ok-push.ensures.ok
