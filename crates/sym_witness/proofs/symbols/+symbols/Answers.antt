use Rattle.std.proofs.Common.{◌≡◌, ◌++◌, ◌≤◌, Some, slice_get, sym, ap, subst, ◌∙◌, arith}
use Rattle.gil_values.specs.Pure.{list, from_list, value_size, values_size}
use Rattle.gil_values.specs.Symbols.{symbols}
use Rattle.gil_values.specs.View.{value_view, values_view}
use Rattle.gil_values.proofs.Lists.{slice_get-read}
use Rattle.gil_values.proofs.Views.{value_size-element, value_view-List}
use Rattle.sym_witness.proofs.SymbolLaws.{of_elements, of_next}
use Rattle.sym_witness.proofs.symbols.+symbols.Goals as goal

pub add_all_symbols-add_symbols-requires : goal.add_all_symbols-add_symbols-requires
add_all_symbols-add_symbols-requires t c =
    let here : slice_get (values_view c.args.values.now) c.loop-value.value-index ≡ Some (value_view c.value-item.result)
    = subst (λ us. slice_get us c.loop-value.value-index ≡ Some (value_view c.value-item.result)) c.as_slice-value-items.ensures (slice_get-read value_view c.as_slice-value-items.result.now c.loop-value.value-index c.value-item.result (omega arith) c.value-item.is) in
    let small : value_size (value_view c.value-item.result) ≤ values_size (from_list (values_view c.args.values.now)) = value_size-element _ _ _ here in
    (omega (arith, small, c.decreases), tt)

pub add_all_symbols-loop-value-preserved : goal.add_all_symbols-loop-value-preserved
add_all_symbols-loop-value-preserved t c =
    let here : slice_get (values_view c.args.values.now) c.loop-value.value-index ≡ Some (value_view c.value-item.result)
    = subst (λ us. slice_get us c.loop-value.value-index ≡ Some (value_view c.value-item.result)) c.as_slice-value-items.ensures (slice_get-read value_view c.as_slice-value-items.result.now c.loop-value.value-index c.value-item.result (omega arith) c.value-item.is) in
    of_next (values_view c.args.values.now) c.loop-value.value-index (value_view c.value-item.result) c.args.found.now.items _ _ here c.loop-value.invariant c.in_ok-add_symbols.ensures

pub add_symbols-returns-in_ok-add_all_symbols-in-List : goal.add_symbols-returns-in_ok-add_all_symbols-in-List
add_symbols-returns-in_ok-add_all_symbols-in-List t c =
    let whole : value_view c.args.value.now ≡ list (from_list (values_view c.in-List.values)) = ap value_view c.in-List.is ∙ value_view-List c.in-List.values in
    c.in_ok-add_all_symbols-in-List.ensures ∙ ap (λ ns. c.args.found.now.items ++ ns) (sym (of_elements (values_view c.in-List.values)) ∙ sym (ap symbols whole))
