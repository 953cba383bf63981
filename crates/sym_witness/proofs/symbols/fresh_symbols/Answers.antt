use Rattle.std.proofs.Common.{◌≡◌, ◌<◌, map, length, slice_get, get_or, Some, sym, ap, ◌∙◌, arith}
use Rattle.std.proofs.lemmas.List.{length-map}
use Rattle.std.proofs.lemmas.Option.{slice_get-get_or}
use Rattle.gil_values.specs.View.{value_view}
use Rattle.gil_values.proofs.Lists.{slice_get-read}
use Rattle.pure_terms.specs.declared.variables.Sort.{Sort}
use Rattle.sym_witness.specs.Numbering.{fresh_symbols}
use Rattle.sym_witness.proofs.Fresh.{fresh_next, fresh_whole}
use Rattle.sym_witness.proofs.symbols.fresh_symbols.Goals as goal

pub loop-number-preserved : goal.loop-number-preserved
loop-number-preserved c =
    let sorts = c.as_slice-sorts.result.now in
    let values = map value_view c.as_slice-values.result.now in
    let i = c.loop-number.number in
    let as_many : length values ≡ length sorts = ap length c.as_slice-values.ensures ∙ c.requires ∙ sym (ap length c.as_slice-sorts.ensures) in
    let seen : length values ≡ length c.as_slice-values.result.now = length-map c.as_slice-values.result.now value_view in
    let within : i < length sorts = c.loop-number-test.true in
    let sort = get_or sorts i Sort.Int in
    let in_table : slice_get sorts i ≡ Some sort = slice_get-get_or sorts i Sort.Int within in
    let at : slice_get values i ≡ Some (value_view c.index-values-number.result) = slice_get-read value_view c.as_slice-values.result.now i c.index-values-number.result (omega (arith, as_many, seen, within)) c.index-values-number.is in
    fresh_next sorts values c.loop-number.found.items _ i sort (value_view c.index-values-number.result) as_many c.loop-number.invariant in_table at c.in_ok-add_fresh.ensures

pub returns : goal.returns
returns c =
    let sorts = c.as_slice-sorts.result.now in
    let values = map value_view c.as_slice-values.result.now in
    let as_many : length values ≡ length sorts = ap length c.as_slice-values.ensures ∙ c.requires ∙ sym (ap length c.as_slice-sorts.ensures) in
    fresh_whole sorts values c.loop-number.found.items c.loop-number.number as_many c.loop-number.invariant c.loop-number-test.false
    ∙ (λ j. fresh_symbols (c.as_slice-sorts.ensures j) (c.as_slice-values.ensures j))
