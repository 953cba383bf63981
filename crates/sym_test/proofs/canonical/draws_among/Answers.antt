use Rattle.std.proofs.Common.{◌≡◌, ◌<◌, [], ◌∷◌, ◌++◌, map, length, slice_get, get_or, Bool, if◌then◌else◌, Some, sym, ap, ◌∙◌, arith}
use Rattle.std.proofs.lemmas.List.{length-map, append-nil}
use Rattle.std.proofs.lemmas.Option.{slice_get-get_or}
use Rattle.gil_values.specs.Pure.{PureValue, text}
use Rattle.gil_values.specs.View.{value_view, values_view}
use Rattle.gil_values.proofs.Lists.{slice_get-read}
use Rattle.pure_terms.specs.declared.variables.Sort.{Sort}
use Rattle.sym_test.specs.Canonical.{draw_and, draws_among}
use Rattle.sym_test.proofs.Canonicals.{draws_next, draws_whole}
use Rattle.sym_test.proofs.canonical.draws_among.Goals as goal
use Rattle.sym_test.proofs.canonical.draws_among.Goals.{then-is_draw+in_ok-copy+in_ok-push, else-is_draw}

pub loop-number-preserved : goal.loop-number-preserved
loop-number-preserved c =
    let sorts = c.as_slice-sorts.result.now in
    let values = map value_view c.as_slice-values.result.now in
    let i = c.loop-number.number in
    let as_many : length values ≡ length sorts = ap length c.as_slice-values.ensures ∙ c.requires ∙ sym (ap length c.as_slice-sorts.ensures) in
    let seen : length values ≡ length c.as_slice-values.result.now = length-map c.as_slice-values.result.now value_view in
    let within : i < length sorts = c.loop-number-test.true in
    let sort = get_or sorts i Sort.Int in
    let in_table : slice_get sorts i ≡ Some sort = slice_get-get_or sorts i Sort.Int within in
    elim c.if-is_draw.branch [
      | then-is_draw+in_ok-copy+in_ok-push w ↦
          let u = value_view w.index-values-number.result in
          let at : slice_get values i ≡ Some u = slice_get-read value_view c.as_slice-values.result.now i w.index-values-number.result (omega (arith, as_many, seen, within)) w.index-values-number.is in
          let drawn : value_view w.in_ok-copy.field-0 ∷ [] ≡ draw_and sort u [] = ap (λ (v : PureValue). v ∷ []) w.in_ok-copy.ensures ∙ sym (c.is_draw.ensures u [] ∙ ap (λ (b : Bool). if b then u ∷ [] else []) w.if-is_draw.true) in
          ap values_view w.inputs-is ∙ w.in_ok-push.ensures.ok ∙ ap (λ us. values_view c.loop-number.inputs ++ us) drawn
          ∙ draws_next sorts values (values_view c.loop-number.inputs) i sort u as_many c.loop-number.invariant in_table at
      | else-is_draw w ↦
          let u : PureValue = get_or values i (text []) in
          let at : slice_get values i ≡ Some u = slice_get-get_or values i (text []) (omega (arith, as_many, within)) in
          let none : draw_and sort u [] ≡ [] = c.is_draw.ensures u [] ∙ ap (λ (b : Bool). if b then u ∷ [] else []) w.if-is_draw.false in
          ap values_view w.inputs-is ∙ sym (append-nil (values_view c.loop-number.inputs)) ∙ ap (λ us. values_view c.loop-number.inputs ++ us) (sym none)
          ∙ draws_next sorts values (values_view c.loop-number.inputs) i sort u as_many c.loop-number.invariant in_table at
    ]

pub returns : goal.returns
returns c =
    let sorts = c.as_slice-sorts.result.now in
    let values = map value_view c.as_slice-values.result.now in
    let as_many : length values ≡ length sorts = ap length c.as_slice-values.ensures ∙ c.requires ∙ sym (ap length c.as_slice-sorts.ensures) in
    draws_whole sorts values (values_view c.loop-number.inputs) c.loop-number.number as_many c.loop-number.invariant c.loop-number-test.false
    ∙ (λ j. draws_among (c.as_slice-sorts.ensures j) (c.as_slice-values.ensures j))
