use Rattle.std.proofs.Common.{◌≡◌, true, map, ◌≤◌, length, sym, ◌∙◌, ap, Some, slice_get, arith}
use Rattle.std.proofs.lemmas.List.{take_all, length-map}
use Rattle.gil_values.specs.Equality.{same_value}
use Rattle.gil_values.specs.View.{value_view}
use Rattle.gil_values.proofs.Lists.{slice_get-read, take_further}
use Rattle.gil_values.specs.EqualityLaws.{same_elements-differing, same_elements-equal, same_value-Decides, same_value-same}
use Rattle.gil_values.proofs.Views.{values_view-items, values_view-length}
use Rattle.gil_values.proofs.equality.+same.Goals as goal

pub are_equal_lists-returns-then-len : goal.are_equal_lists-returns-then-len
are_equal_lists-returns-then-len t c = same_elements-differing _ _ (λ e.
    let lengths : length c.args.vs.now.items.items ≡ length c.args.ws.now.items.items = sym (values_view-length c.args.vs.now) ∙ ap length e ∙ values_view-length c.args.ws.now in
    c.if-len.true (omega arith))

pub are_equal_lists-returns-then-not-are_equal : goal.are_equal_lists-returns-then-not-are_equal
are_equal_lists-returns-then-not-are_equal t c =
    let i = c.loop-index.index in
    let here : slice_get (map value_view c.args.vs.now.items.items) i ≡ Some (value_view c.v-item.result) = slice_get-read value_view _ i _ (omega arith) (rw c.deref-v-items.ensures.value at c.v-item.is) in
    let there : slice_get (map value_view c.args.ws.now.items.items) i ≡ Some (value_view c.index.result.now) = slice_get-read value_view _ i _ (omega arith) c.index.ensures in
    same_elements-differing _ _ (λ e.
    let whole : map value_view c.args.vs.now.items.items ≡ map value_view c.args.ws.now.items.items = sym (values_view-items c.args.vs.now) ∙ e ∙ values_view-items c.args.ws.now in
    let alike : Some (value_view c.v-item.result) ≡ Some (value_view c.index.result.now) = sym here ∙ ap (λ xs. slice_get xs i) whole ∙ there in
    let same : same_value (value_view c.v-item.result) (value_view c.index.result.now) ≡ true = (same_value-Decides (value_view c.v-item.result) (value_view c.index.result.now)).1 (cc) in
    cc)

pub are_equal_lists-loop-index-preserved : goal.are_equal_lists-loop-index-preserved
are_equal_lists-loop-index-preserved t c =
    let i = c.loop-index.index in
    let here : slice_get (map value_view c.args.vs.now.items.items) i ≡ Some (value_view c.v-item.result) = slice_get-read value_view _ i _ (omega arith) (rw c.deref-v-items.ensures.value at c.v-item.is) in
    let there : slice_get (map value_view c.args.ws.now.items.items) i ≡ Some (value_view c.index.result.now) = slice_get-read value_view _ i _ (omega arith) c.index.ensures in
    let alike : value_view c.v-item.result ≡ value_view c.index.result.now = same_value-same _ _ (sym c.are_equal.ensures ∙ c.if-not-are_equal.false) in
    take_further _ _ i _ c.loop-index.invariant here (there ∙ ap Some (sym alike))

pub are_equal_lists-returns : goal.are_equal_lists-returns
are_equal_lists-returns t c =
    let i = c.loop-index.index in
    let left : length (map value_view c.args.vs.now.items.items) ≤ i = omega (arith, length-map c.args.vs.now.items.items value_view) in
    let right : length (map value_view c.args.ws.now.items.items) ≤ i = omega (arith, length-map c.args.ws.now.items.items value_view) in
    same_elements-equal _ _ (values_view-items c.args.vs.now ∙ sym (take_all i _ left) ∙ c.loop-index.invariant ∙ take_all i _ right ∙ sym (values_view-items c.args.ws.now))
