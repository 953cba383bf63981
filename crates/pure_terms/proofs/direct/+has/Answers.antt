use Rattle.std.proofs.Common.{◌≡◌, ◌<◌, ◌≤◌, ℕ, get_or, length, map, Some, slice_get, refl, sym, ap, ◌∙◌, List, [], ◌∷◌, ◌&&◌, arith}
use Rattle.std.proofs.lemmas.List.{length-map}
use Rattle.gil_values.proofs.Lists.{slice_get-read}
use Rattle.gil_values.specs.declared.tree.Value.{Value}
use Rattle.gil_values.specs.Pure.{PureValue, from_list as list_elements}
use Rattle.gil_values.specs.View.{value_view, values_view}
use Rattle.pure_terms.specs.Direct.{is_at, are_at}
use Rattle.pure_terms.specs.Pure.{PureTerm, from_list}
use Rattle.pure_terms.specs.View.{term_view, terms_view}
use Rattle.pure_terms.proofs.ListTests.{term_at, length_of}
use Rattle.pure_terms.proofs.PairTests.{pairs_all, pairs_unequal, pairs_fail, pairs_more, pairs_whole}
use Rattle.pure_terms.proofs.direct.+has.Goals as goal

has_all : (v : List PureValue) (ts : List PureTerm) (ws : List PureValue) → are_at v (from_list ts) (list_elements ws) ≡ pairs_all (is_at v) ts ws
has_all v [] [] = refl
has_all v [] (w ∷ ws) = refl
has_all v (t ∷ ts) [] = refl
has_all v (t ∷ ts) (w ∷ ws) = ap (λ b. is_at v t w && b) (has_all v ts ws)

-- the slice has the elements that the view has
seen_length : (elements : List Value) (ws : List PureValue) → map value_view elements ≡ ws → length ws ≡ length elements
seen_length elements ws same = ap length (sym same) ∙ length-map elements value_view

seen_at : (elements : List Value) (ws : List PureValue) (i : ℕ) (w : Value) → map value_view elements ≡ ws → i < length elements → w ≡ get_or elements i w → slice_get ws i ≡ Some (value_view w)
seen_at elements ws i w same below is = ap (λ l. slice_get l i) (sym same) ∙ slice_get-read value_view elements i w below is

pub terms_are-returns-then-len-elements : goal.terms_are-returns-then-len-elements
terms_are-returns-then-len-elements t c =
    let v = values_view c.args.valuation.now in
    let size = seen_length _ _ c.as_slice-elements.ensures in
    sym (has_all v (terms_view c.args.terms.now) (values_view c.args.values.now)
    ∙ pairs_unequal (is_at v) (terms_view c.args.terms.now) (values_view c.args.values.now)
    (λ e. c.if-len-elements.true (omega (arith, e, size, length_of c.args.terms.now))))

pub terms_are-returns-then-not-term_is : goal.terms_are-returns-then-not-term_is
terms_are-returns-then-not-term_is t c =
    let v = values_view c.args.valuation.now in
    let i = c.loop-index.index in
    let here : slice_get (terms_view c.args.terms.now) i ≡ Some (term_view c.term-item.result) = term_at c.args.terms.now _ i _ c.deref-term-items.ensures.value (omega arith) c.term-item.is in
    let there = seen_at _ _ i c.index-elements-index.result c.as_slice-elements.ensures (omega arith) c.index-elements-index.is in
    sym (has_all v (terms_view c.args.terms.now) (values_view c.args.values.now)
    ∙ pairs_fail (is_at v) (terms_view c.args.terms.now) (values_view c.args.values.now) i _ _ here there (sym c.term_is.ensures ∙ c.if-not-term_is.true))

pub terms_are-loop-index-preserved : goal.terms_are-loop-index-preserved
terms_are-loop-index-preserved t c =
    let v = values_view c.args.valuation.now in
    let i = c.loop-index.index in
    let here : slice_get (terms_view c.args.terms.now) i ≡ Some (term_view c.term-item.result) = term_at c.args.terms.now _ i _ c.deref-term-items.ensures.value (omega arith) c.term-item.is in
    let there = seen_at _ _ i c.index-elements-index.result c.as_slice-elements.ensures (omega arith) c.index-elements-index.is in
    pairs_more (is_at v) (terms_view c.args.terms.now) (values_view c.args.values.now) i _ _ c.loop-index.invariant here there (sym c.term_is.ensures ∙ c.if-not-term_is.false)

pub terms_are-returns : goal.terms_are-returns
terms_are-returns t c =
    let v = values_view c.args.valuation.now in
    let i = c.loop-index.index in
    let size = seen_length _ _ c.as_slice-elements.ensures in
    let left : length (terms_view c.args.terms.now) ≤ i = omega (arith, length_of c.args.terms.now) in
    let right : length (values_view c.args.values.now) ≤ i = omega (arith, size) in
    sym (has_all v (terms_view c.args.terms.now) (values_view c.args.values.now)
    ∙ pairs_whole (is_at v) (terms_view c.args.terms.now) (values_view c.args.values.now) i left right c.loop-index.invariant)
