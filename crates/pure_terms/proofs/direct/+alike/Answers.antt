use Rattle.std.proofs.Common.{◌≡◌, ◌≤◌, length, Some, slice_get, refl, sym, ap, ◌∙◌, List, [], ◌∷◌, ◌&&◌, arith}
use Rattle.gil_values.specs.Pure.{PureValue}
use Rattle.gil_values.specs.View.{values_view}
use Rattle.pure_terms.specs.Direct.{are_same, lists_are_same}
use Rattle.pure_terms.specs.Pure.{PureTerm, from_list}
use Rattle.pure_terms.specs.View.{term_view, terms_view}
use Rattle.pure_terms.proofs.ListTests.{term_at, length_of}
use Rattle.pure_terms.proofs.PairTests.{pairs_all, pairs_unequal, pairs_fail, pairs_more, pairs_whole}
use Rattle.pure_terms.proofs.direct.+alike.Goals as goal

same_lists : (v : List PureValue) (ss ts : List PureTerm) → lists_are_same v (from_list ss) (from_list ts) ≡ pairs_all (are_same v) ss ts
same_lists v [] [] = refl
same_lists v [] (t ∷ ts) = refl
same_lists v (s ∷ ss) [] = refl
same_lists v (s ∷ ss) (t ∷ ts) = ap (λ b. are_same v s t && b) (same_lists v ss ts)

pub are_same_lists-returns-then-len : goal.are_same_lists-returns-then-len
are_same_lists-returns-then-len t c =
    let v = values_view c.args.valuation.now in
    sym (same_lists v (terms_view c.args.terms.now) (terms_view c.args.others.now)
    ∙ pairs_unequal (are_same v) (terms_view c.args.terms.now) (terms_view c.args.others.now) (λ e. c.if-len.true (omega (arith, e, length_of c.args.terms.now, length_of c.args.others.now))))

pub are_same_lists-returns-then-not-are_same_terms : goal.are_same_lists-returns-then-not-are_same_terms
are_same_lists-returns-then-not-are_same_terms t c =
    let v = values_view c.args.valuation.now in
    let i = c.loop-index.index in
    let here : slice_get (terms_view c.args.terms.now) i ≡ Some (term_view c.term-item.result) = term_at c.args.terms.now _ i _ c.deref-term-items.ensures.value (omega arith) c.term-item.is in
    let there : slice_get (terms_view c.args.others.now) i ≡ Some (term_view c.index.result.now) = term_at c.args.others.now c.args.others.now.items.items i _ refl (omega arith) c.index.ensures in
    sym (same_lists v (terms_view c.args.terms.now) (terms_view c.args.others.now)
    ∙ pairs_fail (are_same v) (terms_view c.args.terms.now) (terms_view c.args.others.now) i _ _ here there (sym c.are_same_terms.ensures ∙ c.if-not-are_same_terms.true))

pub are_same_lists-loop-index-preserved : goal.are_same_lists-loop-index-preserved
are_same_lists-loop-index-preserved t c =
    let v = values_view c.args.valuation.now in
    let i = c.loop-index.index in
    let here : slice_get (terms_view c.args.terms.now) i ≡ Some (term_view c.term-item.result) = term_at c.args.terms.now _ i _ c.deref-term-items.ensures.value (omega arith) c.term-item.is in
    let there : slice_get (terms_view c.args.others.now) i ≡ Some (term_view c.index.result.now) = term_at c.args.others.now c.args.others.now.items.items i _ refl (omega arith) c.index.ensures in
    pairs_more (are_same v) (terms_view c.args.terms.now) (terms_view c.args.others.now) i _ _ c.loop-index.invariant here there (sym c.are_same_terms.ensures ∙ c.if-not-are_same_terms.false)

pub are_same_lists-returns : goal.are_same_lists-returns
are_same_lists-returns t c =
    let v = values_view c.args.valuation.now in
    let i = c.loop-index.index in
    let left : length (terms_view c.args.terms.now) ≤ i = omega (arith, length_of c.args.terms.now) in
    let right : length (terms_view c.args.others.now) ≤ i = omega (arith, length_of c.args.others.now) in
    sym (same_lists v (terms_view c.args.terms.now) (terms_view c.args.others.now) ∙ pairs_whole (are_same v) (terms_view c.args.terms.now) (terms_view c.args.others.now) i left right c.loop-index.invariant)
