use Rattle.std.proofs.Common.{◌≡◌, ◌≤◌, length, sym, ◌∙◌, ap, Some, slice_get, refl, arith}
use Rattle.gil_values.proofs.Lists.{take_further}
use Rattle.pure_terms.specs.EqualityLaws.{same_term-same}
use Rattle.pure_terms.specs.View.{term_view, terms_view}
use Rattle.pure_terms.proofs.EqualLists.{unequal_lengths, unequal_terms, equal_lists}
use Rattle.pure_terms.proofs.ListTests.{term_at, length_of}
use Rattle.pure_terms.proofs.equality.+same.Goals as goal

pub are_equal_lists-returns-then-len : goal.are_equal_lists-returns-then-len
are_equal_lists-returns-then-len t c = unequal_lengths (terms_view c.args.ts.now) (terms_view c.args.us.now) (λ e. c.if-len.true (omega (arith, e, length_of c.args.ts.now, length_of c.args.us.now)))

pub are_equal_lists-returns-then-not-are_equal : goal.are_equal_lists-returns-then-not-are_equal
are_equal_lists-returns-then-not-are_equal t c =
    let i = c.loop-index.index in
    let here : slice_get (terms_view c.args.ts.now) i ≡ Some (term_view c.t-item.result) = term_at c.args.ts.now _ i _ c.deref-t-items.ensures.value (omega arith) c.t-item.is in
    let there : slice_get (terms_view c.args.us.now) i ≡ Some (term_view c.index.result.now) = term_at c.args.us.now c.args.us.now.items.items i _ refl (omega arith) c.index.ensures in
    unequal_terms _ _ i _ _ here there (sym c.are_equal.ensures ∙ c.if-not-are_equal.true)

pub are_equal_lists-loop-index-preserved : goal.are_equal_lists-loop-index-preserved
are_equal_lists-loop-index-preserved t c =
    let i = c.loop-index.index in
    let here : slice_get (terms_view c.args.ts.now) i ≡ Some (term_view c.t-item.result) = term_at c.args.ts.now _ i _ c.deref-t-items.ensures.value (omega arith) c.t-item.is in
    let there : slice_get (terms_view c.args.us.now) i ≡ Some (term_view c.index.result.now) = term_at c.args.us.now c.args.us.now.items.items i _ refl (omega arith) c.index.ensures in
    let alike : term_view c.t-item.result ≡ term_view c.index.result.now = same_term-same _ _ (sym c.are_equal.ensures ∙ c.if-not-are_equal.false) in
    take_further _ _ i _ c.loop-index.invariant here (there ∙ ap Some (sym alike))

pub are_equal_lists-returns : goal.are_equal_lists-returns
are_equal_lists-returns t c =
    let i = c.loop-index.index in
    let left : length (terms_view c.args.ts.now) ≤ i = omega (arith, length_of c.args.ts.now) in
    let right : length (terms_view c.args.us.now) ≤ i = omega (arith, length_of c.args.us.now) in
    equal_lists _ _ i left right c.loop-index.invariant
