use Rattle.std.proofs.Common.{◌≡◌, ◌≤◌, ℕ, false, take, ap, length, Some, slice_get, refl, sym, ◌∙◌, List, arith}
use Rattle.std.specs.List.{list_all}
use Rattle.std.proofs.lemmas.List.{take_all}
use Rattle.gil_values.specs.Pure.{PureValue}
use Rattle.gil_values.specs.View.{values_view}
use Rattle.pure_terms.specs.Direct.{is_readable, are_readable}
use Rattle.pure_terms.specs.Pure.{PureTerm, from_list}
use Rattle.pure_terms.specs.Truth.{have_wide_parts}
use Rattle.pure_terms.specs.View.{term_view, terms_view}
use Rattle.pure_terms.proofs.Evaluated.{wide-next}
use Rattle.pure_terms.proofs.ListTests.{term_at, length_of, all_more, all_fails, all_whole, tests_all}
use Rattle.pure_terms.proofs.direct.+readable.Goals as goal

readable_list : (v : List PureValue) (us : List PureTerm) → are_readable v (from_list us) ≡ list_all (is_readable v) us
readable_list v = tests_all (is_readable v) (are_readable v) refl (λ t ts. refl)

narrow_list : (v : List PureValue) (us : List PureTerm) (i : ℕ) → length us ≤ i → have_wide_parts v (from_list (take i us)) ≡ false → have_wide_parts v (from_list us) ≡ false
narrow_list v us i past narrow = ap (λ ts. have_wide_parts v (from_list ts)) (sym (take_all i us past)) ∙ narrow

pub are_readable_terms-returns-then-not-is_readable_term-clause-readable : goal.are_readable_terms-returns-then-not-is_readable_term-clause-readable
are_readable_terms-returns-then-not-is_readable_term-clause-readable t c =
    let v = values_view c.args.valuation.now in
    let here : slice_get (terms_view c.args.terms.now) c.loop-term.term-index ≡ Some (term_view c.term-item.result) =
    term_at c.args.terms.now _ _ _ c.deref-term-items.ensures.value (omega arith) c.term-item.is in
    sym (readable_list v (terms_view c.args.terms.now)
    ∙ all_fails (is_readable v) (terms_view c.args.terms.now) c.loop-term.term-index _ here (sym c.is_readable_term.ensures.readable ∙ c.if-not-is_readable_term.true))

pub are_readable_terms-loop-term-preserved : goal.are_readable_terms-loop-term-preserved
are_readable_terms-loop-term-preserved t c =
    let v = values_view c.args.valuation.now in
    let here : slice_get (terms_view c.args.terms.now) c.loop-term.term-index ≡ Some (term_view c.term-item.result) =
    term_at c.args.terms.now _ _ _ c.deref-term-items.ensures.value (omega arith) c.term-item.is in (
      all_more (is_readable v) (terms_view c.args.terms.now) c.loop-term.term-index _
          c.loop-term.invariant.0 here (sym c.is_readable_term.ensures.readable ∙ c.if-not-is_readable_term.false),
      wide-next v (terms_view c.args.terms.now) c.loop-term.term-index _ c.loop-term.invariant.1 here (c.is_readable_term.ensures.narrow c.if-not-is_readable_term.false),
    )

pub are_readable_terms-returns-clause-readable : goal.are_readable_terms-returns-clause-readable
are_readable_terms-returns-clause-readable t c =
    let v = values_view c.args.valuation.now in
    let past : length (terms_view c.args.terms.now) ≤ c.loop-term.term-index = omega (arith, length_of c.args.terms.now) in
    sym (readable_list v (terms_view c.args.terms.now) ∙ all_whole (is_readable v) (terms_view c.args.terms.now) c.loop-term.term-index past c.loop-term.invariant.0)

pub are_readable_terms-returns-clause-narrow : goal.are_readable_terms-returns-clause-narrow
are_readable_terms-returns-clause-narrow t c passes =
    let past : length (terms_view c.args.terms.now) ≤ c.loop-term.term-index = omega (arith, length_of c.args.terms.now) in
    narrow_list (values_view c.args.valuation.now) (terms_view c.args.terms.now) c.loop-term.term-index past c.loop-term.invariant.1
