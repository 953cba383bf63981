use Rattle.std.proofs.Common.{◌≡◌, ◌≤◌, length, Some, slice_get, refl, sym, ◌∙◌, List, arith}
use Rattle.std.specs.List.{list_all}
use Rattle.pure_terms.specs.Fragment.{is_simple, are_simple}
use Rattle.pure_terms.specs.Pure.{PureTerm, from_list}
use Rattle.pure_terms.specs.View.{term_view, terms_view}
use Rattle.pure_terms.proofs.ListTests.{term_at, length_of, all_more, all_fails, all_whole, tests_all}
use Rattle.pure_terms.proofs.fragment.+simple.Goals as goal

simple_list : (us : List PureTerm) → are_simple (from_list us) ≡ list_all is_simple us
simple_list = tests_all is_simple are_simple refl (λ t ts. refl)

pub are_simple_terms-returns-then-not-is_simple_term : goal.are_simple_terms-returns-then-not-is_simple_term
are_simple_terms-returns-then-not-is_simple_term t c =
    let here : slice_get (terms_view c.args.terms.now) c.loop-term.term-index ≡ Some (term_view c.term-item.result) = term_at c.args.terms.now _ _ _ c.deref-term-items.ensures.value (omega arith) c.term-item.is in
    sym (simple_list (terms_view c.args.terms.now) ∙ all_fails is_simple (terms_view c.args.terms.now) c.loop-term.term-index _ here (sym c.is_simple_term.ensures ∙ c.if-not-is_simple_term.true))

pub are_simple_terms-loop-term-preserved : goal.are_simple_terms-loop-term-preserved
are_simple_terms-loop-term-preserved t c =
    let here : slice_get (terms_view c.args.terms.now) c.loop-term.term-index ≡ Some (term_view c.term-item.result) = term_at c.args.terms.now _ _ _ c.deref-term-items.ensures.value (omega arith) c.term-item.is in
    all_more is_simple (terms_view c.args.terms.now) c.loop-term.term-index _ c.loop-term.invariant here (sym c.is_simple_term.ensures ∙ c.if-not-is_simple_term.false)

pub are_simple_terms-returns : goal.are_simple_terms-returns
are_simple_terms-returns t c =
    let past : length (terms_view c.args.terms.now) ≤ c.loop-term.term-index = omega (arith, length_of c.args.terms.now) in
    sym (simple_list (terms_view c.args.terms.now) ∙ all_whole is_simple (terms_view c.args.terms.now) c.loop-term.term-index past c.loop-term.invariant)
