use Rattle.std.proofs.Common.{◌≡◌, ◌≤◌, length, Some, slice_get, refl, sym, ◌∙◌, List, arith}
use Rattle.std.specs.List.{list_any}
use Rattle.pure_terms.specs.Fragment.{names_sort, name_sort}
use Rattle.pure_terms.specs.declared.variables.Sort.{Sort}
use Rattle.pure_terms.specs.Pure.{PureTerm, from_list}
use Rattle.pure_terms.specs.View.{term_view, terms_view}
use Rattle.pure_terms.proofs.ListTests.{term_at, length_of, any_more, any_found, any_whole, tests_any}
use Rattle.pure_terms.proofs.fragment.+sorts.Goals as goal

sort_list : (s : Sort) (us : List PureTerm) → name_sort s (from_list us) ≡ list_any (names_sort s) us
sort_list s = tests_any (names_sort s) (name_sort s) refl (λ t ts. refl)

pub terms_name_sort-returns-then-term_names_sort : goal.terms_name_sort-returns-then-term_names_sort
terms_name_sort-returns-then-term_names_sort t c =
    let here : slice_get (terms_view c.args.terms.now) c.loop-term.term-index ≡ Some (term_view c.term-item.result) = term_at c.args.terms.now _ _ _ c.deref-term-items.ensures.value (omega arith) c.term-item.is in
    sym (sort_list c.args.sort (terms_view c.args.terms.now) ∙ any_found (names_sort c.args.sort) (terms_view c.args.terms.now) c.loop-term.term-index _ here (sym c.term_names_sort.ensures ∙ c.if-term_names_sort.true))

pub terms_name_sort-loop-term-preserved : goal.terms_name_sort-loop-term-preserved
terms_name_sort-loop-term-preserved t c =
    let here : slice_get (terms_view c.args.terms.now) c.loop-term.term-index ≡ Some (term_view c.term-item.result) = term_at c.args.terms.now _ _ _ c.deref-term-items.ensures.value (omega arith) c.term-item.is in
    any_more (names_sort c.args.sort) (terms_view c.args.terms.now) c.loop-term.term-index _ c.loop-term.invariant here (sym c.term_names_sort.ensures ∙ c.if-term_names_sort.false)

pub terms_name_sort-returns : goal.terms_name_sort-returns
terms_name_sort-returns t c =
    let past : length (terms_view c.args.terms.now) ≤ c.loop-term.term-index = omega (arith, length_of c.args.terms.now) in
    sym (sort_list c.args.sort (terms_view c.args.terms.now) ∙ any_whole (names_sort c.args.sort) (terms_view c.args.terms.now) c.loop-term.term-index past c.loop-term.invariant)
