use Rattle.std.proofs.Common.{◌≡◌, ◌≤◌, length, Some, slice_get, sym, ◌∙◌, arith}
use Rattle.pure_terms.specs.Naming.{names_only_below}
use Rattle.pure_terms.specs.View.{term_view, terms_view}
use Rattle.pure_terms.proofs.ListTests.{term_at, length_of, all_more, all_fails, all_whole}
use Rattle.pure_terms.proofs.NamingLaws.{below_list}
use Rattle.pure_terms.proofs.naming.+below.Goals as goal

pub terms_name_only_below-returns-then-not-term_names_only_below : goal.terms_name_only_below-returns-then-not-term_names_only_below
terms_name_only_below-returns-then-not-term_names_only_below t c =
    let here : slice_get (terms_view c.args.terms.now) c.loop-term.term-index ≡ Some (term_view c.term-item.result) = term_at c.args.terms.now _ _ _ c.deref-term-items.ensures.value (omega arith) c.term-item.is in
    sym (below_list c.args.number (terms_view c.args.terms.now) ∙ all_fails (names_only_below c.args.number) (terms_view c.args.terms.now) c.loop-term.term-index _ here (sym c.term_names_only_below.ensures ∙ c.if-not-term_names_only_below.true))

pub terms_name_only_below-loop-term-preserved : goal.terms_name_only_below-loop-term-preserved
terms_name_only_below-loop-term-preserved t c =
    let here : slice_get (terms_view c.args.terms.now) c.loop-term.term-index ≡ Some (term_view c.term-item.result) = term_at c.args.terms.now _ _ _ c.deref-term-items.ensures.value (omega arith) c.term-item.is in
    all_more (names_only_below c.args.number) (terms_view c.args.terms.now) c.loop-term.term-index _ c.loop-term.invariant here (sym c.term_names_only_below.ensures ∙ c.if-not-term_names_only_below.false)

pub terms_name_only_below-returns : goal.terms_name_only_below-returns
terms_name_only_below-returns t c =
    let past : length (terms_view c.args.terms.now) ≤ c.loop-term.term-index = omega (arith, length_of c.args.terms.now) in
    sym (below_list c.args.number (terms_view c.args.terms.now) ∙ all_whole (names_only_below c.args.number) (terms_view c.args.terms.now) c.loop-term.term-index past c.loop-term.invariant)
