use Rattle.std.proofs.Common.{◌≡◌, ◌≤◌, length, Some, slice_get, sym, ◌∙◌, arith}
use Rattle.pure_terms.specs.Naming.{names_only}
use Rattle.pure_terms.specs.View.{term_view, terms_view}
use Rattle.pure_terms.proofs.ListTests.{term_at, length_of, all_more, all_fails, all_whole}
use Rattle.pure_terms.proofs.NamingLaws.{over_list}
use Rattle.pure_terms.proofs.naming.+over.Goals as goal

pub terms_are_over-returns-then-not-term_is_over : goal.terms_are_over-returns-then-not-term_is_over
terms_are_over-returns-then-not-term_is_over t c =
    let here : slice_get (terms_view c.args.terms.now) c.loop-term.term-index ≡ Some (term_view c.term-item.result) = term_at c.args.terms.now _ _ _ c.deref-term-items.ensures.value (omega arith) c.term-item.is in
    sym (over_list c.args.vars.now (terms_view c.args.terms.now) ∙ all_fails (names_only c.args.vars.now) (terms_view c.args.terms.now) c.loop-term.term-index _ here (sym c.term_is_over.ensures ∙ c.if-not-term_is_over.true))

pub terms_are_over-loop-term-preserved : goal.terms_are_over-loop-term-preserved
terms_are_over-loop-term-preserved t c =
    let here : slice_get (terms_view c.args.terms.now) c.loop-term.term-index ≡ Some (term_view c.term-item.result) = term_at c.args.terms.now _ _ _ c.deref-term-items.ensures.value (omega arith) c.term-item.is in
    all_more (names_only c.args.vars.now) (terms_view c.args.terms.now) c.loop-term.term-index _ c.loop-term.invariant here (sym c.term_is_over.ensures ∙ c.if-not-term_is_over.false)

pub terms_are_over-returns : goal.terms_are_over-returns
terms_are_over-returns t c =
    let past : length (terms_view c.args.terms.now) ≤ c.loop-term.term-index = omega (arith, length_of c.args.terms.now) in
    sym (over_list c.args.vars.now (terms_view c.args.terms.now) ∙ all_whole (names_only c.args.vars.now) (terms_view c.args.terms.now) c.loop-term.term-index past c.loop-term.invariant)
