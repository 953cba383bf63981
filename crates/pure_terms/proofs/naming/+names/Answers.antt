use Rattle.std.proofs.Common.{◌≡◌, ◌≤◌, length, Some, slice_get, sym, ◌∙◌, arith}
use Rattle.pure_terms.specs.Naming.{names_number}
use Rattle.pure_terms.specs.View.{term_view, terms_view}
use Rattle.pure_terms.proofs.ListTests.{term_at, length_of, any_more, any_found, any_whole}
use Rattle.pure_terms.proofs.NamingLaws.{names_list}
use Rattle.pure_terms.proofs.naming.+names.Goals as goal

pub terms_name-returns-then-term_names : goal.terms_name-returns-then-term_names
terms_name-returns-then-term_names t c =
    let here : slice_get (terms_view c.args.terms.now) c.loop-term.term-index ≡ Some (term_view c.term-item.result) = term_at c.args.terms.now _ _ _ c.deref-term-items.ensures.value (omega arith) c.term-item.is in
    sym (names_list c.args.number (terms_view c.args.terms.now) ∙ any_found (names_number c.args.number) (terms_view c.args.terms.now) c.loop-term.term-index _ here (sym c.term_names.ensures ∙ c.if-term_names.true))

pub terms_name-loop-term-preserved : goal.terms_name-loop-term-preserved
terms_name-loop-term-preserved t c =
    let here : slice_get (terms_view c.args.terms.now) c.loop-term.term-index ≡ Some (term_view c.term-item.result) = term_at c.args.terms.now _ _ _ c.deref-term-items.ensures.value (omega arith) c.term-item.is in
    any_more (names_number c.args.number) (terms_view c.args.terms.now) c.loop-term.term-index _ c.loop-term.invariant here (sym c.term_names.ensures ∙ c.if-term_names.false)

pub terms_name-returns : goal.terms_name-returns
terms_name-returns t c =
    let past : length (terms_view c.args.terms.now) ≤ c.loop-term.term-index = omega (arith, length_of c.args.terms.now) in
    sym (names_list c.args.number (terms_view c.args.terms.now) ∙ any_whole (names_number c.args.number) (terms_view c.args.terms.now) c.loop-term.term-index past c.loop-term.invariant)
