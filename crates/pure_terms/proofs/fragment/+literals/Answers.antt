use Rattle.std.proofs.Common.{◌≡◌, ◌≤◌, length, Some, slice_get, refl, sym, ◌∙◌, List, arith, rules, to_z, of_z}
use Rattle.std.specs.Int.{w128}
use Rattle.std.specs.List.{list_all}
use Rattle.pure_terms.specs.Fragment.{has_literals_between, have_literals_between}
use Rattle.std.specs.Prelude.{ℤ}
use Rattle.pure_terms.specs.Pure.{PureTerm, from_list}
use Rattle.pure_terms.specs.View.{term_view, terms_view}
use Rattle.pure_terms.proofs.ListTests.{term_at, length_of, all_more, all_fails, all_whole, tests_all}
use Rattle.pure_terms.proofs.fragment.+literals.Goals as goal

between_list : (low high : ℤ) (us : List PureTerm) → have_literals_between low high (from_list us) ≡ list_all (has_literals_between low high) us
between_list low high = tests_all (has_literals_between low high) (have_literals_between low high) refl (λ t ts. refl)

pub are_all_literals_between-returns-then-not-are_literals_between : goal.are_all_literals_between-returns-then-not-are_literals_between
are_all_literals_between-returns-then-not-are_literals_between t c =
    let here : slice_get (terms_view c.args.terms.now) c.loop-term.term-index ≡ Some (term_view c.term-item.result) = term_at c.args.terms.now _ _ _ c.deref-term-items.ensures.value (omega arith) c.term-item.is in
    let low : to_z w128 (of_z w128 c.args.low) ≡ c.args.low = search rules in
    let high : to_z w128 (of_z w128 c.args.high) ≡ c.args.high = search rules in
    sym (between_list c.args.low c.args.high (terms_view c.args.terms.now) ∙ all_fails (has_literals_between c.args.low c.args.high) (terms_view c.args.terms.now) c.loop-term.term-index _ here (rw (low, high) at (sym c.are_literals_between.ensures ∙ c.if-not-are_literals_between.true)))

pub are_all_literals_between-loop-term-preserved : goal.are_all_literals_between-loop-term-preserved
are_all_literals_between-loop-term-preserved t c =
    let here : slice_get (terms_view c.args.terms.now) c.loop-term.term-index ≡ Some (term_view c.term-item.result) = term_at c.args.terms.now _ _ _ c.deref-term-items.ensures.value (omega arith) c.term-item.is in
    let low : to_z w128 (of_z w128 c.args.low) ≡ c.args.low = search rules in
    let high : to_z w128 (of_z w128 c.args.high) ≡ c.args.high = search rules in
    rw (low, high) (all_more (has_literals_between c.args.low c.args.high) (terms_view c.args.terms.now) c.loop-term.term-index _ (rw (low, high) at c.loop-term.invariant) here (rw (low, high) at (sym c.are_literals_between.ensures ∙ c.if-not-are_literals_between.false)))

pub are_all_literals_between-returns : goal.are_all_literals_between-returns
are_all_literals_between-returns t c =
    let past : length (terms_view c.args.terms.now) ≤ c.loop-term.term-index = omega (arith, length_of c.args.terms.now) in
    let low : to_z w128 (of_z w128 c.args.low) ≡ c.args.low = search rules in
    let high : to_z w128 (of_z w128 c.args.high) ≡ c.args.high = search rules in
    sym (between_list c.args.low c.args.high (terms_view c.args.terms.now) ∙ all_whole (has_literals_between c.args.low c.args.high) (terms_view c.args.terms.now) c.loop-term.term-index past (rw (low, high) at c.loop-term.invariant))
