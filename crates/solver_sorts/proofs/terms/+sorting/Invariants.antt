use Rattle.std.proofs.Common.{◌≡◌, ◌*◌, ◌+◌, take}
use Rattle.pure_terms.specs.Pure.{from_list, size, sizes}
use Rattle.pure_terms.specs.View.{term_view, terms_view}
use Rattle.solver_sorts.specs.Sorting.{sorted_terms}
use Rattle.solver_sorts.proofs.terms.+sorting.Given as goal

abbrev pub decreases-sorted_term : goal.decreases-sorted_term
decreases-sorted_term l = 2 * size (term_view l.term.now)

abbrev pub decreases-sorted_terms : goal.decreases-sorted_terms
decreases-sorted_terms l = 2 * sizes (from_list (terms_view l.terms.now)) + 1

abbrev pub invariant-sorted_terms-loop-term : goal.invariant-sorted_terms-loop-term
invariant-sorted_terms-loop-term l = from_list (terms_view l.items) ≡ sorted_terms l.sorted (from_list (take l.term-index (terms_view l.terms)))
