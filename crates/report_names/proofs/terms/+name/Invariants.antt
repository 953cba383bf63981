use Rattle.std.proofs.Common.{◌≡◌, ◌+◌, ◌*◌, map, take}
use Rattle.gil_syntax.specs.View.{exprs_view}
use Rattle.pure_terms.specs.Pure.{from_list, size, sizes}
use Rattle.pure_terms.specs.View.{term_view, terms_view}
use Rattle.report_names.specs.Named.{expression_of}
use Rattle.report_names.proofs.terms.+name.Given as goal

abbrev pub decreases-named_term : goal.decreases-named_term
decreases-named_term l = 2 * size (term_view l.term.now)

abbrev pub decreases-named_terms : goal.decreases-named_terms
decreases-named_terms l = 2 * sizes (from_list (terms_view l.terms.now)) + 1

abbrev pub invariant-named_terms-loop-term : goal.invariant-named_terms-loop-term
invariant-named_terms-loop-term l = exprs_view l.list ≡ map (expression_of l.names) (map term_view (take l.term-index l.term-items))
