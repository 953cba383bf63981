use Rattle.std.proofs.Common.{◌+◌, ◌*◌}
use Rattle.pure_terms.specs.Pure.{from_list, size, sizes}
use Rattle.pure_terms.specs.View.{term_view, terms_view}
use Rattle.solver_parts.proofs.classes.+join.Given as goal

abbrev pub decreases-join_term : goal.decreases-join_term
decreases-join_term l = 2 * size (term_view l.term.now)

abbrev pub decreases-join_terms : goal.decreases-join_terms
decreases-join_terms l = 2 * sizes (from_list (terms_view l.terms.now)) + 1
