use Rattle.std.proofs.Common.{◌+◌, ◌*◌}
use Rattle.pure_terms.specs.Pure.{from_list, size, sizes}
use Rattle.pure_terms.specs.View.{term_view, terms_view}
use Rattle.solver_parts.proofs.renaming.+renamed.Given as goal

abbrev pub decreases-renamed : goal.decreases-renamed
decreases-renamed l = 2 * size (term_view l.term.now)

abbrev pub decreases-renamed_terms : goal.decreases-renamed_terms
decreases-renamed_terms l = 2 * sizes (from_list (terms_view l.terms.now)) + 1
