use Rattle.std.proofs.Common.{◌≡◌, ◌+◌, ◌*◌, ◌++◌, map, take, string_bytes}
use Rattle.std.specs.Prelude.{codes}
use Rattle.std.specs.List.{join_by}
use Rattle.pure_terms.specs.Pure.{from_list, size, sizes}
use Rattle.pure_terms.specs.View.{term_view, terms_view}
use Rattle.syntax_print.specs.Expressions.{printed_expr}
use Rattle.solver_print.specs.Terms.{expr_of}
use Rattle.solver_print.proofs.terms.+print.Given as goal

abbrev pub decreases-push_term : goal.decreases-push_term
decreases-push_term l = 2 * size (term_view l.term.now)

abbrev pub decreases-push_terms : goal.decreases-push_terms
decreases-push_terms l = 2 * sizes (from_list (terms_view l.terms.now)) + 1

abbrev pub invariant-push_terms-loop-index : goal.invariant-push_terms-loop-index
invariant-push_terms-loop-index l =
    string_bytes l.out ≡ string_bytes l.fn.out ++ join_by printed_expr (codes ", ") (take l.index (map (expr_of l.names) (terms_view l.terms)))
