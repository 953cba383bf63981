use Rattle.std.proofs.Common.{◌≡◌, ◌+◌, ◌*◌, drop}
use Rattle.gil_syntax.specs.Pure.{from_list as exprs_from}
use Rattle.gil_syntax.specs.View.{expr_view, exprs_view}
use Rattle.pure_terms.specs.View.{terms_view, atoms_view}
use Rattle.sym_evaluation.specs.Evaluating.{all_cases_after}
use Rattle.sym_evaluation.specs.View.{store_view, faults_view}
use Rattle.sym_evaluation.proofs.Listing.{rest_after}
use Rattle.sym_evaluation.proofs.Sizes.{expr_size, exprs_size}
use Rattle.sym_evaluation.proofs.evaluation.+evaluation.Given as goal

abbrev pub decreases-evaluate_after : goal.decreases-evaluate_after
decreases-evaluate_after l = 2 * expr_size (expr_view l.expression.now)

abbrev pub decreases-evaluate_all_after : goal.decreases-evaluate_all_after
decreases-evaluate_all_after l = 2 * exprs_size (exprs_from (exprs_view l.expressions.now)) + 1

abbrev pub invariant-evaluate_all_after-loop-expression : goal.invariant-evaluate_all_after-loop-expression
invariant-evaluate_all_after-loop-expression l =
    rest_after (store_view l.store) (faults_view l.faults) (atoms_view l.conds) (terms_view l.terms) (drop l.expression-index (exprs_view l.fn.expressions))
    ≡ all_cases_after (store_view l.store) (faults_view l.fn.faults) (atoms_view l.fn.conds) (exprs_from (exprs_view l.fn.expressions))
