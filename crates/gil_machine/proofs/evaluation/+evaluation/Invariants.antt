use Rattle.std.proofs.Common.{[], ◌+◌, ◌*◌}
use Rattle.gil_values.specs.View.{values_view}
use Rattle.gil_syntax.specs.Evaluation.{Store as PureStore}
use Rattle.gil_syntax.specs.Pure.{from_list}
use Rattle.gil_machine.specs.Kept.{Keeps}
use Rattle.gil_machine.specs.ResolvedView.{resolved_list_view, resolved_view}
use Rattle.gil_machine.specs.SlotNames.{Names}
use Rattle.gil_machine.specs.StoreView.{store_view}
use Rattle.gil_machine.proofs.Evaluated.{EvaluatedTo}
use Rattle.gil_machine.proofs.Sizes.{expr_size, exprs_size}
use Rattle.gil_machine.proofs.evaluation.+evaluation.Given as goal

abbrev pub decreases-evaluate : goal.decreases-evaluate
decreases-evaluate l = 2 * expr_size (resolved_view [] l.expression.now)

abbrev pub decreases-with_left : goal.decreases-with_left
decreases-with_left l = 2 * expr_size (resolved_view [] l.right.now) + 1

abbrev pub decreases-evaluate_all : goal.decreases-evaluate_all
decreases-evaluate_all l = 2 * exprs_size (from_list (resolved_list_view [] l.expressions.now)) + 1

abbrev pub invariant-evaluate_all-loop-expression : goal.invariant-evaluate_all-loop-expression
invariant-evaluate_all-loop-expression l =
    (names : Names) (s : PureStore) → Keeps names (store_view l.store) s → EvaluatedTo (resolved_list_view names l.expressions) s l.expression-index (values_view l.values)
