-- The laws of lists on which no rule has anything to add.
use Rattle.solver_rules.specs.declared.rules.Rule.{Rule}
use Rattle.solver_rules.specs.Laws.{SettledListsMayBeValued, LooseDisequalitiesMayBeMet, ModelsSatisfy, CombinationsClose}
use Rattle.solver_rules.proofs.Fitting as fitting
use Rattle.solver_rules.proofs.KindsFit as kinds_fit
use Rattle.solver_rules.proofs.Model as model
use Rattle.solver_rules.proofs.RowSums as sums
use Rattle.solver_rules.proofs.RowsFit as rows

pub settled_lists_may_be_valued : SettledListsMayBeValued
settled_lists_may_be_valued vars list c numbers kinds is = record {
  fragment = fitting.fragment vars list c is.node numbers kinds is.are_kinds (is.done Rule.OneKind) (is.done Rule.TwoKinds) (is.done Rule.SmallFact) (is.done Rule.SmallSide) (is.done Rule.Linked);
  numbers_fit = fitting.numbers_fit vars list c is.node numbers is.solved (is.done Rule.Meeting);
  kinds_fit = kinds_fit.kinds_fit vars list c is.node numbers (is.done Rule.OneKind) (is.done Rule.TwoKinds) kinds is.are_kinds;
}

pub loose_disequalities_may_be_met : LooseDisequalitiesMayBeMet
loose_disequalities_may_be_met vars list c numbers kinds i a s t is at loose =
    fitting.may_differ vars list c is.node numbers kinds is.are_kinds (is.done Rule.OneKind) (is.done Rule.TwoKinds) (is.done Rule.SmallFact) (is.done Rule.SmallSide) (is.done Rule.Linked)
    i a s t at loose.is loose.left_flat loose.right_flat loose.free

pub models_satisfy : ModelsSatisfy
models_satisfy vars list c numbers kinds apart v is has meets =
    model.satisfied vars list c is.node numbers is.solved kinds is.are_kinds (is.done Rule.OneKind) (is.done Rule.TwoKinds) (is.done Rule.Numbers) (is.done Rule.Orders) (is.done Rule.Lists)
    apart (λ i a s t at form left right not_both free. has i a s t at (record { is = form; left_flat = left; right_flat = right; free = free }) not_both) v meets

pub combinations_close : CombinationsClose
combinations_close vars list fs plain is = sums.sum_closes list (rows.rows_held vars list plain) fs is
