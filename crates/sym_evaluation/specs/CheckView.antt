-- The pure data of checks and stages.
use Rattle.std.specs.Option.{option_map}
use Rattle.pure_terms.specs.View.{atoms_view}
use Rattle.sym_model.specs.Alternatives.{alternatives_view}
use Rattle.sym_evaluation.specs.declared.checks.Check.{Check}
use Rattle.sym_evaluation.specs.declared.requiring.Stage.{Stage}
use Rattle.sym_evaluation.specs.Checks.{PureCheck, passes, fails, asks, PureStage}
use Rattle.sym_evaluation.specs.View.{faults_view}

abbrev pub check_view : Check → PureCheck
check_view Check.Passes = passes
check_view Check.Fails = fails
check_view (Check.Asks q) = asks (atoms_view q.met) (alternatives_view q.unmet)

abbrev pub stage_view : Stage → PureStage
stage_view s = record { faults = faults_view s.faults; conds = option_map atoms_view s.conds }
