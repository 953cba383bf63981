use Rattle.std.proofs.Common.{◌≡◌, ◌++◌, map, drop, filter}
use Rattle.gil_report.specs.View.{binding_view}
use Rattle.gil_syntax.specs.View.{spec_view}
use Rattle.gil_values.specs.View.{values_view}
use Rattle.report_causes.specs.Causes.{bindings_by}
use Rattle.report_causes.specs.Names.{own_variables}
use Rattle.report_causes.specs.Telling.{value_at}
use Rattle.spec_vacuity.specs.Translation.{is_own_variable}
use Rattle.sym_evaluation.specs.View.{store_view}
use Rattle.report_causes.proofs.values.bind_variables.Given as goal

abbrev pub invariant-loop-param : goal.invariant-loop-param
invariant-loop-param l =
    map binding_view l.bindings
    ++ bindings_by (value_at (values_view l.valuation) (store_view l.variables)) (filter (is_own_variable (spec_view l.spec)) (drop l.param-index l.spec.logicals))
    ≡ map binding_view l.fn.bindings ++ bindings_by (value_at (values_view l.valuation) (store_view l.variables)) (own_variables (spec_view l.spec))
