use Rattle.std.proofs.Common.{◌≡◌, ◌++◌, map, drop}
use Rattle.gil_report.specs.View.{binding_view}
use Rattle.gil_syntax.specs.Valid.{param_names}
use Rattle.gil_values.specs.View.{values_view}
use Rattle.pure_terms.specs.View.{terms_view}
use Rattle.report_causes.specs.Telling.{told_arguments}
use Rattle.report_causes.proofs.values.arguments.Given as goal

abbrev pub invariant-loop-index : goal.invariant-loop-index
invariant-loop-index l =
    map binding_view l.bindings ++ told_arguments (values_view l.valuation) (drop l.index (param_names l.params)) (drop l.index (terms_view l.args))
    ≡ told_arguments (values_view l.valuation) (param_names l.params) (terms_view l.args)
