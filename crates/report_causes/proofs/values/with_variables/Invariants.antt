use Rattle.std.proofs.Common.{◌≡◌, ◌++◌, take, filter}
use Rattle.gil_syntax.specs.View.{spec_view}
use Rattle.pure_terms.specs.View.{terms_view}
use Rattle.spec_vacuity.specs.Translation.{is_own_variable}
use Rattle.sym_evaluation.specs.View.{store_view}
use Rattle.report_causes.specs.Causes.{variable_terms}
use Rattle.report_causes.proofs.values.with_variables.Given as goal

abbrev pub invariant-loop-param : goal.invariant-loop-param
invariant-loop-param l =
    terms_view l.terms ≡ terms_view l.fn.terms ++ variable_terms (store_view l.variables) (filter (is_own_variable (spec_view l.spec)) (take l.param-index l.spec.logicals))
