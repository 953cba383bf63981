use Rattle.std.proofs.Common.{◌≡◌, ℕ, ◌<◌, true, Some, slice_get}
use Rattle.gil_values.specs.Pure.{PureValue}
use Rattle.gil_values.specs.View.{values_view}
use Rattle.pure_terms.specs.declared.variables.Sort.{Sort}
use Rattle.solver_guess.specs.Tame.{is_tame_for}
use Rattle.solver_guess.proofs.proper.are_tame.Given as goal

abbrev pub invariant-loop-variable : goal.invariant-loop-variable
invariant-loop-variable l = (x : ℕ) (s : Sort) (w : PureValue) → x < l.variable → slice_get l.vars x ≡ Some s → slice_get (values_view l.values) x ≡ Some w → is_tame_for x s w ≡ true
