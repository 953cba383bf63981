use Rattle.std.proofs.Common.{◌≡◌, ◌<◌, length, Some, slice_get}
use Rattle.gil_values.specs.Pure.{PureValue}
use Rattle.gil_values.specs.View.{values_view}
use Rattle.pure_terms.specs.declared.variables.Var.{Var}
use Rattle.equality_core.specs.Classes.{classes_view, given_list}
use Rattle.equality_core.specs.Values.{IsInTable, IsValueOf}
use Rattle.equality_core.proofs.values.values_of.Given as goal

abbrev pub invariant-loop-number : goal.invariant-loop-number
invariant-loop-number l = record {
  size : length (values_view l.values) ≡ l.number;
  each : (x : Var) (w : PureValue) → x.number < l.number → IsInTable l.vars x → slice_get (values_view l.values) x.number ≡ Some w
      → IsValueOf l.vars (given_list (classes_view l.classes)) (values_view l.numbers) l.kinds l.long x w;
}
