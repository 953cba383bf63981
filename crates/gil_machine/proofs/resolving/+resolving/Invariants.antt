use Rattle.std.proofs.Common.{◌≡◌, ◌+◌, ◌*◌, map, take}
use Rattle.gil_syntax.specs.Pure.{from_list}
use Rattle.gil_syntax.specs.View.{expr_view, exprs_view}
use Rattle.gil_machine.specs.ResolvedView.{resolved_view}
use Rattle.gil_machine.specs.SlotNames.{Grows, IsNames, Names, names_of}
use Rattle.gil_machine.proofs.Sizes.{expr_size, exprs_size}
use Rattle.gil_machine.proofs.resolving.+resolving.Given as goal

abbrev pub decreases-resolve : goal.decreases-resolve
decreases-resolve l = 2 * expr_size (expr_view l.expression.now)

abbrev pub decreases-resolve_all : goal.decreases-resolve_all
decreases-resolve_all l = 2 * exprs_size (from_list (exprs_view l.expressions.now)) + 1

abbrev pub invariant-resolve_all-loop-expression : goal.invariant-resolve_all-loop-expression
invariant-resolve_all-loop-expression l = record {
  names : IsNames l.names;
  grows : Grows (names_of l.fn.names.names.items) (names_of l.names.names.items);
  resolved : (ns : Names) → Grows (names_of l.names.names.items) ns → map (resolved_view ns) l.items.items ≡ take l.expression-index (exprs_view l.expressions);
}
