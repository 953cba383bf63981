use Rattle.std.proofs.Common.{map}
use Rattle.gil_values.specs.View.{value_view, values_view}
use Rattle.pure_terms.specs.View.{atoms_view}
use Rattle.sym_test.specs.Canonical.{is_named}
use Rattle.sym_test.proofs.Canonicals.{IsMadeTo}
use Rattle.sym_test.proofs.canonical.canonical_valuation.Given as goal

abbrev pub invariant-loop-number : goal.invariant-loop-number
invariant-loop-number l = IsMadeTo (is_named (atoms_view l.atoms)) l.sorts (map value_view l.values) (values_view l.chosen) l.number l.next
