use Rattle.std.proofs.Common.{◌≡◌, ◌++◌, drop}
use Rattle.pure_terms.specs.View.{atoms_view}
use Rattle.solver_rules.specs.Rows.{rows_from, places_from}
use Rattle.solver_rules.proofs.listing.rows_of.Given as goal

abbrev pub invariant-loop-place : goal.invariant-loop-place
invariant-loop-place l = record {
  rows : rows_from (atoms_view l.atoms) ≡ l.rows ++ rows_from (drop l.place (atoms_view l.atoms));
  places : places_from 0 (atoms_view l.atoms) ≡ l.places.items ++ places_from l.place (drop l.place (atoms_view l.atoms));
}
