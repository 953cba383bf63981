use Rattle.std.proofs.Common.{◌++◌, List, map, slice_get, sym, ap, ◌∙◌}
use Rattle.pure_terms.specs.declared.atoms.Atom.{Atom}
use Rattle.pure_terms.specs.View.{atom_view, atoms_view}
use Rattle.solver_rules.specs.Rows.{found_rows, found_places}
use Rattle.solver_rules.proofs.RowLists.{rows_more, places_more, atom_there}
use Rattle.solver_rules.proofs.listing.rows_of.Goals as goal

pub row_of-requires : goal.row_of-requires
row_of-requires c = c.requires c.loop-place.place (atom_view c.index-atoms-place.result)
    (ap (λ (xs : List Atom). slice_get (map atom_view xs) c.loop-place.place) (sym c.as_slice-atoms.ensures) ∙ atom_there c.as_slice-atoms.result.now c.loop-place.place c.index-atoms-place.result c.loop-place-test.true c.index-atoms-place.is)

pub loop-place-preserved : goal.loop-place-preserved
loop-place-preserved c =
    let at = atom_there c.as_slice-atoms.result.now c.loop-place.place c.index-atoms-place.result c.loop-place-test.true c.index-atoms-place.is in
    record {
      rows = rows_more (atoms_view c.as_slice-atoms.result.now) c.loop-place.place (atom_view c.index-atoms-place.result) at _ c.loop-place.rows c.push_found.new.rows c.loop-place.invariant.rows (c.in_ok-push_found.ensures.rows ∙ ap (λ o. c.loop-place.rows ++ found_rows o) c.in_ok-found.ensures);
      places = places_more (atoms_view c.as_slice-atoms.result.now) c.loop-place.place (atom_view c.index-atoms-place.result) at _ c.loop-place.places.items c.push_found.new.places.items c.loop-place.invariant.places (c.in_ok-push_found.ensures.places ∙ ap (λ o. c.loop-place.places.items ++ found_places c.loop-place.place o) c.in_ok-found.ensures);
    }
