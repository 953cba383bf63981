use Rattle.std.proofs.Common.{◌≡◌, List, take, Some, slice_get, sym, ap, ◌∙◌, subst, arith}
use Rattle.gil_values.proofs.Lists.{slice_get-read}
use Rattle.pure_terms.specs.declared.atoms.Atom.{Atom}
use Rattle.pure_terms.specs.View.{atom_view, atoms_view}
use Rattle.solver_sorts.specs.Sorting.{IsSortedTable}
use Rattle.solver_sorts.proofs.Tabled.{none_said, noted_next, within_table}
use Rattle.solver_sorts.proofs.tables.sorted_table.Goals as goal

pub note-requires : goal.note-requires
note-requires c =
    let here : slice_get (atoms_view c.as_slice-atom-items.result.now) c.loop-atom.atom-index ≡ Some (atom_view c.atom-item.result) = slice_get-read atom_view c.as_slice-atom-items.result.now c.loop-atom.atom-index c.atom-item.result (omega arith) c.atom-item.is in
    let there : slice_get (atoms_view c.args.atoms.now) c.loop-atom.atom-index ≡ Some (atom_view c.atom-item.result) = ap (λ (xs : List Atom). slice_get (atoms_view xs) c.loop-atom.atom-index) (sym c.as_slice-atom-items.ensures) ∙ here in
    record { within = within_table c.args.vars.now c.loop-atom.sorts.items (atoms_view c.args.atoms.now) (take c.loop-atom.atom-index (atoms_view c.args.atoms.now)) c.loop-atom.atom-index (atom_view c.atom-item.result) c.requires there c.loop-atom.invariant }

pub loop-atom-init : goal.loop-atom-init
loop-atom-init c =
    subst (IsSortedTable c.args.vars.now (take 0 (atoms_view c.args.atoms.now))) (sym c.in_ok-sorts.ensures) (none_said c.args.vars.now (atoms_view c.args.atoms.now))

pub loop-atom-preserved : goal.loop-atom-preserved
loop-atom-preserved c =
    let here : slice_get (atoms_view c.as_slice-atom-items.result.now) c.loop-atom.atom-index ≡ Some (atom_view c.atom-item.result) = slice_get-read atom_view c.as_slice-atom-items.result.now c.loop-atom.atom-index c.atom-item.result (omega arith) c.atom-item.is in
    let there : slice_get (atoms_view c.args.atoms.now) c.loop-atom.atom-index ≡ Some (atom_view c.atom-item.result) = ap (λ (xs : List Atom). slice_get (atoms_view xs) c.loop-atom.atom-index) (sym c.as_slice-atom-items.ensures) ∙ here in
    noted_next (atoms_view c.args.atoms.now) c.loop-atom.atom-index (atom_view c.atom-item.result) there c.args.vars.now c.loop-atom.sorts.items c.note.new.sorts.items c.requires c.loop-atom.invariant c.note.ensures
