use Rattle.std.proofs.Common.{◌≡◌, true, sym}
use Rattle.std.proofs.lemmas.Bool.{and_from}
use Rattle.pure_terms.specs.Fragment.{has_fragment_form, has_narrow_literals}
use Rattle.pure_terms.specs.View.{atom_view, atoms_view}
use Rattle.path_solver.specs.Outside.{is_plain_atom}
use Rattle.path_solver.proofs.Appending.{item_at}
use Rattle.path_solver.proofs.Keeping.{kept_by_form, kept_by_number, next_too, all_so_far}
use Rattle.path_solver.proofs.outside.first_outside.Goals as goal

pub returns-then-not-has_fragment_form-clause-some : goal.returns-then-not-has_fragment_form-clause-some
returns-then-not-has_fragment_form-clause-some c =
    let at = item_at c.args.atoms.now c.as_slice-atom-items.result.now c.loop-place.place c.atom-item.result c.as_slice-atom-items.ensures c.loop-place-test.true c.atom-item.is in
    kept_by_form (atoms_view c.args.atoms.now) c.loop-place.place (atom_view c.atom-item.result) at (sym c.if-not-has_fragment_form.ensures)

pub returns-then-not-has_narrow_literals-clause-some : goal.returns-then-not-has_narrow_literals-clause-some
returns-then-not-has_narrow_literals-clause-some c =
    let at = item_at c.args.atoms.now c.as_slice-atom-items.result.now c.loop-place.place c.atom-item.result c.as_slice-atom-items.ensures c.loop-place-test.true c.atom-item.is in
    kept_by_number (atoms_view c.args.atoms.now) c.loop-place.place (atom_view c.atom-item.result) at (sym c.if-not-has_narrow_literals.ensures)

pub loop-place-preserved : goal.loop-place-preserved
loop-place-preserved c =
    let at = item_at c.args.atoms.now c.as_slice-atom-items.result.now c.loop-place.place c.atom-item.result c.as_slice-atom-items.ensures c.loop-place-test.true c.atom-item.is in
    let form : has_fragment_form (atom_view c.atom-item.result) ≡ true = sym c.if-not-has_fragment_form.ensures in
    let narrow : has_narrow_literals (atom_view c.atom-item.result) ≡ true = sym c.if-not-has_narrow_literals.ensures in
    next_too (λ a. is_plain_atom a ≡ true) (atoms_view c.args.atoms.now) c.loop-place.place (atom_view c.atom-item.result) c.loop-place.invariant at (and_from _ _ form narrow)

pub returns-clause-none : goal.returns-clause-none
returns-clause-none c = all_so_far (λ a. is_plain_atom a ≡ true) c.args.atoms.now c.as_slice-atom-items.result.now c.loop-place.place c.as_slice-atom-items.ensures c.loop-place-test.false c.loop-place.invariant
