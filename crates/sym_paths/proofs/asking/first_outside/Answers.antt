use Rattle.std.proofs.Common.{◌≡◌, ◌≤◌, Some, length, slice_get, sym, subst, arith}
use Rattle.std.proofs.lemmas.List.{length-map}
use Rattle.gil_values.proofs.Lists.{slice_get-read}
use Rattle.pure_terms.specs.Laws.{AreEachInFragment}
use Rattle.pure_terms.specs.Meaning.{AreOver}
use Rattle.pure_terms.specs.View.{atom_view, atoms_view}
use Rattle.sym_paths.specs.Steps.{IsFirstOutside}
use Rattle.sym_paths.proofs.AskedFragments.{over_alone, over_at, inside_more, inside_all, first_outside}
use Rattle.sym_paths.proofs.asking.first_outside.Goals as goal

pub is_inside-requires : goal.is_inside-requires
is_inside-requires c =
    let items = c.as_slice-items.result.now in
    let at : slice_get (atoms_view items) c.loop-place.place ≡ Some (atom_view c.index-items-place.result) =
    slice_get-read atom_view items c.loop-place.place c.index-items-place.result c.loop-place-test.true c.index-items-place.is in
    over_alone c.args.vars.now (atom_view c.index-items-place.result)
    (over_at c.args.vars.now (atoms_view items) c.loop-place.place (atom_view c.index-items-place.result) at
    (subst (λ xs. AreOver c.args.vars.now (atoms_view xs)) (sym c.as_slice-items.ensures) c.requires))

pub returns-then-not-branch-clause-first : goal.returns-then-not-branch-clause-first
returns-then-not-branch-clause-first c =
    let items = c.as_slice-items.result.now in
    let at : slice_get (atoms_view items) c.loop-place.place ≡ Some (atom_view c.index-items-place-then-not-branch.result) =
    slice_get-read atom_view items c.loop-place.place c.index-items-place-then-not-branch.result c.loop-place-test.true c.index-items-place-then-not-branch.is in
    subst (λ xs. IsFirstOutside (atoms_view xs) c.in_ok-reason_at.field-0) c.as_slice-items.ensures
    (first_outside (atoms_view items) c.loop-place.place c.in_ok-reason_at.field-0 c.in_ok-reason_at.ensures.place (c.in_ok-reason_at.ensures.reason (atoms_view items) at) c.loop-place.invariant)

pub loop-place-preserved : goal.loop-place-preserved
loop-place-preserved c =
    let at : slice_get (atoms_view c.as_slice-items.result.now) c.loop-place.place ≡ Some (atom_view c.index-items-place.result) =
    slice_get-read atom_view c.as_slice-items.result.now c.loop-place.place c.index-items-place.result c.loop-place-test.true c.index-items-place.is in
    inside_more (atoms_view c.as_slice-items.result.now) c.loop-place.place (atom_view c.index-items-place.result) at c.loop-place.invariant (c.in_ok-is_inside.ensures.0 c.if-not-branch.false)

pub returns-clause-none : goal.returns-clause-none
returns-clause-none c =
    let items = c.as_slice-items.result.now in
    let all : length items ≤ c.loop-place.place = c.loop-place-test.false in
    let seen : length (atoms_view items) ≡ length items = length-map items atom_view in
    subst (λ xs. AreEachInFragment (atoms_view xs)) c.as_slice-items.ensures (inside_all (atoms_view items) c.loop-place.place (omega (arith, all, seen)) c.loop-place.invariant)
