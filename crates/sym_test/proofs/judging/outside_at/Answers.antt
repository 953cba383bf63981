use Rattle.std.proofs.Common.{◌≡◌, ◌<◌, ◌≤◌, ◌^◌, Some, slice_get, length, IsTrue, sym, subst, ◌∙◌, arith}
use Rattle.std.proofs.lemmas.List.{length-map}
use Rattle.gil_values.proofs.Lists.{slice_get-read}
use Rattle.pure_terms.specs.Fragment.{InFragment}
use Rattle.pure_terms.specs.Meaning.{AreOver}
use Rattle.pure_terms.specs.View.{atom_view, atoms_view}
use Rattle.sym_test.specs.Undecided.{keeps_out}
use Rattle.sym_test.proofs.Outsides.{PassTo, found_outside, pass_more, all_pass_inside}
use Rattle.sym_test.proofs.judging.outside_at.Goals as goal

pub returns-then-keeps_out : goal.returns-then-keeps_out
returns-then-keeps_out c =
    let items = c.as_slice-items.result.now in
    let few : length c.args.vars.now < 2 ^ 40 = omega (arith, c.len.ensures, c.if-len.false) in
    let at : slice_get (atoms_view items) c.loop-place.place ≡ Some (atom_view c.index-items-place.result) = slice_get-read atom_view items c.loop-place.place c.index-items-place.result c.loop-place-test.true c.index-items-place.is in
    let found : slice_get (atoms_view c.args.atoms.now) c.loop-place.place ≡ Some (atom_view c.index-items-place.result) = subst (λ xs. slice_get (atoms_view xs) c.loop-place.place ≡ Some (atom_view c.index-items-place.result)) c.as_slice-items.ensures at in
    let keeps : IsTrue (keeps_out (atom_view c.index-items-place.result)) = sym c.keeps_out.ensures ∙ c.if-keeps_out.true in
    record {
      outside = found_outside c.args.vars.now (atoms_view c.args.atoms.now) c.requires.over few c.requires.outside c.loop-place.place (atom_view c.index-items-place.result)
          (subst (λ xs. PassTo (atoms_view xs) c.loop-place.place) c.as_slice-items.ensures c.loop-place.invariant) found keeps;
      keeps = (atom_view c.index-items-place.result, (found, keeps));
    }

pub loop-place-preserved : goal.loop-place-preserved
loop-place-preserved c =
    let items = c.as_slice-items.result.now in
    let at : slice_get (atoms_view items) c.loop-place.place ≡ Some (atom_view c.index-items-place.result) = slice_get-read atom_view items c.loop-place.place c.index-items-place.result c.loop-place-test.true c.index-items-place.is in
    pass_more (atoms_view items) c.loop-place.place (atom_view c.index-items-place.result) c.loop-place.invariant at (sym c.keeps_out.ensures ∙ c.if-keeps_out.false)

pub unreachable-requires : goal.unreachable-requires
unreachable-requires c =
    let items = c.as_slice-items.result.now in
    let few : length c.args.vars.now < 2 ^ 40 = omega (arith, c.len.ensures, c.if-len.false) in
    let all : length items ≤ c.loop-place.place = c.loop-place-test.false in
    let seen : length (atoms_view items) ≡ length items = length-map items atom_view in
    let pass : PassTo (atoms_view items) c.loop-place.place = c.loop-place.invariant in
    c.requires.outside (subst (λ xs. InFragment (atoms_view xs)) c.as_slice-items.ensures
    (all_pass_inside c.args.vars.now (atoms_view items) (subst (λ xs. AreOver c.args.vars.now (atoms_view xs)) (sym c.as_slice-items.ensures) c.requires.over) few c.loop-place.place (omega (arith, all, seen)) pass))
