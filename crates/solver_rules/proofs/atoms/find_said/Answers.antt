use Rattle.std.proofs.Common.{◌≡◌, List, Some, slice_get, refl, sym, ap, ◌∙◌}
use Rattle.std.proofs.lemmas.Bool.{true≢false}
use Rattle.gil_values.proofs.Lists.{slice_get-read}
use Rattle.pure_terms.specs.declared.atoms.Atom.{Atom}
use Rattle.pure_terms.specs.Pure.{binary_of}
use Rattle.pure_terms.specs.View.{term_view, atom_view, atoms_view}
use Rattle.equality_core.proofs.Finding.{each_more, each_all}
use Rattle.solver_rules.specs.Rules.{said}
use Rattle.solver_rules.proofs.atoms.find_said.Goals as goal

pub loop-place-preserved : goal.loop-place-preserved
loop-place-preserved c =
    each_more atom_view c.as_slice-atoms.result.now (λ i a. a ≡ said c.args.is_true (binary_of c.args.op (term_view c.args.s.now) (term_view c.args.t.now)) → ⊥) c.loop-place.place c.index-atoms-place.result c.loop-place-test.true c.index-atoms-place.is c.loop-place.invariant
    (λ is. true≢false (sym (c.says.ensures.1 is) ∙ c.if-says.false))

pub returns-then-says-clause-found : goal.returns-then-says-clause-found
returns-then-says-clause-found c =
    ap (λ (xs : List Atom). slice_get (atoms_view xs) c.loop-place.place) (sym c.as_slice-atoms.ensures)
    ∙ slice_get-read atom_view c.as_slice-atoms.result.now c.loop-place.place c.index-atoms-place.result c.loop-place-test.true c.index-atoms-place.is ∙ ap Some (c.says.ensures.0 c.if-says.true)

pub returns-clause-none : goal.returns-clause-none
returns-clause-none c = λ i at.
    each_all atom_view c.as_slice-atoms.result.now (λ i a. a ≡ said c.args.is_true (binary_of c.args.op (term_view c.args.s.now) (term_view c.args.t.now)) → ⊥) c.loop-place.place c.loop-place-test.false c.loop-place.invariant i (said c.args.is_true (binary_of c.args.op (term_view c.args.s.now) (term_view c.args.t.now)))
    (ap (λ (xs : List Atom). slice_get (atoms_view xs) i) c.as_slice-atoms.ensures ∙ at) refl
