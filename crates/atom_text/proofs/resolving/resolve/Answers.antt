use Rattle.std.proofs.Common.{◌≡◌, ◌≤◌, length, map, Some, slice_get, refl, ap, subst, ◌∙◌}
use Rattle.std.proofs.lemmas.Option.{slice_get_read}
use Rattle.std.proofs.lemmas.Result.{err_from_is_err_and}
use Rattle.pure_terms.specs.View.{atoms_view}
use Rattle.atom_text.specs.Accepted.{most_variables}
use Rattle.atom_text.specs.Resolving.{variable_in, FindsAll, atoms_of, IsUnmadeUnless}
use Rattle.atom_text.specs.Sources.{names_of, sorts_of, source_view, stated_view}
use Rattle.atom_text.proofs.RefusalLemmas.{source_says, unmade_unfit, too_many}
use Rattle.atom_text.proofs.resolving.resolve.Goals as goal

pub returns-in_err-atoms-clause-unfit : goal.returns-in_err-atoms-clause-unfit
returns-in_err-atoms-clause-unfit c =
    let p = err_from_is_err_and c.from_residual-in_err-atoms.result c.from_residual-in_err-atoms.ensures.1 in
    let find = variable_in c.in_ok-variables.variables in
    let finds = subst (λ ds. FindsAll ds find) c.as_slice-declarations.ensures c.in_ok-variables.ensures.ok in
    let unmade = subst (λ ss. IsUnmadeUnless find (map stated_view ss) c.in_err-atoms.field-0.0) c.as_slice.ensures c.in_err-atoms.ensures.unmade in
    rw (p.1, p.2) (unmade_unfit (source_view c.args.source.now) find finds c.in_err-atoms.field-0.0 unmade)

pub returns-in-Some-clause-unfit : goal.returns-in-Some-clause-unfit
returns-in-Some-clause-unfit c =
    let find = variable_in c.in_ok-variables.variables in
    let finds = subst (λ ds. FindsAll ds find) c.as_slice-declarations.ensures c.in_ok-variables.ensures.ok in
    let made = subst (λ ss. atoms_of find (map stated_view ss) ≡ Some (atoms_view c.in_ok-atoms.atoms)) c.as_slice.ensures c.in_ok-atoms.ensures.ok in
    let h = c.in-Some.ensures.lookup in
    let there = slice_get_read c.as_slice-declarations.result.now (length c.as_slice-declarations.result.now) most_variables c.in-Some.declaration.now refl h.3.0 h.1 in
    let here = subst (λ ds. slice_get ds most_variables ≡ Some c.in-Some.declaration.now) c.as_slice-declarations.ensures there in
    λ bytes spell. too_many (source_view c.args.source.now) find finds (atoms_view c.in_ok-atoms.atoms) c.in-Some.declaration.now made here

pub returns-clause-ok : goal.returns-clause-ok
returns-clause-ok c =
    let find = variable_in c.in_ok-variables.variables in
    let finds = subst (λ ds. FindsAll ds find) c.as_slice-declarations.ensures c.in_ok-variables.ensures.ok in
    let made = subst (λ ss. atoms_of find (map stated_view ss) ≡ Some (atoms_view c.in_ok-atoms.atoms)) c.as_slice.ensures c.in_ok-atoms.ensures.ok in
    let few = subst (λ ds. length ds ≤ most_variables) c.as_slice-declarations.ensures c.in_default.ensures.lookup.3 in
    source_says (source_view c.args.source.now) find finds c.in_ok-names.names c.in_ok-vars.vars (atoms_view c.in_ok-atoms.atoms)
    (c.in_ok-names.ensures ∙ ap names_of c.as_slice-declarations.ensures) (c.in_ok-vars.ensures ∙ ap sorts_of c.as_slice-declarations.ensures) made few
