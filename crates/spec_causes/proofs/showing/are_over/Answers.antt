use Rattle.std.proofs.Common.{[], ◌∷◌, map, take, sym, subst, ◌∙◌, arith}
use Rattle.std.proofs.lemmas.List.{take_all}
use Rattle.gil_syntax.proofs.NameLemmas.{map-take_read}
use Rattle.pure_terms.specs.Meaning.{IsOver}
use Rattle.pure_terms.specs.Pure.{term_of}
use Rattle.pure_terms.specs.View.{atom_view, atoms_view}
use Rattle.sym_paths.proofs.AskedFragments.{each_over_all}
use Rattle.sym_model.specs.Lists.{Each}
use Rattle.sym_model.proofs.ListLaws.{each_append}
use Rattle.spec_causes.proofs.showing.are_over.Goals as goal

pub loop-atom-preserved : goal.loop-atom-preserved
loop-atom-preserved c =
    let vars = c.args.vars.now in
    let items = c.as_slice-atom-items.result.now in
    let i = c.loop-atom.atom-index in
    let a = atom_view c.atom-item.result in
    let over : IsOver vars (term_of a) = subst (IsOver vars) c.term.ensures (c.is_over.ensures.0 c.if-not-is_over.false) in
    subst (Each (λ b. IsOver vars (term_of b))) (sym (map-take_read atom_view items i c.atom-item.result (omega arith) c.atom-item.is))
    (each_append (λ b. IsOver vars (term_of b)) (map atom_view (take i items)) (a ∷ []) c.loop-atom.invariant (over, tt))

pub returns : goal.returns
returns c true_now =
    let items = c.as_slice-atom-items.result.now in
    each_over_all c.args.vars.now (atoms_view c.args.atoms.now)
    (subst (λ xs. Each (λ b. IsOver c.args.vars.now (term_of b)) (map atom_view xs)) (take_all c.loop-atom.atom-index items (omega (arith, c.loop-atom-test.false)) ∙ c.as_slice-atom-items.ensures) c.loop-atom.invariant)
