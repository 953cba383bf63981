use Rattle.std.proofs.Common.{◌≡◌, inr, ◌++◌, [], ◌∷◌, refl, sym, ap, subst, ◌∙◌}
use Rattle.std.proofs.lemmas.List.{map-append}
use Rattle.pure_terms.specs.declared.atoms.Atom.{Atom}
use Rattle.pure_terms.specs.Meaning.{AreOver, IsOver, IsUnsatisfiable}
use Rattle.pure_terms.specs.Pure.{opening, term_of}
use Rattle.pure_terms.specs.View.{atom_view, atoms_view, term_view}
use Rattle.sym_paths.proofs.AskedFragments.{each_over_all}
use Rattle.sym_paths.specs.Asking.{IsRightly}
use Rattle.sym_paths.specs.AskingView.{satisfiability_view}
use Rattle.sym_model.proofs.ListLaws.{each_append}
use Rattle.sym_states.specs.View.{state_view}
use Rattle.invariant_rows.proofs.again.doubt_of_form.Goals as goal

pub ask-requires : goal.ask-requires
ask-requires g c =
    let s = state_view c.args.state.now in
    let t = term_view c.args.term in
    let are : atoms_view c.push.new.self ≡ s.conds ++ opening t ∷ [] =
    ap atoms_view c.in_ok-push.ensures.ok ∙ (map-append atom_view c.in_ok-conds.conds (Atom.Open c.args.term ∷ []) ∙ ap (λ cs. cs ++ opening t ∷ []) (c.in_ok-conds.ensures ∙ c.atoms.ensures)) in
    subst (AreOver s.vars) (sym are) (each_over_all s.vars (s.conds ++ opening t ∷ []) (each_append (λ a. IsOver s.vars (term_of a)) s.conds (opening t ∷ []) c.requires.over.conds (c.requires.term, tt)))

pub returns-in-Unsatisfiable-clause-none : goal.returns-in-Unsatisfiable-clause-none
returns-in-Unsatisfiable-clause-none g c =
    let s = state_view c.args.state.now in
    let t = term_view c.args.term in
    let are : atoms_view c.push.new.self ≡ s.conds ++ opening t ∷ [] =
    ap atoms_view c.in_ok-push.ensures.ok ∙ (map-append atom_view c.in_ok-conds.conds (Atom.Open c.args.term ∷ []) ∙ ap (λ cs. cs ++ opening t ∷ []) (c.in_ok-conds.ensures ∙ c.atoms.ensures)) in
    let told = subst (λ r. IsRightly s.vars (atoms_view c.push.new.self) (satisfiability_view r)) c.in-Unsatisfiable.is c.in_ok-ask.ensures in
    subst (IsUnsatisfiable s.vars) are told

pub returns-in-Undecided-clause-doubt : goal.returns-in-Undecided-clause-doubt
returns-in-Undecided-clause-doubt g c =
    let s = state_view c.args.state.now in
    let t = term_view c.args.term in
    let are : atoms_view c.push.new.self ≡ s.conds ++ opening t ∷ [] =
    ap atoms_view c.in_ok-push.ensures.ok ∙ (map-append atom_view c.in_ok-conds.conds (Atom.Open c.args.term ∷ []) ∙ ap (λ cs. cs ++ opening t ∷ []) (c.in_ok-conds.ensures ∙ c.atoms.ensures)) in
    let told = subst (λ r. IsRightly s.vars (atoms_view c.push.new.self) (satisfiability_view r)) c.in-Undecided.is c.in_ok-ask.ensures in
    ((opening t ∷ [], are), told)

pub returns-in-Undecided-clause-asked : goal.returns-in-Undecided-clause-asked
returns-in-Undecided-clause-asked g c =
    let s = state_view c.args.state.now in
    let t = term_view c.args.term in
    let are : atoms_view c.push.new.self ≡ s.conds ++ opening t ∷ [] =
    ap atoms_view c.in_ok-push.ensures.ok ∙ (map-append atom_view c.in_ok-conds.conds (Atom.Open c.args.term ∷ []) ∙ ap (λ cs. cs ++ opening t ∷ []) (c.in_ok-conds.ensures ∙ c.atoms.ensures)) in
    (opening t ∷ [], (are, (inr (t, refl), tt)))
