use Rattle.std.proofs.Common.{◌≡◌, ℕ, List, [], ◌++◌, ◌&&◌, refl, ap, subst, ◌∙◌}
use Rattle.std.specs.Option.{option_map}
use Rattle.gil_syntax.specs.Valid.{param_names, is_among}
use Rattle.gil_syntax.specs.View.{spec_view}
use Rattle.gil_syntax.specs.WellMade.{has_hash}
use Rattle.assert_logic.specs.Modes.{is_variable_of}
use Rattle.pure_terms.specs.View.{terms_view}
use Rattle.sym_evaluation.specs.View.{store_view}
use Rattle.sym_states.specs.Naming.{IsNaming, NamesAll}
use Rattle.sym_states.specs.NamingView.{named_view}
use Rattle.sym_beginning.specs.Entering.{AreTermsAt}
use Rattle.sym_beginning.proofs.EntryLaws.{among_logical, ordered_among, no_params, no_variables, enters, named_from}
use Rattle.sym_beginning.proofs.Plainness.{plain_entry}
use Rattle.sym_beginning.proofs.entering.entry_terms.Goals as goal

pub returns-in-None-clause-enters : goal.returns-in-None-clause-enters
returns-in-None-clause-enters c =
    let s = spec_view c.args.spec.now in
    let law = named_from s.params c.in_ok-names.names (param_names s.params) c.new.result [] (store_view c.new-2.result) (option_map named_view c.in_ok-named.named) c.in_ok-names.ensures c.new.ensures c.new-2.ensures c.in_ok-named.ensures in
    no_params s c.requires.once c.requires.names (subst (λ o. NamesAll s.params (param_names s.params) [] [] (option_map named_view o)) c.in-None.is law)

pub returns-in-None-named-clause-enters : goal.returns-in-None-named-clause-enters
returns-in-None-named-clause-enters c =
    let s = spec_view c.args.spec.now in
    let a = named_view c.in-Some.params in
    let law = named_from s.params c.in_ok-names.names (param_names s.params) c.new.result [] (store_view c.new-2.result) (option_map named_view c.in_ok-named.named) c.in_ok-names.ensures c.new.ensures c.new-2.ensures c.in_ok-named.ensures in
    let params = subst (λ o. NamesAll s.params (param_names s.params) [] [] (option_map named_view o)) c.in-Some.is law in
    let logical : (x : List ℕ) → is_among c.in_ok-ordered.ordered x ≡ is_variable_of s x =
    λ x. ap (λ xs. is_among xs x) (c.in_ok-ordered.ensures ∙ ap (λ ds. ds ++ c.in_ok-logical.logical) c.in_ok-declared.ensures)
    ∙ ordered_among (param_names s.logicals) c.in_ok-logical.logical x ∙ ap (λ xs. is_among xs x) c.in_ok-logical.ensures ∙ among_logical c.in_ok-standing.standing x ∙ ap (λ b. has_hash x && b) (c.in_ok-standing.ensures x) in
    let more = named_from s.logicals c.in_ok-ordered.ordered c.in_ok-ordered.ordered a.vars a.vars (store_view c.new-3.result) (option_map named_view c.in_ok-named-2.named) refl refl c.new-3.ensures c.in_ok-named-2.ensures in
    no_variables s c.requires.once c.requires.names a params c.in_ok-ordered.ordered logical (subst (λ o. NamesAll s.logicals c.in_ok-ordered.ordered a.vars [] (option_map named_view o)) c.in-None-named.is more)

pub terms_at-requires : goal.terms_at-requires
terms_at-requires c x among =
    let s = spec_view c.args.spec.now in
    let a = named_view c.in-Some.params in
    let law = named_from s.params c.in_ok-names.names c.in_ok-names.names c.new.result [] (store_view c.new-2.result) (option_map named_view c.in_ok-named.named) refl c.new.ensures c.new-2.ensures c.in_ok-named.ensures in
    let params : IsNaming s.params c.in_ok-names.names [] [] a = subst (λ o. NamesAll s.params c.in_ok-names.names [] [] (option_map named_view o)) c.in-Some.is law in
    params.all_named x among

pub returns-clause-enters : goal.returns-clause-enters
returns-clause-enters c =
    let s = spec_view c.args.spec.now in
    let a = named_view c.in-Some.params in
    let b = named_view c.in-Some-named.variables in
    let law = named_from s.params c.in_ok-names.names (param_names s.params) c.new.result [] (store_view c.new-2.result) (option_map named_view c.in_ok-named.named) c.in_ok-names.ensures c.new.ensures c.new-2.ensures c.in_ok-named.ensures in
    let params = subst (λ o. NamesAll s.params (param_names s.params) [] [] (option_map named_view o)) c.in-Some.is law in
    let logical : (x : List ℕ) → is_among c.in_ok-ordered.ordered x ≡ is_variable_of s x =
    λ x. ap (λ xs. is_among xs x) (c.in_ok-ordered.ensures ∙ ap (λ ds. ds ++ c.in_ok-logical.logical) c.in_ok-declared.ensures)
    ∙ ordered_among (param_names s.logicals) c.in_ok-logical.logical x ∙ ap (λ xs. is_among xs x) c.in_ok-logical.ensures ∙ among_logical c.in_ok-standing.standing x ∙ ap (λ y. has_hash x && y) (c.in_ok-standing.ensures x) in
    let more = named_from s.logicals c.in_ok-ordered.ordered c.in_ok-ordered.ordered a.vars a.vars (store_view c.new-3.result) (option_map named_view c.in_ok-named-2.named) refl refl c.new-3.ensures c.in_ok-named-2.ensures in
    enters s c.requires.once c.requires.names a params c.in_ok-ordered.ordered logical b (subst (λ o. NamesAll s.logicals c.in_ok-ordered.ordered a.vars [] (option_map named_view o)) c.in-Some-named.is more)
    (terms_view c.in_ok-args.args) (subst (λ xs. AreTermsAt a.store xs (terms_view c.in_ok-args.args)) c.in_ok-names.ensures c.in_ok-args.ensures) (store_view c.in_ok-store.store) c.in_ok-store.ensures

pub returns-clause-plain : goal.returns-clause-plain
returns-clause-plain c sorts =
    let s = spec_view c.args.spec.now in
    let a = named_view c.in-Some.params in
    let b = named_view c.in-Some-named.variables in
    let law = named_from s.params c.in_ok-names.names (param_names s.params) c.new.result [] (store_view c.new-2.result) (option_map named_view c.in_ok-named.named) c.in_ok-names.ensures c.new.ensures c.new-2.ensures c.in_ok-named.ensures in
    let params = subst (λ o. NamesAll s.params (param_names s.params) [] [] (option_map named_view o)) c.in-Some.is law in
    let logical : (x : List ℕ) → is_among c.in_ok-ordered.ordered x ≡ is_variable_of s x =
    λ x. ap (λ xs. is_among xs x) (c.in_ok-ordered.ensures ∙ ap (λ ds. ds ++ c.in_ok-logical.logical) c.in_ok-declared.ensures)
    ∙ ordered_among (param_names s.logicals) c.in_ok-logical.logical x ∙ ap (λ xs. is_among xs x) c.in_ok-logical.ensures ∙ among_logical c.in_ok-standing.standing x ∙ ap (λ y. has_hash x && y) (c.in_ok-standing.ensures x) in
    let more = named_from s.logicals c.in_ok-ordered.ordered c.in_ok-ordered.ordered a.vars a.vars (store_view c.new-3.result) (option_map named_view c.in_ok-named-2.named) refl refl c.new-3.ensures c.in_ok-named-2.ensures in
    plain_entry s a params c.in_ok-ordered.ordered logical b (subst (λ o. NamesAll s.logicals c.in_ok-ordered.ordered a.vars [] (option_map named_view o)) c.in-Some-named.is more)
    (terms_view c.in_ok-args.args) (subst (λ xs. AreTermsAt a.store xs (terms_view c.in_ok-args.args)) c.in_ok-names.ensures c.in_ok-args.ensures) (store_view c.in_ok-store.store) c.in_ok-store.ensures sorts
