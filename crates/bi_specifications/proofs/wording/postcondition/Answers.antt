use Rattle.std.proofs.Common.{◌≡◌, true, ◌-◌, [], ◌∷◌, ◌++◌, length, ℕ, List, Result, Ok, Err, IfOk, sym, ap, ◌∙◌}
use Rattle.assertion_terms.specs.Named.{table_names, assertion_of}
use Rattle.checked_runs.specs.Specifications.{result_name}
use Rattle.gil_syntax.specs.View.{assertion_view}
use Rattle.pure_terms.specs.declared.variables.Sort.{Sort}
use Rattle.pure_terms.specs.Fragment.{is_variable_of}
use Rattle.pure_terms.specs.View.{atoms_view, term_view}
use Rattle.sym_model.specs.View.{uses_view}
use Rattle.bi_specifications.specs.Shape.{told_atom, ending_of}
use Rattle.bi_specifications.proofs.wording.postcondition.Goals as goal

ok_weaker : {A E : Type 0} (r : Result A E) (P Q : A → Type 0) → ((a : A) → P a → Q a) → IfOk r P → IfOk r Q
ok_weaker (Ok a) P Q f is = f a is
ok_weaker (Err e) P Q f is = tt

pub returns-then-is_new_symbol : goal.returns-then-is_new_symbol
returns-then-is_new_symbol c =
    let t = term_view c.args.term.now in
    let us = uses_view c.args.uses.now in
    let late = atoms_view c.args.late.now in
    let names : List (List ℕ) = table_names c.args.params.now (c.args.count - length c.args.params.now) ++ result_name ∷ [] in
    let names_are : c.push.new.self ≡ names =
    c.in_ok-push.ensures.ok ∙ (λ i. c.in_ok-names.ensures i ++ c.in_ok-result_name.ensures i ∷ []) ∙ ap (λ n. table_names c.args.params.now (c.args.count - n) ++ result_name ∷ []) c.len.ensures in
    let told_is : atoms_view c.in_ok-told.told ≡ told_atom c.args.count t ∷ [] = c.in_ok-told.ensures ∙ (λ i. c.in_ok-told_atom.ensures i ∷ atoms_view (c.new.ensures i)) in
    let first_is : assertion_view c.in_ok-first.first ≡ assertion_of names [] (told_atom c.args.count t ∷ []) =
    c.in_ok-first.ensures ∙ (λ i. assertion_of (names_are i) (uses_view (c.new-then-is_new_symbol.ensures i)) (told_is i)) in
    let others_are : assertion_view c.in_ok-others.others ≡ assertion_of names us late = c.in_ok-others.ensures ∙ ap (λ xs. assertion_of xs us late) names_are in
    let fresh : is_variable_of Sort.Fresh t ≡ true = sym c.is_new_symbol.ensures ∙ c.if-is_new_symbol.true in
    ok_weaker c.joined.result _ (λ items. assertion_view items ≡ ending_of names (is_variable_of Sort.Fresh t) us c.args.count t late)
    (λ items is. is ∙ (λ i. first_is i ++ others_are i) ∙ ap (λ b. ending_of names b us c.args.count t late) (sym fresh)) c.joined.ensures
