use Rattle.std.proofs.Common.{◌≡◌, ◌+◌, ◌++◌, None, sym, ap, ◌∙◌, subst, rules}
use Rattle.pure_terms.specs.Pure.{from_list}
use Rattle.pure_terms.specs.View.{terms_view, atoms_view}
use Rattle.solver_proof.specs.declared.proofs.Proof
use Rattle.solver_proof.specs.declared.proofs.Proof.{the_lemmas}
use Rattle.solver_proof.specs.Closing.{Closes, HaveOneLength, element_equalities}
use Rattle.solver_proof.specs.Pure.{parts_apart}
use Rattle.solver_proof.specs.View.{proof_view}
use Rattle.solver_proof.proofs.Growing.{one_length, lengths_of}
use Rattle.equality_core.specs.Classes.{classes_view, given_list, under_parts}
use Rattle.equality_core.proofs.Taking.{GoesOn, with_elements, after_elements, apart_clash}
use Rattle.equality_core.proofs.closing.open_lists.Goals as goal

pub returns-then-len : goal.returns-then-len
returns-then-len c =
    let view : proof_view (Proof.Parts c.args.place None) ≡ parts_apart c.args.place = search (rules, the_lemmas) in
    let is : proof_view c.in_ok-under_parts.field-0 ≡ under_parts c.args.classes.opened.items (parts_apart c.args.place) =
    c.in_ok-under_parts.ensures ∙ ap (λ o. under_parts o (proof_view (Proof.Parts c.args.place None))) c.as_slice.ensures.value ∙ ap (under_parts c.args.classes.opened.items) view in
    let both = apart_clash (classes_view c.args.classes) (c.args.place + 1) c.args.place c.args.place (from_list (terms_view c.args.left.now)) (from_list (terms_view c.args.right.now)) c.requires.sides
    (λ one. c.if-len.true (c.len.ensures ∙ lengths_of (terms_view c.args.left.now) (terms_view c.args.right.now) one ∙ sym c.len-2.ensures)) c.requires.taken in
    (λ vars. subst (Closes vars (given_list (classes_view c.args.classes))) (sym is) (both.0 vars), both.1)

pub returns : goal.returns
returns c =
    let one : HaveOneLength (from_list (terms_view c.args.left.now)) (from_list (terms_view c.args.right.now)) = one_length (terms_view c.args.left.now) (terms_view c.args.right.now) (sym c.len.ensures ∙ c.if-len.false ∙ c.len-2.ensures) in
    let list : atoms_view c.push_elements.new.list ≡ atoms_view c.args.classes.list ++ element_equalities (from_list (terms_view c.args.left.now)) (from_list (terms_view c.args.right.now)) =
    c.in_ok-push_elements.ensures ∙ (λ i. atoms_view c.args.classes.list ++ element_equalities (from_list (c.as_slice-2.ensures i)) (from_list (c.as_slice-3.ensures i))) in
    let is : classes_view (record { given = c.args.classes.given; list = c.push_elements.new.list; opened = c.push.new.self; nodes = c.args.classes.nodes }) ≡ with_elements (classes_view c.args.classes) c.args.place (from_list (terms_view c.args.left.now)) (from_list (terms_view c.args.right.now)) =
    (λ i. record { given = c.args.classes.given; list = list i; opened = c.in_ok-push.ensures.items i; nodes = (classes_view c.args.classes).nodes }) in
    subst (GoesOn (classes_view c.args.classes) c.args.place) (sym is)
    (after_elements (classes_view c.args.classes) c.args.place (from_list (terms_view c.args.left.now)) (from_list (terms_view c.args.right.now)) c.requires.placed c.requires.sides one c.requires.taken)
