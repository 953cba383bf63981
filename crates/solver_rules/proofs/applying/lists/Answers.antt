use Rattle.std.proofs.Common.{List, Some, map, sym, ap, ◌∙◌, subst}
use Rattle.std.proofs.lemmas.Bool.{false≢true}
use Rattle.pure_terms.specs.Pure.{PureTerm, PureAtom, from_list}
use Rattle.pure_terms.specs.View.{term_view, terms_view, atom_view}
use Rattle.solver_proof.specs.Closing.{HaveOneLength}
use Rattle.solver_proof.proofs.Growing.{one_length, lengths_of}
use Rattle.equality_core.specs.Classes.{given_list}
use Rattle.solver_rules.specs.Nodes.{list_of_node, classes_of}
use Rattle.solver_rules.specs.Rules.{ElementsDiffer}
use Rattle.solver_rules.proofs.Given.{lists_done}
use Rattle.solver_rules.proofs.applying.lists.Goals as goal

pub returns-then-len : goal.returns-then-len
returns-then-len c =
    lists_done (atom_view c.args.atom.now) (from_list (terms_view c.in-Some.pair.left.now)) (from_list (terms_view c.in-Some.pair.right.now)) c.in-Some.ensures.found
    (λ ts us. HaveOneLength ts us → ElementsDiffer (given_list (classes_of c.args.node.now)) ts us)
    (λ one. absurd (c.if-len.true (c.len.ensures ∙ lengths_of (terms_view c.in-Some.pair.left.now) (terms_view c.in-Some.pair.right.now) one ∙ sym c.len-in-Some.ensures)))

pub returns-then-elements_differ : goal.returns-then-elements_differ
returns-then-elements_differ c =
    lists_done (atom_view c.args.atom.now) (from_list (terms_view c.in-Some.pair.left.now)) (from_list (terms_view c.in-Some.pair.right.now)) c.in-Some.ensures.found
    (λ ts us. HaveOneLength ts us → ElementsDiffer (given_list (classes_of c.args.node.now)) ts us)
    (λ one. subst (λ (l : List PureAtom). ElementsDiffer l (from_list (terms_view c.in-Some.pair.left.now)) (from_list (terms_view c.in-Some.pair.right.now))) (sym c.requires.node.given)
    (subst (λ (xs : List PureTerm). ElementsDiffer (list_of_node c.args.node.now) (from_list xs) (from_list (terms_view c.in-Some.pair.right.now))) c.as_slice.ensures
    (subst (λ (ys : List PureTerm). ElementsDiffer (list_of_node c.args.node.now) (from_list (map term_view c.as_slice.result.now)) (from_list ys)) c.as_slice-in-Some.ensures (c.elements_differ.ensures.0 c.if-elements_differ.true))))

pub returns-else-elements_differ : goal.returns-else-elements_differ
returns-else-elements_differ c = record {
  left = from_list (terms_view c.in-Some.pair.left.now);
  right = from_list (terms_view c.in-Some.pair.right.now);
  at = c.requires.at ∙ ap Some c.in-Some.ensures.found;
  one_length = one_length (terms_view c.in-Some.pair.left.now) (terms_view c.in-Some.pair.right.now) (sym c.len.ensures ∙ c.if-len.false ∙ c.len-in-Some.ensures);
  unsaid = λ differ.
      false≢true (sym c.if-elements_differ.false ∙ c.elements_differ.ensures.1
      (subst (λ (ys : List PureTerm). ElementsDiffer (list_of_node c.args.node.now) (from_list (map term_view c.as_slice.result.now)) (from_list ys)) (sym c.as_slice-in-Some.ensures)
      (subst (λ (xs : List PureTerm). ElementsDiffer (list_of_node c.args.node.now) (from_list xs) (from_list (terms_view c.in-Some.pair.right.now))) (sym c.as_slice.ensures) differ)));
}
