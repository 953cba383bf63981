use Rattle.std.proofs.Common.{◌≡◌, true, Option, Some, slice_get, sym, ap, ◌∙◌, subst}
use Rattle.std.specs.Option.{IfNone}
use Rattle.std.proofs.lemmas.Bool.{true≢false}
use Rattle.gil_values.specs.View.{values_view}
use Rattle.pure_terms.specs.Meaning.{truth}
use Rattle.pure_terms.specs.Pure.{negative}
use Rattle.pure_terms.specs.View.{term_view}
use Rattle.solver_proof.specs.Chains.{equals}
use Rattle.solver_rules.specs.declared.steps.Step.{Step}
use Rattle.solver_rules.specs.Nodes.{vars_of, list_of_node, classes_of}
use Rattle.solver_rules.specs.Rules.{IsOrderSaid}
use Rattle.solver_rules.proofs.Unsaid.{denied_differ}
use Rattle.solver_rules.proofs.numbering.orders.Goals as goal

pub unreachable-requires : goal.unreachable-requires
unreachable-requires c =
    let at : slice_get (list_of_node c.args.node.now) c.args.place ≡ Some (negative (equals (term_view c.in-Some.pair.left.now) (term_view c.in-Some.pair.right.now))) = c.requires.at ∙ ap Some c.in-Some.ensures.found in
    let differ : truth (values_view c.args.node.now.numbers.now) (negative (equals (term_view c.in-Some.pair.left.now) (term_view c.in-Some.pair.right.now))) ≡ true =
    denied_differ (vars_of c.args.node.now) (list_of_node c.args.node.now) (classes_of c.args.node.now) c.requires.node (values_view c.args.node.now.numbers.now) c.requires.solved c.args.place
    (term_view c.in-Some.pair.left.now) (term_view c.in-Some.pair.right.now) at (sym c.if-not-is_integer_side.ensures) (sym c.if-not-is_integer_side-2.ensures)
    (subst (λ (o : Option Step). IfNone o (IsOrderSaid (list_of_node c.args.node.now) (term_view c.in-Some.pair.left.now) (term_view c.in-Some.pair.right.now))) c.in-None-2.is c.in_ok-step-in-Some.ensures.none) in
    true≢false (sym (ap (truth (values_view c.args.node.now.numbers.now)) c.in-Some.ensures.found ∙ differ) ∙ sym c.in_ok-is_true-in-Some.ensures ∙ c.if-branch.false)
