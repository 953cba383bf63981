use Rattle.std.proofs.Common.{◌≡◌, List, Option, Some, slice_get, ap, ◌∙◌, subst}
use Rattle.pure_terms.specs.Pure.{PureAtom, negative}
use Rattle.pure_terms.specs.View.{term_view}
use Rattle.solver_proof.specs.declared.proofs.ChainEnd.{ChainEnd}
use Rattle.solver_proof.specs.declared.proofs.Proof.{Proof}
use Rattle.solver_proof.specs.Chains.{equals}
use Rattle.solver_proof.specs.Closing.{Closes}
use Rattle.solver_proof.specs.View.{proof_view}
use Rattle.std.specs.Option.{option_map}
use Rattle.equality_core.specs.Classified.{IsChained}
use Rattle.solver_rules.specs.Nodes.{vars_of, list_of_node, classes_of}
use Rattle.solver_rules.proofs.Given.{disequality_ends}
use Rattle.solver_rules.proofs.applying.linked.Goals as goal

pub returns-in-Some-2 : goal.returns-in-Some-2
returns-in-Some-2 c =
    let chained : IsChained (classes_of c.args.node.now) (term_view c.in-Some.pair.left.now) (term_view c.in-Some.pair.right.now) (ChainEnd.Not c.args.place) (Some (proof_view c.in-Some-2.proof)) =
    subst (λ (o : Option Proof). IsChained (classes_of c.args.node.now) (term_view c.in-Some.pair.left.now) (term_view c.in-Some.pair.right.now) (ChainEnd.Not c.args.place) (option_map proof_view o)) c.in-Some-2.is c.in_ok-proof-in-Some.ensures in
    let at : slice_get (list_of_node c.args.node.now) c.args.place ≡ Some (negative (equals (term_view c.in-Some.pair.left.now) (term_view c.in-Some.pair.right.now))) = c.requires.at ∙ ap Some c.in-Some.ensures.found in
    subst (λ (l : List PureAtom). Closes (vars_of c.args.node.now) l (proof_view c.in-Some-2.proof)) c.requires.node.given
    (chained.1 (disequality_ends (vars_of c.args.node.now) (list_of_node c.args.node.now) (classes_of c.args.node.now) c.requires.node c.args.place (term_view c.in-Some.pair.left.now) (term_view c.in-Some.pair.right.now) at) (vars_of c.args.node.now))
