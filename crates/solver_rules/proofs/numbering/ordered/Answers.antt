use Rattle.std.proofs.Common.{◌≡◌, sym, subst, rules}
use Rattle.pure_terms.specs.View.{term_view}
use Rattle.solver_proof.specs.declared.proofs.Proof
use Rattle.solver_proof.specs.declared.proofs.Proof.{the_lemmas}
use Rattle.solver_proof.specs.Closing.{Closes}
use Rattle.solver_proof.specs.Pure.{meet_at}
use Rattle.solver_proof.specs.View.{proof_view}
use Rattle.solver_rules.specs.Nodes.{vars_of, list_of_node}
use Rattle.solver_rules.proofs.Ordering.{meets}
use Rattle.solver_rules.proofs.numbering.ordered.Goals as goal

pub returns-in-Some-find_said-clause-some : goal.returns-in-Some-find_said-clause-some
returns-in-Some-find_said-clause-some c =
    let view : proof_view (Proof.Meet c.in-Some.up c.in-Some-find_said.down c.args.place) ≡ meet_at c.in-Some.up c.in-Some-find_said.down c.args.place = search (rules, the_lemmas) in
    subst (Closes (vars_of c.args.node.now) (list_of_node c.args.node.now)) (sym view)
    (meets (list_of_node c.args.node.now) (term_view c.args.s.now) (term_view c.args.t.now) c.in-Some.up c.in-Some-find_said.down c.args.place c.in-Some.ensures.found c.in-Some-find_said.ensures.found c.requires.at)
