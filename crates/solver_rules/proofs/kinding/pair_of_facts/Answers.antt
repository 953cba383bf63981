use Rattle.std.proofs.Common.{◌≡◌, Some, sym, ap, ◌∙◌}
use Rattle.std.specs.Option.{option_and_then}
use Rattle.solver_proof.specs.Chains.{kind_fact_of, kind_fact_at}
use Rattle.solver_rules.specs.Atoms.{fact_view}
use Rattle.solver_rules.specs.Nodes.{vars_of, list_of_node, classes_of}
use Rattle.solver_rules.proofs.KindsApart.{both_ends}
use Rattle.solver_rules.proofs.kinding.pair_of_facts.Goals as goal

pub closed_by-requires-clause-ends : goal.closed_by-requires-clause-ends
closed_by-requires-clause-ends c =
    let second : kind_fact_at (list_of_node c.args.node.now) c.args.other ≡ Some (fact_view c.in-Some.second) = ap (option_and_then kind_fact_of) c.requires.at ∙ sym c.in-Some.ensures in
    both_ends (vars_of c.args.node.now) (list_of_node c.args.node.now) (classes_of c.args.node.now) c.requires.node c.args.place c.args.other (fact_view c.args.fact) (fact_view c.in-Some.second) c.requires.fact second (sym c.if-not-are_apart.ensures)
