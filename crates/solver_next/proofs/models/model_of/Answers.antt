use Rattle.gil_values.specs.declared.tree.Values.{Values}
use Rattle.gil_values.specs.View.{values_view}
use Rattle.pure_terms.specs.View.{atoms_view}
use Rattle.equality_core.specs.Classes.{given_list}
use Rattle.equality_core.specs.Valued.{MeetsApart}
use Rattle.equality_core.proofs.Finding.{ok_then}
use Rattle.solver_rules.specs.Nodes.{vars_of, list_of_node, classes_of}
use Rattle.solver_rules.proofs.Settled.{settled_lists_may_be_valued}
use Rattle.solver_next.specs.Steps.{IsModel}
use Rattle.solver_next.proofs.Settling.{may_all_differ, is_model}
use Rattle.solver_next.proofs.models.model_of.Goals as goal

pub values-requires-clause-fragment : goal.values-requires-clause-fragment
values-requires-clause-fragment c = (settled_lists_may_be_valued (vars_of c.args.node.now) (list_of_node c.args.node.now) (classes_of c.args.node.now) (values_view c.args.node.now.numbers.now) c.args.kinds.now c.requires.settled).fragment

pub values-requires-clause-numbers : goal.values-requires-clause-numbers
values-requires-clause-numbers c = (settled_lists_may_be_valued (vars_of c.args.node.now) (list_of_node c.args.node.now) (classes_of c.args.node.now) (values_view c.args.node.now.numbers.now) c.args.kinds.now c.requires.settled).numbers_fit

pub values-requires-clause-kinds : goal.values-requires-clause-kinds
values-requires-clause-kinds c = (settled_lists_may_be_valued (vars_of c.args.node.now) (list_of_node c.args.node.now) (classes_of c.args.node.now) (values_view c.args.node.now.numbers.now) c.args.kinds.now c.requires.settled).kinds_fit

pub values-requires-clause-apart : goal.values-requires-clause-apart
values-requires-clause-apart c = may_all_differ (vars_of c.args.node.now) (list_of_node c.args.node.now) (classes_of c.args.node.now) (values_view c.args.node.now.numbers.now) c.args.kinds.now c.requires.settled (atoms_view c.in_ok-apart.apart) c.in_ok-apart.ensures

pub returns : goal.returns
returns c =
    ok_then c.values.result (λ (v : Values). MeetsApart (vars_of c.args.node.now) (given_list (classes_of c.args.node.now)) (values_view c.args.node.now.numbers.now) c.args.kinds.now (atoms_view c.in_ok-apart.apart) (values_view v))
    (λ (v : Values). IsModel (vars_of c.args.node.now) (list_of_node c.args.node.now) (values_view v))
    (λ v meets. is_model (vars_of c.args.node.now) (list_of_node c.args.node.now) (classes_of c.args.node.now) (values_view c.args.node.now.numbers.now) c.args.kinds.now c.requires.settled (atoms_view c.in_ok-apart.apart) c.in_ok-apart.ensures (values_view v) meets) c.values.ensures
