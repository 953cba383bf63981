use Rattle.std.proofs.Common.{List, sym, subst}
use Rattle.pure_terms.specs.Pure.{PureAtom}
use Rattle.pure_terms.specs.View.{atom_view}
use Rattle.equality_core.specs.Classes.{given_list}
use Rattle.equality_core.proofs.Finding.{ok_then}
use Rattle.solver_rules.specs.declared.rules.Rule.{Rule}
use Rattle.solver_rules.specs.Atoms.{fact_view}
use Rattle.solver_rules.specs.Nodes.{list_of_node, classes_of, IsStepOr, IsApplied}
use Rattle.solver_rules.specs.Rules.{ArePairsDone}
use Rattle.solver_rules.proofs.KindsApart.{fact_done}
use Rattle.solver_rules.proofs.Stepping.{applied}
use Rattle.solver_rules.proofs.kinding.two_kinds.Goals as goal

pub returns-in-Some : goal.returns-in-Some
returns-in-Some c =
    ok_then c.pairs_of_fact.result (IsStepOr c.args.node.now (ArePairsDone (classes_of c.args.node.now) (list_of_node c.args.node.now) (fact_view c.in-Some.fact))) (IsApplied c.args.node.now Rule.TwoKinds (atom_view c.args.atom.now))
    (λ o is. applied c.args.node.now Rule.TwoKinds (atom_view c.args.atom.now) (ArePairsDone (classes_of c.args.node.now) (list_of_node c.args.node.now) (fact_view c.in-Some.fact))
    (λ done. fact_done (atom_view c.args.atom.now) (fact_view c.in-Some.fact) (sym c.in-Some.ensures) (ArePairsDone (classes_of c.args.node.now) (given_list (classes_of c.args.node.now)))
    (subst (λ (l : List PureAtom). ArePairsDone (classes_of c.args.node.now) l (fact_view c.in-Some.fact)) (sym c.requires.node.given) done)) o is) c.pairs_of_fact.ensures
