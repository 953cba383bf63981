use Rattle.std.proofs.Common.{List, map, subst}
use Rattle.pure_terms.specs.declared.atoms.Atom.{Atom}
use Rattle.pure_terms.specs.View.{atom_view}
use Rattle.equality_core.proofs.Finding.{each_more, each_all}
use Rattle.solver_rules.specs.Atoms.{fact_view}
use Rattle.solver_rules.specs.Nodes.{classes_of, IsStepOr}
use Rattle.solver_rules.specs.Rules.{IsPairDone, ArePairsDone}
use Rattle.solver_rules.proofs.kinding.pairs_of_fact.Goals as goal

pub loop-other-preserved : goal.loop-other-preserved
loop-other-preserved c =
    each_more atom_view c.as_slice-atoms.result.now (λ j a. IsPairDone (classes_of c.args.node.now) (fact_view c.args.fact) a) c.loop-other.other c.index-atoms-other.result c.loop-other-test.true c.index-atoms-other.is c.loop-other.invariant here where
      here : IsPairDone (classes_of c.args.node.now) (fact_view c.args.fact) (atom_view c.index-atoms-other.result)
      here = subst (IsStepOr c.args.node.now (IsPairDone (classes_of c.args.node.now) (fact_view c.args.fact) (atom_view c.index-atoms-other.result))) c.in_default.is c.in_ok-step.ensures

pub returns : goal.returns
returns c =
    subst (λ (xs : List Atom). ArePairsDone (classes_of c.args.node.now) (map atom_view xs) (fact_view c.args.fact)) c.as_slice-atoms.ensures
    (each_all atom_view c.as_slice-atoms.result.now (λ j a. IsPairDone (classes_of c.args.node.now) (fact_view c.args.fact) a) c.loop-other.other c.loop-other-test.false c.loop-other.invariant)
