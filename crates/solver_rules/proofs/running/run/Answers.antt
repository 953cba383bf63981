use Rattle.std.proofs.Common.{◌≡◌, ℕ, List, Some, map, slice_get, sym, ap, ◌∙◌, subst}
use Rattle.gil_values.specs.View.{values_view}
use Rattle.pure_terms.specs.declared.atoms.Atom.{Atom}
use Rattle.pure_terms.specs.Pure.{PureAtom}
use Rattle.pure_terms.specs.View.{atom_view}
use Rattle.equality_core.proofs.Finding.{each_more, each_all}
use Rattle.solver_rules.specs.Nodes.{classes_of, IsApplied}
use Rattle.solver_rules.specs.Rules.{IsDone}
use Rattle.solver_rules.proofs.running.run.Goals as goal

pub loop-place-preserved : goal.loop-place-preserved
loop-place-preserved c =
    each_more atom_view c.as_slice-atoms.result.now (λ i a. IsDone c.args.rule (classes_of c.args.node.now) (values_view c.args.node.now.numbers.now) a) c.loop-place.place c.index-atoms-place.result c.loop-place-test.true c.index-atoms-place.is c.loop-place.invariant here where
      here : IsDone c.args.rule (classes_of c.args.node.now) (values_view c.args.node.now.numbers.now) (atom_view c.index-atoms-place.result)
      here = subst (IsApplied c.args.node.now c.args.rule (atom_view c.index-atoms-place.result)) c.in_default.is c.in_ok-step.ensures

pub returns : goal.returns
returns c = λ i a at.
    subst (λ (xs : List Atom). (i : ℕ) (a : PureAtom) → slice_get (map atom_view xs) i ≡ Some a → IsDone c.args.rule (classes_of c.args.node.now) (values_view c.args.node.now.numbers.now) a) c.as_slice-atoms.ensures
    (each_all atom_view c.as_slice-atoms.result.now (λ i a. IsDone c.args.rule (classes_of c.args.node.now) (values_view c.args.node.now.numbers.now) a) c.loop-place.place c.loop-place-test.false c.loop-place.invariant) i a
    (ap (λ l. slice_get l i) (sym c.requires.node.given) ∙ at)
