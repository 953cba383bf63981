use Rattle.std.proofs.Common.{◌≡◌, ◌<◌, ℕ, Some, slice_get}
use Rattle.pure_terms.specs.Pure.{PureAtom}
use Rattle.pure_terms.specs.View.{atoms_view}
use Rattle.solver_rules.specs.Atoms.{fact_view}
use Rattle.solver_rules.specs.Nodes.{classes_of}
use Rattle.solver_rules.specs.Rules.{IsPairDone}
use Rattle.solver_rules.proofs.kinding.pairs_of_fact.Given as goal

abbrev pub invariant-loop-other : goal.invariant-loop-other
invariant-loop-other l = (j : ℕ) (a : PureAtom) → j < l.other → slice_get (atoms_view l.atoms) j ≡ Some a → IsPairDone (classes_of l.node) (fact_view l.fact) a
