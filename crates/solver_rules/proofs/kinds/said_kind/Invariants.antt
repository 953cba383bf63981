use Rattle.std.proofs.Common.{◌≡◌, ◌<◌, ℕ, Some, slice_get}
use Rattle.gil_values.specs.declared.kinds.Kind.{Kind}
use Rattle.pure_terms.specs.Pure.{PureAtom}
use Rattle.pure_terms.specs.View.{term_view, atoms_view}
use Rattle.solver_rules.specs.Kinds.{IsKindSaid}
use Rattle.solver_rules.specs.Nodes.{classes_of}
use Rattle.solver_rules.proofs.kinds.said_kind.Given as goal

abbrev pub invariant-loop-atom : goal.invariant-loop-atom
invariant-loop-atom l = (i : ℕ) (a : PureAtom) → i < l.atom-index → slice_get (atoms_view l.atoms) i ≡ Some a → (k : Kind) → IsKindSaid (classes_of l.node) (term_view l.term) a k → ⊥
