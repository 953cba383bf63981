use Rattle.std.proofs.Common.{◌≡◌, ◌<◌, ℕ, Some, slice_get}
use Rattle.pure_terms.specs.Pure.{PureAtom}
use Rattle.pure_terms.specs.View.{atoms_view}
use Rattle.solver_rules.specs.Nodes.{classes_of}
use Rattle.solver_next.specs.Loose.{IsLooseAtom, StandsIn, AreSomeLoose}
use Rattle.solver_next.proofs.loose.loose_of.Given as goal

abbrev pub invariant-loop-atom : goal.invariant-loop-atom
invariant-loop-atom l = record {
  some : AreSomeLoose (classes_of l.node) (atoms_view l.apart);
  all : (i : ℕ) (a : PureAtom) → i < l.atom-index → slice_get (atoms_view l.atoms) i ≡ Some a → IsLooseAtom (classes_of l.node) a → StandsIn (atoms_view l.apart) a;
}
