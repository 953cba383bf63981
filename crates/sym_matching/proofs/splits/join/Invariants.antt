use Rattle.std.proofs.Common.{◌≡◌, ◌++◌}
use Rattle.pure_terms.specs.View.{atoms_view}
use Rattle.sym_matching.proofs.splits.join.Given as goal

abbrev pub invariant-loop-atom : goal.invariant-loop-atom
invariant-loop-atom l = atoms_view l.joined ≡ atoms_view l.fn.first ++ atoms_view l.yielded
