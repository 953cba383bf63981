use Rattle.std.proofs.Common.{◌≡◌, ◌++◌, take}
use Rattle.pure_terms.specs.View.{atoms_view}
use Rattle.sym_model.specs.View.{path_view}
use Rattle.sym_unfolding.proofs.unfolding.with_more.Given as goal

abbrev pub invariant-loop-atom : goal.invariant-loop-atom
invariant-loop-atom l = atoms_view l.joined ≡ path_view l.conds ++ atoms_view (take l.atom-index l.atom-items)
