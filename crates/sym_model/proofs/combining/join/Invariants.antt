use Rattle.std.proofs.Common.{◌≡◌, ◌++◌, map, take, false}
use Rattle.pure_terms.specs.View.{atoms_view}
use Rattle.sym_model.proofs.combining.join.Given as goal

abbrev pub invariant-loop-condition : goal.invariant-loop-condition
invariant-loop-condition l = atoms_view l.joined ≡ atoms_view l.first ++ atoms_view (take l.condition-index l.condition-items)
