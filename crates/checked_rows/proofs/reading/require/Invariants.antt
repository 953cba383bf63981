use Rattle.std.proofs.Common.{◌≡◌, ◌++◌, take}
use Rattle.pure_terms.specs.View.{atoms_view}
use Rattle.sym_model.specs.View.{path_view}
use Rattle.checked_rows.proofs.reading.require.Given as goal

abbrev pub invariant-loop-atom : goal.invariant-loop-atom
invariant-loop-atom l = path_view l.conds ≡ path_view l.fn.conds ++ atoms_view (take l.atom-index l.atom-items)
