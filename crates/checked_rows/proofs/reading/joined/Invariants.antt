use Rattle.std.proofs.Common.{◌≡◌, ◌++◌, take}
use Rattle.pure_terms.specs.View.{atoms_view}
use Rattle.checked_rows.proofs.reading.joined.Given as goal

abbrev pub invariant-loop-atom : goal.invariant-loop-atom
invariant-loop-atom l = atoms_view l.joined ≡ atoms_view l.conds ++ atoms_view (take l.atom-index l.atom-items)
