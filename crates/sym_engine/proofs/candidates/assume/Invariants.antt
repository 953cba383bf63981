use Rattle.std.proofs.Common.{◌≡◌, ◌++◌, take}
use Rattle.pure_terms.specs.View.{atoms_view}
use Rattle.sym_engine.proofs.candidates.assume.Given as goal

abbrev pub invariant-loop-atom : goal.invariant-loop-atom
invariant-loop-atom l = atoms_view l.given ≡ atoms_view l.fn.given ++ atoms_view (take l.atom-index l.atom-items)
