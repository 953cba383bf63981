use Rattle.std.proofs.Common.{◌≡◌, ◌∷◌, take}
use Rattle.pure_terms.specs.View.{atom_view, atoms_view}
use Rattle.bi_specifications.proofs.wording.with_others.Given as goal

abbrev pub invariant-loop-atom : goal.invariant-loop-atom
invariant-loop-atom l = atoms_view l.atoms ≡ atom_view l.fn.first ∷ atoms_view (take l.atom-index l.atom-items)
