use Rattle.std.proofs.Common.{◌≡◌, take, false}
use Rattle.pure_terms.specs.View.{atom_view, atoms_view}
use Rattle.bi_beginnings.specs.Conditions.{stands_among}
use Rattle.bi_beginnings.proofs.again.stands_among.Given as goal

abbrev pub invariant-loop-other : goal.invariant-loop-other
invariant-loop-other l = stands_among (atoms_view (take l.other-index l.other-items)) (atom_view l.atom) ≡ false
