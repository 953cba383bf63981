use Rattle.pure_terms.specs.View.{atoms_view}
use Rattle.sym_test.proofs.Outsides.{PassTo}
use Rattle.sym_test.proofs.judging.outside_at.Given as goal

abbrev pub invariant-loop-place : goal.invariant-loop-place
invariant-loop-place l = PassTo (atoms_view l.items) l.place
