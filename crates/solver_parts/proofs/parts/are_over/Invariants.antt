use Rattle.std.proofs.Common.{take}
use Rattle.pure_terms.specs.Meaning.{AreOver}
use Rattle.pure_terms.specs.View.{atoms_view}
use Rattle.solver_parts.proofs.parts.are_over.Given as goal

abbrev pub invariant-loop-atom : goal.invariant-loop-atom
invariant-loop-atom l = AreOver l.vars (take l.atom-index (atoms_view l.atoms))
