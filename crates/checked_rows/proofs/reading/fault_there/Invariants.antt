use Rattle.std.proofs.Common.{take}
use Rattle.pure_terms.specs.View.{atoms_view}
use Rattle.sym_evaluation.specs.View.{faults_view}
use Rattle.checked_rows.specs.Reading.{NeverTaken}
use Rattle.checked_rows.proofs.reading.fault_there.Given as goal

abbrev pub invariant-loop-fault : goal.invariant-loop-fault
invariant-loop-fault g l = NeverTaken l.vars (atoms_view l.conds) (faults_view (take l.fault-index l.fault-items))
