use Rattle.std.proofs.Common.{◌≡◌, ◌++◌, map, take}
use Rattle.pure_terms.specs.View.{atoms_view}
use Rattle.sym_evaluation.specs.View.{faults_view}
use Rattle.sym_paths.specs.Calls.{fault_under}
use Rattle.sym_engine.proofs.calling.add_under.Given as goal

abbrev pub invariant-loop-fault : goal.invariant-loop-fault
invariant-loop-fault l =
    faults_view l.faults ≡ faults_view l.fn.faults ++ map (fault_under (atoms_view l.conds)) (faults_view (take l.fault-index l.fault-items))
