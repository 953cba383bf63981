use Rattle.std.proofs.Common.{map, take}
use Rattle.sym_engine.specs.View.{candidates_view}
use Rattle.sym_evaluation.specs.View.{faults_view}
use Rattle.sym_paths.specs.Valued.{faulted}
use Rattle.sym_paths.specs.View.{path_view}
use Rattle.sym_paths.specs.Copies.{AreCopied}
use Rattle.sym_engine.proofs.valued.fail_each.Given as goal

abbrev pub invariant-loop-fault : goal.invariant-loop-fault
invariant-loop-fault g l =
    AreCopied g.M.SymMemory.stands g.M.SymMemory.terms g.M.SymMemory.depends g.M.SymMemory.plain
    (map (faulted (path_view l.path) l.here) (faults_view (take l.fault-index l.fault-items))) (candidates_view l.candidates)
