use Rattle.std.proofs.Common.{◌≡◌, drop, map}
use Rattle.sym_chunks.specs.View.{case_view}
use Rattle.sym_chunks.specs.Cases.{sure_case}
use Rattle.sym_chunks.proofs.cases.sure.Given as goal

abbrev pub invariant-loop-case : goal.invariant-loop-case
invariant-loop-case l = sure_case (map case_view (drop l.case-index l.case-items)) ≡ sure_case (map case_view l.case-items)
