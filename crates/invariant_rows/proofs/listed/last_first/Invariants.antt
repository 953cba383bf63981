use Rattle.std.proofs.Common.{drop}
use Rattle.sym_evaluation.specs.View.{store_view}
use Rattle.invariant_rows.specs.Listed.{AreUnlisted}
use Rattle.invariant_rows.proofs.listed.last_first.Given as goal

abbrev pub invariant-loop-place : goal.invariant-loop-place
invariant-loop-place l = AreUnlisted l.listed (drop l.place (store_view l.store)) (store_view l.unlisted)
