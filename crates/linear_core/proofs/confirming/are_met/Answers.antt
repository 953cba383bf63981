use Rattle.std.proofs.Common.{◌<◌, ◌≤◌, false, length, get_or, pos, arith}
use Rattle.std.proofs.lemmas.Option.{slice_get-get_or}
use Rattle.linear_core.specs.declared.differences.Difference.{Difference}
use Rattle.linear_core.proofs.Testing.{met_next}
use Rattle.linear_core.proofs.confirming.are_met.Goals as goal

pub loop-row-preserved : goal.loop-row-preserved
loop-row-preserved c =
    let none : Difference = record { plus = 0; minus = 0; constant = pos 0; is_equal = false } in
    met_next c.args.differences.now c.args.reaches.now c.loop-row.row (get_or c.args.differences.now c.loop-row.row none) (slice_get-get_or c.args.differences.now c.loop-row.row none c.loop-row-test.true) (c.is_met.ensures c.if-not-is_met.false) c.loop-row.invariant

pub returns : goal.returns
returns c told k d at within = c.loop-row.invariant k d at (below c.loop-row-test.false) where
  below : length c.args.differences.now ≤ c.loop-row.row → k < c.loop-row.row
  below past = omega (arith, within, past)
