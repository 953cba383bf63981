use Rattle.std.proofs.Common.{◌≡◌, map, take}
use Rattle.sym_model.specs.View.{fix_view}
use Rattle.bi_beginnings.specs.Fixing.{with_fix}
use Rattle.bi_beginnings.specs.View.{beginning_view, beginnings_view}
use Rattle.bi_beginnings.proofs.again.with_each.Given as goal

abbrev pub invariant-loop-fix : goal.invariant-loop-fix
invariant-loop-fix l = beginnings_view l.beginnings ≡ map (with_fix (beginning_view l.beginning)) (map fix_view (take l.fix-index l.fix-items))
