use Rattle.std.proofs.Common.{◌≡◌, take}
use Rattle.sym_model.specs.View.{uses_view}
use Rattle.bi_beginnings.proofs.beginnings.copy_uses.Given as goal

abbrev pub invariant-loop-used : goal.invariant-loop-used
invariant-loop-used l = uses_view l.copied ≡ uses_view (take l.used-index l.used-items)
