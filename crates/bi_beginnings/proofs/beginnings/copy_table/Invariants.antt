use Rattle.std.proofs.Common.{◌≡◌, take}
use Rattle.bi_beginnings.proofs.beginnings.copy_table.Given as goal

abbrev pub invariant-loop-sort : goal.invariant-loop-sort
invariant-loop-sort l = l.copied ≡ take l.sort-index l.sort-items
