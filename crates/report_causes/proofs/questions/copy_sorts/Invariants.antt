use Rattle.std.proofs.Common.{◌≡◌, take}
use Rattle.report_causes.proofs.questions.copy_sorts.Given as goal

abbrev pub invariant-loop-sort : goal.invariant-loop-sort
invariant-loop-sort l = l.copied ≡ take l.sort-index l.sort-items
