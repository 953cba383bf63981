use Rattle.std.proofs.Common.{◌≡◌, take}
use Rattle.report_names.proofs.proofs.copy_factors.Given as goal

abbrev pub invariant-loop-factor : goal.invariant-loop-factor
invariant-loop-factor l = l.list ≡ take l.factor-index l.factors
