use Rattle.std.proofs.Common.{◌≡◌, drop}
use Rattle.gil_syntax.specs.Valid.{is_among}
use Rattle.report_causes.proofs.variables.is_among.Given as goal

abbrev pub invariant-loop-other : goal.invariant-loop-other
invariant-loop-other l = is_among l.names l.name ≡ is_among (drop l.other-index l.names) l.name
