use Rattle.std.proofs.Common.{◌≡◌, map, take, None}
use Rattle.gil_syntax.specs.View.{proc_view}
use Rattle.source_language.specs.Limits.{first_long}
use Rattle.source_language.proofs.limits.first_long.Given as goal

abbrev pub invariant-loop-number : goal.invariant-loop-number
invariant-loop-number l = first_long (take l.number (map proc_view l.procs)) ≡ None
