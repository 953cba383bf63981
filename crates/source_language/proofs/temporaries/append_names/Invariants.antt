use Rattle.std.proofs.Common.{◌≡◌, ◌++◌}
use Rattle.source_language.proofs.temporaries.append_names.Given as goal

abbrev pub invariant-loop-name : goal.invariant-loop-name
invariant-loop-name l = l.list ≡ l.fn.list ++ l.yielded
