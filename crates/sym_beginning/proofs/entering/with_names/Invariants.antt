use Rattle.std.proofs.Common.{◌≡◌, ◌++◌}
use Rattle.sym_beginning.proofs.entering.with_names.Given as goal

abbrev pub invariant-loop-name : goal.invariant-loop-name
invariant-loop-name l = l.all ≡ l.fn.names ++ l.yielded
