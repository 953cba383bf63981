use Rattle.std.proofs.Common.{◌≡◌, ◌++◌, take, string_bytes}
use Rattle.std.specs.Prelude.{codes}
use Rattle.std.specs.List.{join_by}
use Rattle.solver_print.specs.Proofs.{printed_factor}
use Rattle.solver_print.proofs.proofs.push_factors.Given as goal

abbrev pub invariant-loop-index : goal.invariant-loop-index
invariant-loop-index l = string_bytes l.out ≡ string_bytes l.fn.out ++ join_by printed_factor (codes ", ") (take l.index l.factors)
