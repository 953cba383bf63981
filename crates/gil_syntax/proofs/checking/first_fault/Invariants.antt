use Rattle.std.proofs.Common.{◌≡◌, ◌<◌, ℕ, false}
use Rattle.gil_syntax.specs.Valid.{fault_at}
use Rattle.gil_syntax.specs.ByName.{parts_of}
use Rattle.gil_syntax.proofs.checking.first_fault.Given as goal

abbrev pub invariant-loop-item : goal.invariant-loop-item
invariant-loop-item l = (j : ℕ) → j < l.item → fault_at (parts_of l.program) l.kind j ≡ false
