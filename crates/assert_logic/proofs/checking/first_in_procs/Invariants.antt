use Rattle.std.proofs.Common.{◌≡◌, ◌<◌, ℕ, None}
use Rattle.gil_syntax.specs.Program.{prog_view}
use Rattle.assert_logic.specs.declared.checking.ModeItem.TheVariants.{Proc}
use Rattle.assert_logic.specs.Modes.{fault_of}
use Rattle.assert_logic.proofs.checking.first_in_procs.Given as goal

abbrev pub invariant-loop-place : goal.invariant-loop-place
invariant-loop-place l = (i : ℕ) → i < l.place → fault_of (prog_view l.prog) l.memory (Proc i) ≡ None
