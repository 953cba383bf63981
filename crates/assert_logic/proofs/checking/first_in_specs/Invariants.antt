use Rattle.std.proofs.Common.{◌≡◌, ◌<◌, ℕ, map, None, slice_get}
use Rattle.std.specs.Option.{option_and_then}
use Rattle.gil_syntax.specs.View.{spec_view}
use Rattle.assert_logic.specs.Modes.{spec_fault}
use Rattle.assert_logic.proofs.checking.first_in_specs.Given as goal

abbrev pub invariant-loop-place : goal.invariant-loop-place
invariant-loop-place l = (i : ℕ) → i < l.place → option_and_then (spec_fault l.memory) (slice_get (map spec_view l.specs) i) ≡ None
