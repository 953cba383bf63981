use Rattle.std.proofs.Common.{◌≡◌, ◌<◌, ℕ, map, None, slice_get}
use Rattle.std.specs.Option.{option_and_then}
use Rattle.gil_syntax.specs.View.{pred_def_view}
use Rattle.assert_logic.specs.Modes.{pred_fault}
use Rattle.assert_logic.proofs.checking.first_in_preds.Given as goal

abbrev pub invariant-loop-place : goal.invariant-loop-place
invariant-loop-place l = (i : ℕ) → i < l.place → option_and_then (pred_fault l.memory) (slice_get (map pred_def_view l.preds) i) ≡ None
