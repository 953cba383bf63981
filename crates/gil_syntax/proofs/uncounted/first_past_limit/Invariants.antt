use Rattle.std.proofs.Common.{◌≡◌, ◌<◌, ℕ, false}
use Rattle.gil_syntax.specs.declared.validity.InvalidKind.TheVariants.{TooMany}
use Rattle.gil_syntax.specs.View.{parts_view}
use Rattle.gil_syntax.specs.Uncounted.{fault_but_length_at}
use Rattle.gil_syntax.proofs.uncounted.first_past_limit.Given as goal

abbrev pub invariant-loop-item : goal.invariant-loop-item
invariant-loop-item l = (j : ℕ) → j < l.item → fault_but_length_at (parts_view l.parts) TooMany j ≡ false
