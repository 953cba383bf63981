use Rattle.std.proofs.Common.{◌≡◌, ℕ, pos, [], Some, slice_get, length}
use Rattle.linear_core.specs.declared.walks.Reach.{Reach}
use Rattle.linear_core.proofs.walks.Reaches.new.Given as goal

abbrev pub invariant-loop-node : goal.invariant-loop-node
invariant-loop-node l = record {
  same_length : length l.items.items ≡ l._node;
  zero : (x : ℕ) (reach : Reach) → slice_get l.items.items x ≡ Some reach → reach ≡ record { number = pos 0; walk = [] };
}
