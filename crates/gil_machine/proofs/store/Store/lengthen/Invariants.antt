use Rattle.std.proofs.Common.{◌≡◌, ℕ, length}
use Rattle.gil_machine.specs.Kept.{kept_value}
use Rattle.gil_machine.specs.StoreView.{store_view}
use Rattle.gil_machine.proofs.store.Store.lengthen.Given as goal

abbrev pub invariant-loop-slot : goal.invariant-loop-slot
invariant-loop-slot l = record {
  count : length l.self.values.items ≡ l._slot;
  same : (j : ℕ) → kept_value (store_view l.self) j ≡ kept_value (store_view l.fn.self) j;
}
