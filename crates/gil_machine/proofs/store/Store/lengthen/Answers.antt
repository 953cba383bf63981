use Rattle.std.proofs.Common.{◌≡◌, ◌+◌, length, sym, ap, subst, ◌∙◌}
use Rattle.std.proofs.lemmas.List.{length-append}
use Rattle.gil_machine.specs.Kept.{kept_value}
use Rattle.gil_machine.specs.StoreView.{store_view}
use Rattle.gil_machine.proofs.KeptValues.{seen, kept-lengthen}
use Rattle.gil_machine.proofs.store.Store.lengthen.Goals as goal

pub loop-slot-preserved : goal.loop-slot-preserved
loop-slot-preserved c = record {
  count = ap length c.in_ok-push.ensures.items ∙ length-append _ _ ∙ ap (λ n. n + 1) c.loop-slot.invariant.count;
  same = λ j. subst (λ vs. kept_value (seen vs) j ≡ kept_value (store_view c.loop-slot.self) j) (sym c.in_ok-push.ensures.items) (kept-lengthen c.loop-slot.self.values.items j) ∙ c.loop-slot.invariant.same j;
}
