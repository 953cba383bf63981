-- What a heap has at a key, and whether two keys are one.
use Rattle.std.proofs.Common.{◌≡◌, ◌⊎◌, inl, inr, Bool, true, false, Option, Some, None, IsSome, is_some, refl, sym, ap, ◌∙◌, true≢false}
use Rattle.std.specs.FinMap.{get}
use Rattle.gil_values.specs.Pure.{PureValue}
use Rattle.mem_model.specs.declared.keys.Key.{Key}
use Rattle.mem_model.specs.Actions.{ActionResult}
use Rattle.mem_model.specs.Heaps.{Heap, Holds}
use Rattle.mem_model.specs.KeyOrder.{key_eq}
use Rattle.mem_model.specs.Tables.{found_or, at}
use Rattle.mem_model.proofs.Holding.{same_key, itself}

pub none_from : {X : Type 0} (o : Option X) → ¬ IsSome o → o ≡ None
none_from None lacks_it = refl
none_from (Some x) lacks_it = absurd (lacks_it refl)

pub not_both : {X : Type 0} {x : X} (o : Option X) → o ≡ None → o ≡ Some x → ⊥
not_both o none some = true≢false (sym (ap is_some some) ∙ ap is_some none)

pub at_some : (h : Heap) (k : Key) (w : PureValue) (found : PureValue → ActionResult) (otherwise : ActionResult) → Holds h k w → at h k found otherwise ≡ found w
at_some h k w found otherwise holds = ap (λ o. found_or o found otherwise) holds

pub at_none : (h : Heap) (k : Key) (found : PureValue → ActionResult) (otherwise : ActionResult) → get h k ≡ None → at h k found otherwise ≡ otherwise
at_none h k found otherwise none = ap (λ o. found_or o found otherwise) none

pub key_or_not : (q k : Key) → (q ≡ k) ⊎ (¬ (q ≡ k))
key_or_not q k = by_test (key_eq q k) refl
  where
    by_test : (b : Bool) → key_eq q k ≡ b → (q ≡ k) ⊎ (¬ (q ≡ k))
    by_test true is = inl (same_key q k is)
    by_test false is = inr (λ e. true≢false (sym (itself q) ∙ ap (key_eq q) e ∙ is))
