-- A heap that is the union of one key and a rest holds the key, and the rest is left without it.
use Rattle.std.proofs.Common.{◌≡◌, Bool, true, false, cond, Option, Some, None, is_some, refl, sym, ap, subst, ◌∙◌}
use Rattle.std.specs.FinMap.{get, insert, remove, empty, get-insert, get-remove}
use Rattle.gil_values.specs.Pure.{PureValue}
use Rattle.mem_model.specs.declared.keys.Key.{Key}
use Rattle.mem_model.specs.declared.keys.MemoryName.TheVariants.{Record}
use Rattle.mem_model.specs.Cores.{one_key}
use Rattle.mem_model.specs.Heaps.{Heap, Holds, HasKey}
use Rattle.mem_model.specs.KeyOrder.{key_eq, key_cmp-total}
use Rattle.mem_model.proofs.CoreLaws.{one_key_more_is_union}
use Rattle.mem_model.proofs.Holding.{same_key, inserted_holds}
use Rattle.mem_model.proofs.Joins.{same_heap, has_key}
use Rattle.assert_logic.specs.Unions.{IsUnion}
use Rattle.assert_logic.proofs.UnionLaws.{union_commutes}

out_again : {X : Type 0} (b : Bool) (w : X) (o : Option X) → (b ≡ true → o ≡ None) → cond b None (cond b (Some w) o) ≡ o
out_again true w o none = sym (none refl)
out_again false w o none = refl

none_of : {X : Type 0} (o : Option X) → ¬ (is_some o ≡ true) → o ≡ None
none_of (Some x) isnt = absurd (isnt refl)
none_of None isnt = refl

pub key_first : (h rest : Heap) (k : Key) (w : PureValue) → IsUnion h (one_key k w) rest → Holds h k w × (remove h k ≡ rest)
key_first h rest k w union =
    let lacks : ¬ HasKey rest k = union.disjoint k (has_key (one_key k w) k w (inserted_holds empty k w)) in
    let with : h ≡ insert rest k w = (union_commutes h (one_key k w) rest union).union ∙ sym ((one_key_more_is_union Record rest k w).union lacks) in (
      subst (λ g. Holds g k w) (sym with) (inserted_holds rest k w),
      ap (λ g. remove g k) with
          ∙ same_heap (remove (insert rest k w) k) rest (λ q.
          get-remove key_cmp-total (insert rest k w) k q ∙ ap (cond (key_eq q k) None) (get-insert key_cmp-total rest k w q)
          ∙ out_again (key_eq q k) w (get rest q) (λ tied. ap (get rest) (same_key q k tied) ∙ none_of (get rest k) lacks)),
    )
