-- The union of heaps.
use Rattle.std.proofs.Common.{◌≡◌, ◌⊎◌, inl, inr, Bool, true, false, cond, not, List, [], ◌∷◌, ◌++◌, Option, Some, None, IsSome, is_some, refl, sym, ap, ◌∙◌, true≢false}
use Rattle.std.specs.Option.{option_or}
use Rattle.std.specs.Ordering.{eq_by_cmp}
use Rattle.std.specs.FinMap.{get, entries, find, empty, contains_key, get-from_entries, get-entries, get-empty, get-retain_keys, same_map, get_tied}
use Rattle.gil_values.specs.Pure.{PureValue}
use Rattle.mem_model.specs.declared.keys.Key.{Key}
use Rattle.mem_model.specs.Keys.{key_cmp}
use Rattle.mem_model.specs.Heaps.{Heap, Holds, HasKey, joined}
use Rattle.mem_model.specs.Laws.{JoinCommutes, JoinAssociates, JoinHasUnit, JoinHoldsBoth, rest_of, HeapsSplit}
use Rattle.mem_model.specs.KeyOrder.{key_cmp-total, key_cmp-IsAntisymmetric}

-- two heaps that hold the same at each key are the same
pub same_heap : (g h : Heap) → ((k : Key) → get g k ≡ get h k) → g ≡ h
same_heap g h same = same_map key_cmp-total key_cmp-IsAntisymmetric g h same

some_value : {X : Type 0} (o : Option X) → IsSome o → (v : X) × (o ≡ Some v)
some_value None is = absurd (true≢false (sym is))
some_value (Some v) is = (v, refl)

-- the value at a key that a heap has
pub value_at : (h : Heap) (k : Key) → HasKey h k → (v : PureValue) × Holds h k v
value_at h k has = some_value (get h k) has

pub has_key : (h : Heap) (k : Key) (v : PureValue) → Holds h k v → HasKey h k
has_key h k v is = ap is_some is

or_cond : {X : Type 0} (b : Bool) (x : X) (o p : Option X) → cond b (Some x) (option_or o p) ≡ option_or (cond b (Some x) o) p
or_cond true x o p = refl
or_cond false x o p = refl

pub find-append : (q : Key) (es fs : List (Key × PureValue)) → find key_cmp q (es ++ fs) ≡ option_or (find key_cmp q es) (find key_cmp q fs)
find-append q [] fs = refl
find-append q (e ∷ es) fs = ap (cond (eq_by_cmp key_cmp q e.0) (Some e.1)) (find-append q es fs) ∙ or_cond (eq_by_cmp key_cmp q e.0) e.1 _ _

-- the union holds what the first heap holds, and elsewhere what the second one holds
pub get-joined : (g h : Heap) (k : Key) → get (joined g h) k ≡ option_or (get g k) (get h k)
get-joined g h k =
    get-from_entries key_cmp-total (entries g ++ entries h) k
    ∙ find-append k (entries g) (entries h)
    ∙ (λ i. option_or (sym (get-entries g k) i) (sym (get-entries h k) i))

or_commutes : {X : Type 0} (o p : Option X) → (IsSome o → ¬ IsSome p) → option_or o p ≡ option_or p o
or_commutes None None apart = refl
or_commutes None (Some y) apart = refl
or_commutes (Some x) None apart = refl
or_commutes (Some x) (Some y) apart = absurd (apart refl refl)

or_associates : {X : Type 0} (o p q : Option X) → option_or (option_or o p) q ≡ option_or o (option_or p q)
or_associates None p q = refl
or_associates (Some x) p q = refl

or_unit : {X : Type 0} (o : Option X) → option_or o None ≡ o
or_unit None = refl
or_unit (Some x) = refl

pub join_commutes : JoinCommutes
join_commutes g h apart = same_heap _ _ (λ k. get-joined g h k ∙ or_commutes (get g k) (get h k) (apart k) ∙ sym (get-joined h g k))

pub join_associates : JoinAssociates
join_associates f g h = same_heap _ _ (λ k.
    get-joined (joined f g) h k
    ∙ ap (λ o. option_or o (get h k)) (get-joined f g k)
    ∙ or_associates (get f k) (get g k) (get h k)
    ∙ ap (option_or (get f k)) (sym (get-joined g h k))
    ∙ sym (get-joined f (joined g h) k))

pub join_has_unit : JoinHasUnit
join_has_unit h = (
  same_heap _ _ (λ k. get-joined empty h k ∙ ap (λ o. option_or o (get h k)) (get-empty key_cmp k)),
  same_heap _ _ (λ k. get-joined h empty k ∙ ap (option_or (get h k)) (get-empty key_cmp k) ∙ or_unit (get h k)),
)

or_holds : {X : Type 0} (o p : Option X) (v : X) → option_or o p ≡ Some v → (o ≡ Some v) ⊎ (p ≡ Some v)
or_holds None p v is = inr is
or_holds (Some x) p v is = inl is

pub join_holds_both : JoinHoldsBoth
join_holds_both g h apart = record {
  first = λ k v is. get-joined g h k ∙ ap (λ o. option_or o (get h k)) is;
  second = λ k v is. ap (λ m. get m k) (join_commutes g h apart) ∙ get-joined h g k ∙ ap (λ o. option_or o (get g k)) is;
  nothing_else = λ k v is. or_holds (get g k) (get h k) v (sym (get-joined g h k) ∙ is);
}

-- what is left holds what the heap holds, where the part has no key
get-rest : (part h : Heap) (k : Key) → get (rest_of h part) k ≡ cond (not (contains_key part k)) (get h k) None
get-rest part h k = get-retain_keys h _ k (λ x tied. ap (λ o. not (is_some o)) (get_tied key_cmp-total part k x tied))

apart_kept : {X : Type 0} (o p : Option X) → IsSome o → ¬ IsSome (cond (not (is_some o)) p None)
apart_kept None p is = absurd (true≢false (sym is))
apart_kept (Some x) p is = λ has. true≢false (sym has)

or_kept : {X : Type 0} (o p : Option X) → ((v : X) → o ≡ Some v → p ≡ Some v) → option_or o (cond (not (is_some o)) p None) ≡ p
or_kept None p part = refl
or_kept (Some x) p part = sym (part x refl)

pub heaps_split : HeapsSplit
heaps_split part h is_part = (
  (λ k has left. apart_kept (get part k) (get h k) has (sym (ap is_some (get-rest part h k)) ∙ left)),
  same_heap _ _ (λ k. get-joined part (rest_of h part) k ∙ ap (option_or (get part k)) (get-rest part h k) ∙ or_kept (get part k) (get h k) (is_part k)),
)
