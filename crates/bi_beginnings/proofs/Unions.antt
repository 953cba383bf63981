-- Uses of core predicates have one heap at most, and may have one use more, of a key that their heap lacks.
use Rattle.std.proofs.Common.{◌≡◌, ⊎_elim, List, [], ◌∷◌, ◌++◌, Bool, true, false, cond, Option, None, refl, sym, ap, subst, ◌∙◌}
use Rattle.std.specs.FinMap.{get, insert, remove, empty, get-remove}
use Rattle.gil_values.specs.Pure.{PureValue}
use Rattle.mem_model.specs.declared.keys.Key.{Key}
use Rattle.mem_model.specs.declared.keys.MemoryName.TheVariants.{Record}
use Rattle.mem_model.specs.Cores.{core_entry, one_key}
use Rattle.mem_model.specs.Heaps.{Heap, Holds, HasKey, IsDisjoint}
use Rattle.mem_model.specs.KeyOrder.{key_cmp-total, key_eq}
use Rattle.mem_model.proofs.CoreLaws.{one_key_more_is_union}
use Rattle.mem_model.proofs.Holding.{same_key, held_inserted, held_removed, inserted_keeps, different_keys, remove-joined}
use Rattle.mem_model.proofs.Joins.{same_heap, has_key, value_at}
use Rattle.mem_model.proofs.Parts.{no_key}
use Rattle.assert_logic.specs.Unions.{IsUnion}
use Rattle.assert_logic.proofs.UnionLaws.{union_commutes}
use Rattle.assertion_terms.proofs.Keys.{key_first}
use Rattle.sym_model.specs.Listing.{IsUse, AreUnion}
use Rattle.sym_model.specs.Pure.{PureUse}
use Rattle.sym_model.proofs.ListLaws.{same_some}

-- ---- one heap

left_alone : (b : Bool) (o : Option PureValue) → b ≡ false → cond b None o ≡ o
left_alone true o is = cc
left_alone false o is = refl

-- heaps that hold the same at a key, and are the same without it
module _ (g h : Heap) (k : Key) (w : PureValue) (left : Holds g k w) (right : Holds h k w) (rest : remove g k ≡ remove h k) where
  at_key : (q : Key) (b : Bool) → key_eq q k ≡ b → get g q ≡ get h q
  at_key q true is = ap (get g) (same_key q k is) ∙ left ∙ sym right ∙ sym (ap (get h) (same_key q k is))
  at_key q false is =
      sym (left_alone (key_eq q k) (get g q) is) ∙ sym (get-remove key_cmp-total g k q) ∙ ap (λ (x : Heap). get x q) rest
      ∙ get-remove key_cmp-total h k q ∙ left_alone (key_eq q k) (get h q) is

  same_with : g ≡ h
  same_with = same_heap g h (λ q. at_key q (key_eq q k) refl)

-- a use stands for one key and one value
one_entry : (v : List PureValue) (u : PureUse) (k l : Key) (w x : PureValue) → IsUse v u k w → IsUse v u l x → (k ≡ l) × (w ≡ x)
one_entry v u k l w x first second =
    let values : first.ws ≡ second.ws = same_some (sym first.have ∙ second.have) in
    let entry = same_some (sym first.entry ∙ ap (λ ws. core_entry u.core ws) values ∙ second.entry) in
    (ap (λ e. e.0) entry, ap (λ e. e.1) entry)

pub one_heap : (v : List PureValue) (us : List PureUse) (g h : Heap) → AreUnion v us g → AreUnion v us h → g ≡ h
one_heap v [] g h first second = first ∙ sym second
one_heap v (u ∷ us) g h (k, (w, (is, holds, rest))) (l, (x, (is_too, holds_too, rest_too))) =
    let (same, values) = one_entry v u k l w x is is_too in
    let there : Holds h k w = subst (λ j. Holds h j w) (sym same) (subst (Holds h l) (sym values) holds_too) in
    let rest_there : AreUnion v us (remove h k) = subst (λ j. AreUnion v us (remove h j)) (sym same) rest_too in
    same_with g h k w holds there (one_heap v us (remove g k) (remove h k) rest rest_there)

-- ---- one use more

apart_from : (h : Heap) (k : Key) (w : PureValue) → ¬ HasKey h k → IsDisjoint h (one_key k w)
apart_from h k w lacks q has there =
    let (u, at) = value_at (one_key k w) q there in
    ⊎_elim (λ put. lacks (subst (HasKey h) put.0 has)) (λ (kept : (key_eq q k ≡ false) × Holds empty q u). no_key q (has_key empty q u kept.1)) (held_inserted empty k q w u at)

with_key : (h : Heap) (k : Key) (w : PureValue) → ¬ HasKey h k → IsUnion (insert h k w) h (one_key k w)
with_key h k w lacks = record { disjoint = apart_from h k w lacks; union = (one_key_more_is_union Record h k w).union lacks }

-- a heap with one key more is what the uses say, with one more for the key
pub union_with : (v : List PureValue) (us : List PureUse) (u : PureUse) (h : Heap) (k : Key) (w : PureValue) → AreUnion v us h → ¬ HasKey h k → IsUse v u k w → AreUnion v (us ++ u ∷ []) (insert h k w)
union_with v [] u h k w is lacks used =
    let (holds, rest) = key_first (insert h k w) h k w (union_commutes (insert h k w) h (one_key k w) (with_key h k w lacks)) in
    (k, (w, (used, holds, rest ∙ is)))
union_with v (x ∷ us) u h k w (l, (y, (of_x, holds, rest))) lacks used =
    let other : ¬ (l ≡ k) = λ same. lacks (subst (HasKey h) same (has_key h l y holds)) in
    let lacks_there : ¬ HasKey (remove h l) k = λ has. lacks (still_there has) in
    let same : insert (remove h l) k w ≡ remove (insert h k w) l =
    (one_key_more_is_union Record (remove h l) k w).union lacks_there
    ∙ sym (remove-joined h (one_key k w) l (λ has. apart_from h k w lacks l (has_key h l y holds) has))
    ∙ ap (λ g. remove g l) (sym ((one_key_more_is_union Record h k w).union lacks))
    in
    (l, (y, (of_x, inserted_keeps h k l w y (different_keys l k other) holds, subst (AreUnion v (us ++ u ∷ [])) same (union_with v us u (remove h l) k w rest lacks_there used))))
  where
    still_there : HasKey (remove h l) k → HasKey h k
    still_there has = let (z, at) = value_at (remove h l) k has in has_key h k z (held_removed h l k z at).1
