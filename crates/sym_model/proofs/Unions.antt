-- The union of a list of chunks: what it holds, and how it changes with the list.
use Rattle.std.proofs.Common.{◌≡◌, ℕ, zero, suc, Bool, true, false, cond, List, [], ◌∷◌, ◌++◌, Option, Some, None, IsSome, slice_get, refl, sym, ap, subst, ◌∙◌, true≢false}
use Rattle.std.specs.List.{remove as remove_at}
use Rattle.std.specs.FinMap.{get, insert, remove, get-insert, get-remove, get-empty}
use Rattle.gil_values.specs.Pure.{PureValue}
use Rattle.mem_model.specs.declared.keys.Key.{Key}
use Rattle.mem_model.specs.Keys.{key_cmp}
use Rattle.mem_model.specs.KeyOrder.{key_cmp-total, key_eq}
use Rattle.mem_model.specs.Heaps.{Heap, Holds, HasKey}
use Rattle.mem_model.proofs.Joins.{same_heap, has_key}
use Rattle.mem_model.proofs.Holding.{same_key, itself, inserted_holds, inserted_keeps, different_keys, held_removed}
use Rattle.pure_terms.specs.Meaning.{value}
use Rattle.pure_terms.specs.Pure.{PureTerm}
use Rattle.sym_model.specs.Chunks.{IsEntry, IsUnion, with_held}
use Rattle.sym_model.specs.Pure.{PureChunk}
use Rattle.sym_model.proofs.ListLaws.{same_some, not_none}

-- ---- heaps with one key put or taken

none_kept : (b : Bool) (w : PureValue) (o : Option PureValue) → cond b None (cond b (Some w) o) ≡ cond b None o
none_kept true w o = refl
none_kept false w o = refl

pub remove-insert_same : (h : Heap) (k : Key) (w : PureValue) → remove (insert h k w) k ≡ remove h k
remove-insert_same h k w = same_heap _ _ (λ q.
    get-remove key_cmp-total (insert h k w) k q
    ∙ ap (cond (key_eq q k) None) (get-insert key_cmp-total h k w q)
    ∙ none_kept (key_eq q k) w (get h q)
    ∙ sym (get-remove key_cmp-total h k q))

lacking : (h : Heap) (k : Key) (o : Option PureValue) → get h k ≡ o → ¬ IsSome o → get h k ≡ None
lacking h k None is lacks = is
lacking h k (Some w) is lacks = absurd (lacks refl)

taken_from : (b : Bool) (o : Option PureValue) → (b ≡ true → o ≡ None) → cond b None o ≡ o
taken_from true o none = sym (none refl)
taken_from false o none = refl

pub remove_lacking : (h : Heap) (k : Key) → ¬ HasKey h k → remove h k ≡ h
remove_lacking h k lacks = same_heap _ _ (λ q.
    get-remove key_cmp-total h k q
    ∙ taken_from (key_eq q k) (get h q) (λ tied. ap (get h) (same_key q k tied) ∙ lacking h k (get h k) refl lacks))

apart_twice : (a b : Bool) (w : PureValue) (o : Option PureValue) → (a ≡ true → b ≡ true → ⊥) → cond a None (cond b (Some w) o) ≡ cond b (Some w) (cond a None o)
apart_twice true true w o apart = absurd (apart refl refl)
apart_twice true false w o apart = refl
apart_twice false b w o apart = refl

both_tied : (k q x : Key) → ¬ (k ≡ q) → key_eq x q ≡ true → key_eq x k ≡ true → ⊥
both_tied k q x other at_q at_k = other (sym (same_key x k at_k) ∙ same_key x q at_q)

pub remove-insert_other : (h : Heap) (k q : Key) (w : PureValue) → ¬ (k ≡ q) → remove (insert h k w) q ≡ insert (remove h q) k w
remove-insert_other h k q w other = same_heap _ _ (λ x.
    get-remove key_cmp-total (insert h k w) q x
    ∙ ap (cond (key_eq x q) None) (get-insert key_cmp-total h k w x)
    ∙ apart_twice (key_eq x q) (key_eq x k) w (get h x) (both_tied k q x other)
    ∙ ap (cond (key_eq x k) (Some w)) (sym (get-remove key_cmp-total h q x))
    ∙ sym (get-insert key_cmp-total (remove h q) k w x))

none_twice : (a b : Bool) (o : Option PureValue) → cond a None (cond b None o) ≡ cond b None (cond a None o)
none_twice true true o = refl
none_twice true false o = refl
none_twice false b o = refl

pub remove_comm : (h : Heap) (k q : Key) → remove (remove h k) q ≡ remove (remove h q) k
remove_comm h k q = same_heap _ _ (λ x.
    get-remove key_cmp-total (remove h k) q x
    ∙ ap (cond (key_eq x q) None) (get-remove key_cmp-total h k x)
    ∙ none_twice (key_eq x q) (key_eq x k) (get h x)
    ∙ ap (cond (key_eq x k) None) (sym (get-remove key_cmp-total h q x))
    ∙ sym (get-remove key_cmp-total (remove h q) k x))

put_back : (b : Bool) (w : PureValue) (o : Option PureValue) → (b ≡ true → o ≡ Some w) → cond b (Some w) (cond b None o) ≡ o
put_back true w o is = sym (is refl)
put_back false w o is = refl

pub insert-remove_same : (h : Heap) (k : Key) (w : PureValue) → Holds h k w → insert (remove h k) k w ≡ h
insert-remove_same h k w holds = same_heap _ _ (λ x.
    get-insert key_cmp-total (remove h k) k w x
    ∙ ap (cond (key_eq x k) (Some w)) (get-remove key_cmp-total h k x)
    ∙ put_back (key_eq x k) w (get h x) (λ tied. ap (get h) (same_key x k tied) ∙ holds))

kept_after : (h : Heap) (k q : Key) (w : PureValue) → ¬ (q ≡ k) → Holds h q w → Holds (remove h k) q w
kept_after h k q w other holds = get-remove key_cmp-total h k q ∙ ap (λ b. cond b None (get h q)) (different_keys q k other) ∙ holds

tied_itself : (k q : Key) → key_eq k q ≡ false → ¬ (k ≡ q)
tied_itself k q other same = true≢false (sym (itself k) ∙ ap (key_eq k) same ∙ other)

-- a key that is left when another is taken out is another key
pub left_is_other : (h : Heap) (k q : Key) (w : PureValue) → Holds (remove h q) k w → ¬ (k ≡ q)
left_is_other h k q w holds = tied_itself k q (held_removed h q k w holds).0

of_option : {X : Type 0} (b : Bool) (o : Option X) → IsSome (cond b None o) → IsSome o
of_option true o is = absurd (true≢false (sym is))
of_option false o is = is

pub has_before : (g : Heap) (q k : Key) → HasKey (remove g q) k → HasKey g k
has_before g q k has = of_option (key_eq k q) (get g k) (subst IsSome (get-remove key_cmp-total g q k) has)

-- ---- unions

module _ (v : List PureValue) where
  pub same_entry : (c : PureChunk) (k q : Key) (w u : PureValue) → IsEntry v c k w → IsEntry v c q u → (k ≡ q) × (w ≡ u)
  same_entry c k q w u e f = (same_some (sym e.at ∙ f.at), same_some (sym e.holds ∙ f.holds))

  -- each chunk has an entry, which the heap holds
  pub chunk_entry : (cs : List PureChunk) (h : Heap) (i : ℕ) (c : PureChunk) → IsUnion v cs h → slice_get cs i ≡ Some c → (k : Key) × ((w : PureValue) × (IsEntry v c k w × Holds h k w))
  chunk_entry [] h i c union at = not_none at
  chunk_entry (d ∷ cs) h zero c (k, (w, (entry, holds, rest))) at = (k, (w, (subst (λ x. IsEntry v x k w) (same_some at) entry, holds)))
  chunk_entry (d ∷ cs) h (suc i) c (q, (u, (entry, holds, rest))) at =
      let (k, (w, (is, left))) = chunk_entry cs (remove h q) i c rest at in
      (k, (w, (is, (held_removed h q k w left).1)))

  pub holds_entry : (cs : List PureChunk) (h : Heap) (i : ℕ) (c : PureChunk) (k : Key) (w : PureValue) → IsUnion v cs h → slice_get cs i ≡ Some c → IsEntry v c k w → Holds h k w
  holds_entry cs h i c k w union at entry =
      let (q, (u, (is, holds))) = chunk_entry cs h i c union at in
      let same = same_entry c q k u w is entry in
      ap (get h) (sym same.0) ∙ holds ∙ ap Some same.1

  -- a chunk of the list that stands for a key and a value
  abbrev pub Found : List PureChunk → Key → PureValue → Type 0
  Found cs k w = (i : ℕ) × ((c : PureChunk) × ((slice_get cs i ≡ Some c) × IsEntry v c k w))

  first_or_later : (c : PureChunk) (cs : List PureChunk) (h : Heap) (k q : Key) (w u : PureValue) (b : Bool) → key_eq k q ≡ b → IsEntry v c q u → Holds h q u → Holds h k w → (Holds (remove h q) k w → Found cs k w) → Found (c ∷ cs) k w
  first_or_later c cs h k q w u true tied entry holds_first holds later =
      let same : k ≡ q = same_key k q tied in
      let held : u ≡ w = same_some (sym holds_first ∙ ap (get h) (sym same) ∙ holds) in
      (0, (c, (refl, record { at = entry.at ∙ ap Some (sym same); holds = entry.holds ∙ ap Some held })))
  first_or_later c cs h k q w u false other entry holds_first holds later =
      let (i, (d, (at, is))) = later (kept_after h q k w (tied_itself k q other) holds) in
      (suc i, (d, (at, is)))

  -- what the heap holds is that of a chunk
  pub found_chunk : (cs : List PureChunk) (h : Heap) (k : Key) (w : PureValue) → IsUnion v cs h → Holds h k w → Found cs k w
  found_chunk [] h k w union holds = not_none (sym (get-empty key_cmp k) ∙ ap (λ g. get g k) (sym union) ∙ holds)
  found_chunk (c ∷ cs) h k w (q, (u, (entry, holds_first, rest))) holds =
      first_or_later c cs h k q w u (key_eq k q) refl entry holds_first holds (found_chunk cs (remove h q) k w rest)

  -- a chunk that holds another value
  pub held_changes : (cs : List PureChunk) (h : Heap) (i : ℕ) (c : PureChunk) (k : Key) (w : PureValue) (t : PureTerm) (u : PureValue) → IsUnion v cs h → slice_get cs i ≡ Some c → IsEntry v c k w → value v t ≡ Some u → IsUnion v (with_held cs i t) (insert h k u)
  held_changes [] h i c k w t u union at entry is = not_none at
  held_changes (d ∷ cs) h zero c k w t u (q, (u', (first, holds, rest))) at entry is =
      let here : IsEntry v c q u' = subst (λ x. IsEntry v x q u') (same_some at) first in
      let same = same_entry c q k u' w here entry in (
        k,
        (
          u,
          (
            record { at = first.at ∙ ap Some same.0; holds = is },
            inserted_holds h k u,
            subst (IsUnion v cs) (ap (remove h) same.0 ∙ sym (remove-insert_same h k u)) rest,
          ),
        ),
      )
  held_changes (d ∷ cs) h (suc i) c k w t u (q, (u', (first, holds, rest))) at entry is =
      let other : ¬ (k ≡ q) = left_is_other h k q w (holds_entry cs (remove h q) i c k w rest at entry) in (
        q,
        (
          u',
          (
            first,
            inserted_keeps h k q u u' (different_keys q k (λ e. other (sym e))) holds,
            subst (IsUnion v (with_held cs i t)) (sym (remove-insert_other h k q u other)) (held_changes cs (remove h q) i c k w t u rest at entry is),
          ),
        ),
      )

  -- a chunk taken out
  pub taken_out : (cs : List PureChunk) (h : Heap) (i : ℕ) (c : PureChunk) (k : Key) (w : PureValue) → IsUnion v cs h → slice_get cs i ≡ Some c → IsEntry v c k w → IsUnion v (remove_at cs i) (remove h k)
  taken_out [] h i c k w union at entry = not_none at
  taken_out (d ∷ cs) h zero c k w (q, (u, (first, holds, rest))) at entry =
      let here : IsEntry v c q u = subst (λ x. IsEntry v x q u) (same_some at) first in
      subst (IsUnion v cs) (ap (remove h) (same_entry c q k u w here entry).0) rest
  taken_out (d ∷ cs) h (suc i) c k w (q, (u, (first, holds, rest))) at entry =
      let other : ¬ (k ≡ q) = left_is_other h k q w (holds_entry cs (remove h q) i c k w rest at entry) in (
        q,
        (
          u,
          (
            first,
            kept_after h k q u (λ e. other (sym e)) holds,
            subst (IsUnion v (remove_at cs i)) (remove_comm h q k) (taken_out cs (remove h q) i c k w rest at entry),
          ),
        ),
      )

  -- a chunk added at the end
  pub put_last : (cs : List PureChunk) (h : Heap) (c : PureChunk) (k : Key) (w : PureValue) → IsUnion v cs h → IsEntry v c k w → ¬ HasKey h k → IsUnion v (cs ++ c ∷ []) (insert h k w)
  put_last [] h c k w union entry lacks = (k, (w, (entry, inserted_holds h k w, remove-insert_same h k w ∙ remove_lacking h k lacks ∙ union)))
  put_last (d ∷ cs) h c k w (q, (u, (first, holds, rest))) entry lacks =
      let other : ¬ (k ≡ q) = (λ e. lacks (subst (HasKey h) (sym e) (has_key h q u holds))) in
      let still : ¬ HasKey (remove h q) k = (λ has. lacks (has_before h q k has)) in (
        q,
        (
          u,
          (
            first,
            inserted_keeps h k q w u (different_keys q k (λ e. other (sym e))) holds,
            subst (IsUnion v (cs ++ c ∷ [])) (sym (remove-insert_other h k q w other)) (put_last cs (remove h q) c k w rest entry still),
          ),
        ),
      )

  -- there is one union at most
  pub one_union : (cs : List PureChunk) (g h : Heap) → IsUnion v cs g → IsUnion v cs h → g ≡ h
  one_union [] g h first second = first ∙ sym second
  one_union (c ∷ cs) g h (k, (w, (entry, holds, rest))) (q, (u, (other_entry, other_holds, other_rest))) =
      let same = same_entry c k q w u entry other_entry in
      let there : Holds h k w = ap (get h) same.0 ∙ other_holds ∙ ap Some (sym same.1) in
      let left : IsUnion v cs (remove h k) = subst (λ x. IsUnion v cs (remove h x)) (sym same.0) other_rest in
      sym (insert-remove_same g k w holds) ∙ ap (λ m. insert m k w) (one_union cs (remove g k) (remove h k) rest left) ∙ insert-remove_same h k w there
