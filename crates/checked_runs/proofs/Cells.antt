-- Heaps of one key, for the rows of programs.
use Rattle.std.proofs.Common.{◌≡◌, ⊎_elim, ℕ, ◌+◌, ◌<◌, Bool, true, false, cond, codes, Some, None, is_some, refl, sym, ap, subst, ◌∙◌, arith}
use Rattle.std.specs.FinMap.{empty, get, insert, remove, len, contains_key, get-empty, get-remove, get-insert, len-empty, len-insert}
use Rattle.gil_values.specs.Pure.{PureValue}
use Rattle.gil_values.specs.Symbols.{IsBelow}
use Rattle.mem_model.specs.declared.keys.Key.{Key}
use Rattle.mem_model.specs.declared.keys.Sub.{Sub}
use Rattle.mem_model.specs.declared.keys.Sub.TheVariants.{Name, Bound, Gone}
use Rattle.mem_model.specs.declared.keys.MemoryName.TheVariants.{Record}
use Rattle.mem_model.specs.Heaps.{Heap, HasKey, Holds, IsHeapOf, IsHeapBelow, HoldsNames, IsDescriptor}
use Rattle.mem_model.specs.Keys.{key, key_cmp, has_subkey}
use Rattle.mem_model.specs.KeyOrder.{key_eq, key_cmp-total}
use Rattle.mem_model.proofs.Holding.{held_inserted, inserted_holds}
use Rattle.mem_model.proofs.Joins.{same_heap, value_at}
use Rattle.checked_runs.proofs.Stores.{no_value}

abbrev pub the_key : Key
the_key = key 0 (Name (codes "v"))

abbrev pub cell : PureValue → Heap
cell v = insert empty the_key v

module _ (v : PureValue) where
  pub held_value : get (cell v) the_key ≡ Some v
  held_value = inserted_holds empty the_key v

  pub none_held : (q : Key) → get (empty {X = PureValue} {R = key_cmp}) q ≡ None
  none_held q = get-empty key_cmp q

  pub is_new : contains_key (empty {X = PureValue} {R = key_cmp}) the_key ≡ false
  is_new = ap is_some (get-empty key_cmp the_key)

  pub is_taken : remove (cell v) the_key ≡ empty
  is_taken = same_heap (remove (cell v) the_key) empty (λ q. get-remove key_cmp-total (cell v) the_key q ∙ by q (key_eq q the_key) refl ∙ sym (get-empty key_cmp q))
    where
      by : (q : Key) (b : Bool) → key_eq q the_key ≡ b → cond b None (get (cell v) q) ≡ None
      by q true same = refl
      by q false other = get-insert key_cmp-total empty the_key v q ∙ ap (λ b. cond b (Some v) (get (empty {X = PureValue} {R = key_cmp}) q)) other ∙ get-empty key_cmp q

  pub one_key : len (cell v) ≡ 1
  one_key =
      len-insert key_cmp-total empty the_key v
      ∙ ap (λ o. cond (is_some o) (len (empty {X = PureValue} {R = key_cmp})) (len (empty {X = PureValue} {R = key_cmp}) + 1)) (get-empty key_cmp the_key)
      ∙ ap (λ n. n + 1) (len-empty key_cmp PureValue)

  only_key : (q : Key) → HasKey (cell v) q → q ≡ the_key
  only_key q has =
      let (w, at) = value_at (cell v) q has in
      ⊎_elim (λ put. put.0) (λ kept. no_value w (sym (get-empty key_cmp q) ∙ kept.1)) (held_inserted empty the_key q v w at)

  only_value : (q : Key) (w : PureValue) → Holds (cell v) q w → (q ≡ the_key) × (w ≡ v)
  only_value q w at = ⊎_elim (λ put. put) (λ kept. no_value w (sym (get-empty key_cmp q) ∙ kept.1)) (held_inserted empty the_key q v w at)

  has_of : (q : Key) (w : PureValue) → Holds (cell v) q w → HasKey (cell v) q
  has_of q w at = ap is_some at

  pub cell_is_heap : IsHeapOf Record (cell v)
  cell_is_heap = record {
    subkeys = λ q has. ap (λ k. has_subkey Record k.sub) (only_key q has);
    well_formed = record {
      gone_alone = λ l s gone has. no_gone l gone;
      gone_is_true = λ l w at. no_gone l (has_of (key l Gone) w at);
      name_lists = λ l s d names at. no_names l s names (has_of (key l s) d at);
      names_listed = λ l s d names at q has. no_names l s names (has_of (key l s) d at);
      bound_is_number = λ l w at. no_bound l (has_of (key l Bound) w at);
      cells_in_bound = λ l n i at has. no_bound l (has_of (key l Bound) _ at);
      one_descriptor = λ l s t is_s is_t has_s has_t. no_descriptor l s is_s has_s;
    };
  }
    where
      sub_of : (l : ℕ) (s : Sub) → HasKey (cell v) (key l s) → s ≡ Name (codes "v")
      sub_of l s has = ap (λ k. k.sub) (only_key (key l s) has)

      no_gone : {P : Type 0} (l : ℕ) → HasKey (cell v) (key l Gone) → P
      no_gone l has = let same = sub_of l Gone has in absurd (cc)

      no_bound : {P : Type 0} (l : ℕ) → HasKey (cell v) (key l Bound) → P
      no_bound l has = let same = sub_of l Bound has in absurd (cc)

      no_names : {P : Type 0} (l : ℕ) (s : Sub) → HoldsNames s → HasKey (cell v) (key l s) → P
      no_names l s names has = absurd (subst HoldsNames (sub_of l s has) names)

      no_descriptor : {P : Type 0} (l : ℕ) (s : Sub) → IsDescriptor s → HasKey (cell v) (key l s) → P
      no_descriptor l s is has = absurd (subst IsDescriptor (sub_of l s has) is)

  pub cell_is_below_any : (k : ℕ) → 0 < k → IsBelow k v → IsHeapBelow k (cell v)
  cell_is_below_any k lt below q w at =
      let (same_key, same_value) = only_value q w at in
      (subst (λ n. n < k) (ap (λ k. k.loc) (sym same_key)) lt, subst (IsBelow k) (sym same_value) below)

  pub cell_is_below : IsBelow 1 v → IsHeapBelow 1 (cell v)
  cell_is_below = cell_is_below_any 1 (omega arith)
