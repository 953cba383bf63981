-- Several keys of a heap changed at once.
use Rattle.std.proofs.Common.{◌≡◌, ℕ, ◌+◌, ◌<◌, nat_eq, Bool, true, false, cond, not, ◌||◌, List, [], ◌∷◌, length, map, take, drop, get_or, Option, Some, None, IsTrue, IsSome, refl, sym, ap, subst, ◌∙◌, true≢false}
use Rattle.std.proofs.lemmas.List.{take-append-drop}
use Rattle.std.proofs.lemmas.List.Folds.{list_any-append, list_any_more}
use Rattle.std.proofs.lemmas.Bool.Decides.{Decides-eqb}
use Rattle.std.proofs.lemmas.Map.Views.{tells_apart}
use Rattle.std.specs.Option.{option_or}
use Rattle.std.specs.FinMap.{find, get, from_entries, insert, remove, get-from_entries, get-insert, get-remove, get-retain_keys}
use Rattle.gil_values.specs.Pure.{PureValue, boolean}
use Rattle.mem_model.specs.declared.keys.Key.{Key}
use Rattle.mem_model.specs.declared.keys.Sub.TheVariants.{Gone}
use Rattle.mem_model.specs.Keys.{key, key_cmp}
use Rattle.mem_model.specs.KeyOrder.{key_cmp-total, key_cmp-IsAntisymmetric, key_eq}
use Rattle.mem_model.specs.Heaps.{Heap, HasKey}
use Rattle.mem_model.specs.Tables.{is_among, LacksAll, IsWhole, with_all, without_keys, without_location, disposed}
use Rattle.mem_model.proofs.Joins.{same_heap, get-joined}

turned : {X : Type 0} (b : Bool) (o : Option X) → cond (not b) o None ≡ cond b None o
turned true o = refl
turned false o = refl

pub get-without_keys : (ks : List Key) (h : Heap) (q : Key) → get (without_keys ks h) q ≡ cond (is_among q ks) None (get h q)
get-without_keys ks h q =
    get-retain_keys h (λ k. not (is_among k ks)) q (λ x tied. ap (λ k. not (is_among k ks)) (sym (key_cmp-IsAntisymmetric q x tied)))
    ∙ turned (is_among q ks) (get h q)

either : {X : Type 0} (b c : Bool) (x o : Option X) → cond (b || c) x o ≡ cond b x (cond c x o)
either true c x o = refl
either false c x o = refl

either_last : {X : Type 0} (b c : Bool) (x o : Option X) → cond (b || c) x o ≡ cond c x (cond b x o)
either_last true true x o = refl
either_last true false x o = refl
either_last false true x o = refl
either_last false false x o = refl

find_all : (ks : List Key) (v : PureValue) (q : Key) (o : Option PureValue) → option_or (find key_cmp q (map (λ k. (k, v)) ks)) o ≡ cond (is_among q ks) (Some v) o
find_all [] v q o = refl
find_all (k ∷ ks) v q o =
    at_first (key_eq q k) (find key_cmp q (map (λ l. (l, v)) ks))
    ∙ ap (cond (key_eq q k) (Some v)) (find_all ks v q o)
    ∙ sym (either (key_eq q k) (is_among q ks) (Some v) o)
  where
    at_first : (b : Bool) (p : Option PureValue) → option_or (cond b (Some v) p) o ≡ cond b (Some v) (option_or p o)
    at_first true p = refl
    at_first false p = refl

pub get-with_all : (ks : List Key) (v : PureValue) (h : Heap) (q : Key) → get (with_all ks v h) q ≡ cond (is_among q ks) (Some v) (get h q)
get-with_all ks v h q =
    get-joined (from_entries (map (λ k. (k, v)) ks)) h q
    ∙ ap (λ o. option_or o (get h q)) (get-from_entries key_cmp-total (map (λ k. (k, v)) ks) q)
    ∙ find_all ks v q (get h q)

among_more : (ks : List Key) (i : ℕ) (k q : Key) → i < length ks → k ≡ get_or ks i k → is_among q (take (i + 1) ks) ≡ (is_among q (take i ks) || key_eq q k)
among_more ks i k q in_range is =
    list_any_more (key_eq q) ks i k in_range
    ∙ ap (λ x. is_among q (take i ks) || key_eq q x) (sym is)

-- ---- the steps of loops over keys

pub without_none : (h : Heap) → h ≡ without_keys [] h
without_none h = same_heap _ _ (λ q. sym (get-without_keys [] h q))

pub with_none : (v : PureValue) (h : Heap) → h ≡ with_all [] v h
with_none v h = same_heap _ _ (λ q. sym (get-with_all [] v h q))

pub without_more : (ks : List Key) (i : ℕ) (k : Key) (h g f : Heap) → i < length ks → k ≡ get_or ks i k → g ≡ without_keys (take i ks) h → f ≡ remove g k → f ≡ without_keys (take (i + 1) ks) h
without_more ks i k h g f in_range is before removed = removed ∙ ap (λ m. remove m k) before ∙ same_heap _ _ (λ q.
    get-remove key_cmp-total (without_keys (take i ks) h) k q
    ∙ ap (cond (key_eq q k) None) (get-without_keys (take i ks) h q)
    ∙ sym (either_last (is_among q (take i ks)) (key_eq q k) None (get h q))
    ∙ ap (λ b. cond b None (get h q)) (sym (among_more ks i k q in_range is))
    ∙ sym (get-without_keys (take (i + 1) ks) h q))

pub with_more : (ks : List Key) (i : ℕ) (k : Key) (v : PureValue) (h g f : Heap) → i < length ks → k ≡ get_or ks i k → g ≡ with_all (take i ks) v h → f ≡ insert g k v → f ≡ with_all (take (i + 1) ks) v h
with_more ks i k v h g f in_range is before added = added ∙ ap (λ m. insert m k v) before ∙ same_heap _ _ (λ q.
    get-insert key_cmp-total (with_all (take i ks) v h) k v q
    ∙ ap (cond (key_eq q k) (Some v)) (get-with_all (take i ks) v h q)
    ∙ sym (either_last (is_among q (take i ks)) (key_eq q k) (Some v) (get h q))
    ∙ ap (λ b. cond b (Some v) (get h q)) (sym (among_more ks i k q in_range is))
    ∙ sym (get-with_all (take (i + 1) ks) v h q))

-- ---- new keys taken back

none_there : (o : Option PureValue) → ¬ IsSome o → o ≡ None
none_there None lacks = refl
none_there (Some v) lacks = absurd (lacks refl)

taken_back : (b : Bool) (v : PureValue) (o : Option PureValue) → (b ≡ true → ¬ IsSome o) → cond b None (cond b (Some v) o) ≡ o
taken_back true v o lacks = sym (none_there o (lacks refl))
taken_back false v o lacks = refl

pub without_new : (ks : List Key) (v : PureValue) (h : Heap) → LacksAll h ks → without_keys ks (with_all ks v h) ≡ h
without_new ks v h lacks = same_heap _ _ (λ q.
    get-without_keys ks (with_all ks v h) q
    ∙ ap (cond (is_among q ks) None) (get-with_all ks v h q)
    ∙ taken_back (is_among q ks) v (get h q) (lacks q))

or_first : (b c : Bool) → b ≡ true → (b || c) ≡ true
or_first true c h = refl
or_first false c h = absurd (true≢false (sym h))

among_front : (ks : List Key) (i : ℕ) (q : Key) → is_among q (take i ks) ≡ true → is_among q ks ≡ true
among_front ks i q among =
    ap (is_among q) (sym (take-append-drop i ks))
    ∙ list_any-append (key_eq q) (take i ks) (drop i ks)
    ∙ or_first (is_among q (take i ks)) (is_among q (drop i ks)) among

pub lacks_front : (ks : List Key) (i : ℕ) (h : Heap) → LacksAll h ks → LacksAll h (take i ks)
lacks_front ks i h lacks q among = lacks q (among_front ks i q among)

-- ---- all keys of a location taken away

pub get-without_location : (l : ℕ) (h : Heap) (q : Key) → get (without_location l h) q ≡ cond (nat_eq q.loc l) None (get h q)
get-without_location l h q =
    get-retain_keys h (λ k. not (nat_eq k.loc l)) q (λ x tied. ap (λ k. not (nat_eq k.loc l)) (sym (key_cmp-IsAntisymmetric q x tied)))
    ∙ turned (nat_eq q.loc l) (get h q)

pub get-disposed : (l : ℕ) (h : Heap) (q : Key) → get (disposed l h) q ≡ cond (key_eq q (key l Gone)) (Some (boolean true)) (cond (nat_eq q.loc l) None (get h q))
get-disposed l h q =
    get-insert key_cmp-total (without_location l h) (key l Gone) (boolean true) q
    ∙ ap (cond (key_eq q (key l Gone)) (Some (boolean true))) (get-without_location l h q)

-- whether a key is the descriptor, a part, `Gone`, and of the location
settled : {X : Type 0} (d p g o : Bool) (t x : Option X) → (g ≡ true → (d || p) ≡ false) → ((d || p) ≡ true → o ≡ true) → (o ≡ true → (d || p) ≡ false → x ≡ None) → cond d None (cond p None (cond g t x)) ≡ cond g t (cond o None x)
settled true p true o t x apart own all = absurd (true≢false (apart refl))
settled true p false true t x apart own all = refl
settled true p false false t x apart own all = absurd (true≢false (sym (own refl)))
settled false true true o t x apart own all = absurd (true≢false (apart refl))
settled false true false true t x apart own all = refl
settled false true false false t x apart own all = absurd (true≢false (sym (own refl)))
settled false false true o t x apart own all = refl
settled false false false true t x apart own all = all refl refl
settled false false false false t x apart own all = refl

module _ (h : Heap) (l : ℕ) (d : Key) (parts : List Key) (whole : IsWhole h l d parts) where
  not_another : (q : Key) → nat_eq q.loc l ≡ true → is_among q (d ∷ parts) ≡ false → get h q ≡ None
  not_another q here other =
      let at_l : key l q.sub ≡ q = ap (λ m. key m q.sub) (sym ((Decides-eqb q.loc l).0 here)) in
      none_there (get h q) (λ has. true≢false (sym (subst (λ k. IsTrue (is_among k (d ∷ parts))) at_l (whole.all_keys q.sub (subst (λ k. HasKey h k) (sym at_l) has))) ∙ other))

  gone_apart : (q : Key) → key_eq q (key l Gone) ≡ true → is_among q (d ∷ parts) ≡ false
  gone_apart q same = ap (λ k. is_among k (d ∷ parts)) (tells_apart key_cmp-IsAntisymmetric q (key l Gone) same) ∙ whole.not_gone

  pub disposed_keys : remove (without_keys parts (insert h (key l Gone) (boolean true))) d ≡ disposed l h
  disposed_keys = same_heap _ _ (λ q.
      get-remove key_cmp-total (without_keys parts (insert h (key l Gone) (boolean true))) d q
      ∙ ap (cond (key_eq q d) None) (get-without_keys parts (insert h (key l Gone) (boolean true)) q ∙ ap (cond (is_among q parts) None) (get-insert key_cmp-total h (key l Gone) (boolean true) q))
      ∙ settled (key_eq q d) (is_among q parts) (key_eq q (key l Gone)) (nat_eq q.loc l) (Some (boolean true)) (get h q) (gone_apart q) (λ among. (Decides-eqb q.loc l).1 (whole.of_location q among)) (not_another q)
      ∙ sym (get-disposed l h q))
