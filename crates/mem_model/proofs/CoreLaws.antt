-- A heap with one key more.
use Rattle.std.proofs.Common.{◌≡◌, ◌⊎◌, ◌↔◌, ⊎_elim, inl, inr, ℕ, ◌+◌, ℤ, pos, ◌≤ℤ◌, ◌<ℤ◌, List, [], ◌∷◌, length, Option, Some, None, IsTrue, Bool, true, false, cond, true≢false, refl, sym, ap, subst, ◌∙◌}
use Rattle.std.specs.FinMap.{get, insert, remove, empty, get-insert, get-remove}
use Rattle.gil_values.specs.Pure.{PureValue, integer, symbol, text}
use Rattle.mem_model.specs.declared.cores.Core.{Core}
use Rattle.mem_model.specs.declared.keys.Key.{Key}
use Rattle.mem_model.specs.declared.keys.Sub.{Sub}
use Rattle.mem_model.specs.declared.keys.Sub.TheVariants.{Name, At, Shape, Bound, Dom, Proto, Gone}
use Rattle.mem_model.specs.declared.keys.MemoryName.{MemoryName}
use Rattle.mem_model.specs.declared.keys.MemoryName.TheVariants.{Record, Block, Object}
use Rattle.mem_model.specs.CoreNames.{core_of, core_name, ins_of, outs_of, has_core}
use Rattle.mem_model.specs.Cores.{entry_of, one_key, IsWithin, FitTogether, StandTogether, OneKeyMoreIsHeap, OneKeyMoreIsUnion, CoresStandForKeys}
use Rattle.mem_model.specs.Keys.{key, has_subkey}
use Rattle.mem_model.specs.KeyOrder.{key_eq, key_cmp-total}
use Rattle.mem_model.specs.Names.{lists_name}
use Rattle.mem_model.specs.Heaps.{Heap, Holds, HasKey, HoldsNames, IsDescriptor, IsWellFormed, IsHeapOf, IsPartOf, IsDisjoint, IsCompatible, joined}
use Rattle.mem_model.proofs.Compatible.{join_is_heap}
use Rattle.mem_model.proofs.Holding.{same_key, itself, held_removed, held_inserted, inserted_holds, inserted_keeps, different_keys, insert-joined}
use Rattle.mem_model.proofs.Joins.{same_heap, value_at, has_key, join_commutes, join_has_unit}
use Rattle.mem_model.proofs.Parts.{no_key, parts_are_heaps}

-- ---- what fits together, read from each rule

names_fit : (s : Sub) (d : PureValue) (p : List ℕ) (w : PureValue) → HoldsNames s → FitTogether s d (Name p) w → IsTrue (lists_name d p)
names_fit Shape d p w names fits = fits
names_fit Dom d p w names fits = fits
names_fit s d p w names fits = absurd names

names_fit_back : (s : Sub) (d : PureValue) (p : List ℕ) (w : PureValue) → HoldsNames s → FitTogether (Name p) w s d → IsTrue (lists_name d p)
names_fit_back Shape d p w names fits = fits
names_fit_back Dom d p w names fits = fits
names_fit_back s d p w names fits = absurd names

nothing_beside_gone : (s : Sub) (v w : PureValue) → ¬ FitTogether s v Gone w
nothing_beside_gone (Name p) v w fits = fits
nothing_beside_gone (At i) v w fits = fits
nothing_beside_gone Shape v w fits = fits
nothing_beside_gone Bound v w fits = fits
nothing_beside_gone Dom v w fits = fits
nothing_beside_gone Proto v w fits = fits
nothing_beside_gone Gone v w fits = fits

one_descriptor : (s t : Sub) (v w : PureValue) → IsDescriptor s → IsDescriptor t → ¬ FitTogether s v t w
one_descriptor Shape Shape v w a b fits = fits
one_descriptor Shape Bound v w a b fits = fits
one_descriptor Shape Dom v w a b fits = fits
one_descriptor Bound Shape v w a b fits = fits
one_descriptor Bound Bound v w a b fits = fits
one_descriptor Bound Dom v w a b fits = fits
one_descriptor Dom Shape v w a b fits = fits
one_descriptor Dom Bound v w a b fits = fits
one_descriptor Dom Dom v w a b fits = fits
one_descriptor Shape t v w a b fits = absurd b
one_descriptor Bound t v w a b fits = absurd b
one_descriptor Dom t v w a b fits = absurd b
one_descriptor s t v w a b fits = absurd a

-- ---- from the parts to the whole

module _ (h : Heap) (k : Key) (w : PureValue) (well : IsWellFormed h) (alone : IsWellFormed (one_key k w)) (together : (q : Key) (u : PureValue) → Holds h q u → StandTogether k w q u) where
  -- a key of the larger heap is the new one, or one of the old ones
  abbrev Origin : Key → PureValue → Type 0
  Origin q u = (q ≡ k × u ≡ w) ⊎ Holds h q u

  origin : (q : Key) (u : PureValue) → Holds (insert h k w) q u → Origin q u
  origin q u is = ⊎_elim inl (λ old. inr old.1) (held_inserted h k q w u is)

  alone_holds : (q : Key) (u : PureValue) → q ≡ k × u ≡ w → Holds (one_key k w) q u
  alone_holds q u same = subst (λ x. Holds (one_key k w) q x) (sym same.1) (subst (λ r. Holds (one_key k w) r w) (sym same.0) (inserted_holds empty k w))

  -- two keys of one location: both are the new one, both are old, or one of each, which fit together
  abbrev Pair : ℕ → Sub → PureValue → Sub → PureValue → Type 0
  Pair l s v t u =
      (Holds (one_key k w) (key l s) v × Holds (one_key k w) (key l t) u)
      ⊎ ((Holds h (key l s) v × Holds h (key l t) u) ⊎ (FitTogether s v t u ⊎ FitTogether t u s v))

  fits : (l : ℕ) (s t : Sub) (v u : PureValue) → key l s ≡ k × v ≡ w → Holds h (key l t) u → FitTogether s v t u
  fits l s t v u same old =
      subst (λ (r : Key). r.loc ≡ l → FitTogether r.sub v t u) (sym same.0)
      (subst (λ x. k.loc ≡ l → FitTogether k.sub x t u) (sym same.1) (together (key l t) u old)) refl

  pair : (l : ℕ) (s t : Sub) (v u : PureValue) → Holds (insert h k w) (key l s) v → Holds (insert h k w) (key l t) u → Pair l s v t u
  pair l s t v u first second =
      ⊎_elim
      (λ new. ⊎_elim
      (λ also. inl (alone_holds (key l s) v new, alone_holds (key l t) u also))
      (λ old. inr (inr (inl (fits l s t v u new old))))
      (origin (key l t) u second))
      (λ old. ⊎_elim
      (λ new. inr (inr (inr (fits l t s u v new old))))
      (λ also. inr (inl (old, also)))
      (origin (key l t) u second))
      (origin (key l s) v first)

  single : (q : Key) (u : PureValue) → Holds (insert h k w) q u → Holds (one_key k w) q u ⊎ Holds h q u
  single q u is = ⊎_elim (λ new. inl (alone_holds q u new)) inr (origin q u is)

  within : (l : ℕ) (n i : ℤ) (u : PureValue) → Pair l Bound (integer n) (At i) u → (pos 0 ≤ℤ i) × (i <ℤ n)
  within l n i u = ⊎_elim
      (λ one. alone.cells_in_bound l n i one.0 (has_key (one_key k w) (key l (At i)) u one.1))
      (⊎_elim (λ both. well.cells_in_bound l n i both.0 (has_key h (key l (At i)) u both.1)) (⊎_elim (λ f. f) (λ f. f)))

  pub whole_well_formed : IsWellFormed (insert h k w)
  whole_well_formed = record {
    gone_alone = λ l s gone has.
        let a = value_at (insert h k w) (key l Gone) gone in
        let b = value_at (insert h k w) (key l s) has in
        ⊎_elim
        (λ one. alone.gone_alone l s (has_key (one_key k w) (key l Gone) a.0 one.0) (has_key (one_key k w) (key l s) b.0 one.1))
        (⊎_elim
        (λ both. well.gone_alone l s (has_key h (key l Gone) a.0 both.0) (has_key h (key l s) b.0 both.1))
        (⊎_elim (λ f. absurd f) (λ f. absurd (nothing_beside_gone s b.0 a.0 f))))
        (pair l Gone s a.0 b.0 a.1 b.1);
    gone_is_true = λ l v is. ⊎_elim (alone.gone_is_true l v) (well.gone_is_true l v) (single (key l Gone) v is);
    name_lists = λ l s d names is. ⊎_elim (alone.name_lists l s d names) (well.name_lists l s d names) (single (key l s) d is);
    names_listed = λ l s d names is p has.
        let b = value_at (insert h k w) (key l (Name p)) has in
        ⊎_elim
        (λ one. alone.names_listed l s d names one.0 p (has_key (one_key k w) (key l (Name p)) b.0 one.1))
        (⊎_elim
        (λ both. well.names_listed l s d names both.0 p (has_key h (key l (Name p)) b.0 both.1))
        (⊎_elim (names_fit s d p b.0 names) (names_fit_back s d p b.0 names)))
        (pair l s (Name p) d b.0 is b.1);
    bound_is_number = λ l v is. ⊎_elim (alone.bound_is_number l v) (well.bound_is_number l v) (single (key l Bound) v is);
    cells_in_bound = λ l n i is has. let b = value_at (insert h k w) (key l (At i)) has in within l n i b.0 (pair l Bound (At i) (integer n) b.0 is b.1);
    one_descriptor = λ l s t a b has also.
        let x = value_at (insert h k w) (key l s) has in
        let y = value_at (insert h k w) (key l t) also in
        ⊎_elim
        (λ one. alone.one_descriptor l s t a b (has_key (one_key k w) (key l s) x.0 one.0) (has_key (one_key k w) (key l t) y.0 one.1))
        (⊎_elim
        (λ both. well.one_descriptor l s t a b (has_key h (key l s) x.0 both.0) (has_key h (key l t) y.0 both.1))
        (⊎_elim (λ f. absurd (one_descriptor s t x.0 y.0 a b f)) (λ f. absurd (one_descriptor t s y.0 x.0 b a f))))
        (pair l s t x.0 y.0 x.1 y.1);
  }

-- ---- from the whole to the parts

module _ (h : Heap) (k : Key) (w : PureValue) (lacks : ¬ HasKey h k) where
  old_part : IsPartOf h (insert h k w)
  old_part q u is = inserted_keeps h k q w u (different_keys q k (λ same. lacks (subst (HasKey h) same (has_key h q u is)))) is

  new_part : IsPartOf (one_key k w) (insert h k w)
  new_part q u is = ⊎_elim
      (λ same. subst (λ x. Holds (insert h k w) q x) (sym same.1) (subst (λ r. Holds (insert h k w) r w) (sym same.0) (inserted_holds h k w)))
      (λ none. absurd (no_key q (has_key empty q u none.1)))
      (held_inserted empty k q w u is)

  other_key : (l : ℕ) (s t : Sub) (u : PureValue) → key l s ≡ k → Holds h (key l t) u → ¬ (t ≡ s)
  other_key l s t u new old same = lacks (subst (HasKey h) (ap (key l) same ∙ new) (has_key h (key l t) u old))

module _ (h : Heap) (well : IsWellFormed h) where
  number_within : (v : PureValue) (i : ℤ) (l : ℕ) → Holds h (key l Bound) v → HasKey h (key l (At i)) → IsWithin v i
  number_within v i l is has =
      let n = well.bound_is_number l v is in
      subst (λ x. IsWithin x i) (sym n.1) (well.cells_in_bound l n.0 i (subst (λ x. Holds h (key l Bound) x) n.1 is) has)

  -- in a well-formed heap two different keys fit together
  pub fit_in : (l : ℕ) (s t : Sub) (v u : PureValue) → ¬ (s ≡ t) → Holds h (key l s) v → Holds h (key l t) u → FitTogether s v t u
  fit_in l s t v u other first second = cases s t other first second
    where
      has : (r : Sub) (x : PureValue) → Holds h (key l r) x → HasKey h (key l r)
      has r x is = has_key h (key l r) x is

      descriptors : (r q : Sub) → IsDescriptor r → IsDescriptor q → ¬ (r ≡ q) → Holds h (key l r) v → ¬ Holds h (key l q) u
      descriptors r q a b differ is also = differ (well.one_descriptor l r q a b (has r v is) (has q u also))

      cases : (r q : Sub) → ¬ (r ≡ q) → Holds h (key l r) v → Holds h (key l q) u → FitTogether r v q u
      cases Gone q differ is also = differ (sym (well.gone_alone l q (has Gone v is) (has q u also)))
      cases (Name p) Gone differ is also = differ (well.gone_alone l (Name p) (has Gone u also) (has (Name p) v is))
      cases (Name p) Shape differ is also = well.names_listed l Shape u tt also p (has (Name p) v is)
      cases (Name p) Dom differ is also = well.names_listed l Dom u tt also p (has (Name p) v is)
      cases (Name p) (Name q) differ is also = tt
      cases (Name p) (At i) differ is also = tt
      cases (Name p) Bound differ is also = tt
      cases (Name p) Proto differ is also = tt
      cases (At i) Gone differ is also = differ (well.gone_alone l (At i) (has Gone u also) (has (At i) v is))
      cases (At i) Bound differ is also = number_within u i l also (has (At i) v is)
      cases (At i) (Name p) differ is also = tt
      cases (At i) (At j) differ is also = tt
      cases (At i) Shape differ is also = tt
      cases (At i) Dom differ is also = tt
      cases (At i) Proto differ is also = tt
      cases Shape (Name p) differ is also = well.names_listed l Shape v tt is p (has (Name p) u also)
      cases Shape (At i) differ is also = tt
      cases Shape Proto differ is also = tt
      cases Shape Shape differ is also = differ refl
      cases Shape Bound differ is also = descriptors Shape Bound tt tt differ is also
      cases Shape Dom differ is also = descriptors Shape Dom tt tt differ is also
      cases Shape Gone differ is also = differ (well.gone_alone l Shape (has Gone u also) (has Shape v is))
      cases Bound (Name p) differ is also = tt
      cases Bound (At i) differ is also = number_within v i l is (has (At i) u also)
      cases Bound Proto differ is also = tt
      cases Bound Shape differ is also = descriptors Bound Shape tt tt differ is also
      cases Bound Bound differ is also = differ refl
      cases Bound Dom differ is also = descriptors Bound Dom tt tt differ is also
      cases Bound Gone differ is also = differ (well.gone_alone l Bound (has Gone u also) (has Bound v is))
      cases Dom (Name p) differ is also = well.names_listed l Dom v tt is p (has (Name p) u also)
      cases Dom (At i) differ is also = tt
      cases Dom Proto differ is also = tt
      cases Dom Shape differ is also = descriptors Dom Shape tt tt differ is also
      cases Dom Bound differ is also = descriptors Dom Bound tt tt differ is also
      cases Dom Dom differ is also = differ refl
      cases Dom Gone differ is also = differ (well.gone_alone l Dom (has Gone u also) (has Dom v is))
      cases Proto Gone differ is also = differ (well.gone_alone l Proto (has Gone u also) (has Proto v is))
      cases Proto (Name p) differ is also = tt
      cases Proto (At i) differ is also = tt
      cases Proto Shape differ is also = tt
      cases Proto Bound differ is also = tt
      cases Proto Dom differ is also = tt
      cases Proto Proto differ is also = tt

module _ (memory : MemoryName) (h : Heap) (k : Key) (w : PureValue) (lacks : ¬ HasKey h k) where
  together_in : IsHeapOf memory (insert h k w) → (q : Key) (u : PureValue) → Holds h q u → StandTogether k w q u
  together_in is q u old here =
      fit_in (insert h k w) is.well_formed k.loc k.sub q.sub w u
      (λ same. lacks (subst (HasKey h) (sym (whole_key same)) (has_key h q u old)))
      (inserted_holds h k w)
      (subst (λ l. Holds (insert h k w) (key l q.sub) u) (sym here) (old_part h k w lacks q u old))
    where
      whole_key : k.sub ≡ q.sub → k ≡ q
      whole_key same = (λ i. key (here i) (same i))

  subkeys_of : IsHeapOf memory h → IsHeapOf memory (one_key k w) → (q : Key) → HasKey (insert h k w) q → IsTrue (has_subkey memory q.sub)
  subkeys_of is alone q has =
      let at = value_at (insert h k w) q has in
      ⊎_elim
      (λ same. subst (λ (r : Key). IsTrue (has_subkey memory r.sub)) (sym same.0) (alone.subkeys k (has_key (one_key k w) k w (inserted_holds empty k w))))
      (λ old. is.subkeys q (has_key h q at.0 old.1))
      (held_inserted h k q w at.0 at.1)

  pub one_key_more : IsHeapOf memory (insert h k w)
      ↔ (IsHeapOf memory h × IsHeapOf memory (one_key k w) × ((q : Key) (u : PureValue) → Holds h q u → StandTogether k w q u))
  one_key_more = (
    (λ is. (parts_are_heaps memory h (insert h k w) (old_part h k w lacks) is, parts_are_heaps memory (one_key k w) (insert h k w) (new_part h k w lacks) is, together_in is)),
    (λ parts. record {
      subkeys = subkeys_of parts.0 parts.1;
      well_formed = whole_well_formed h k w parts.0.well_formed parts.1.well_formed parts.2;
    }),
  )

pub one_key_more_is_heap : OneKeyMoreIsHeap
one_key_more_is_heap memory h k w lacks = one_key_more memory h k w lacks

-- ---- the union

apart : (h : Heap) (k : Key) (w : PureValue) → ¬ HasKey h k → IsDisjoint h (one_key k w)
apart h k w lacks q in_h in_one =
    let at = value_at (one_key k w) q in_one in
    ⊎_elim (λ same. lacks (subst (HasKey h) same.0 in_h)) (λ none. no_key q (has_key empty q at.0 none.1)) (held_inserted empty k q w at.0 at.1)

union_with : (h : Heap) (k : Key) (w : PureValue) → ¬ HasKey h k → insert h k w ≡ joined h (one_key k w)
union_with h k w lacks =
    ap (λ g. insert g k w) (sym (join_has_unit h).0)
    ∙ insert-joined empty h k w
    ∙ sym (join_commutes h (one_key k w) (apart h k w lacks))

lacks_key : (h : Heap) (k : Key) (w : PureValue) → IsCompatible h (one_key k w) → ¬ HasKey h k
lacks_key h k w c has = c.disjoint k has (has_key (one_key k w) k w (inserted_holds empty k w))

put_again : {X : Type 0} (b : Bool) (w : X) (o : Option X) → (b ≡ true → o ≡ Some w) → cond b (Some w) (cond b None o) ≡ o
put_again true w o is = sym (is refl)
put_again false w o is = refl

taken_out : (h : Heap) (k : Key) (w : PureValue) → Holds h k w → ¬ HasKey (remove h k) k × (insert (remove h k) k w ≡ h)
taken_out h k w is = (
  (λ has. let at = value_at (remove h k) k has in true≢false (sym (itself k) ∙ (held_removed h k k at.0 at.1).0)),
  same_heap _ _ (λ q.
      get-insert key_cmp-total (remove h k) k w q
      ∙ ap (cond (key_eq q k) (Some w)) (get-remove key_cmp-total h k q)
      ∙ put_again (key_eq q k) w (get h q) (λ tied. ap (get h) (same_key q k tied) ∙ is)),
)

pub one_key_more_is_union : OneKeyMoreIsUnion
one_key_more_is_union memory h k w = record {
  union = union_with h k w;
  compatible = λ lacks is. record { disjoint = apart h k w lacks; union_well_formed = subst IsWellFormed (union_with h k w lacks) is.well_formed };
  is_heap = λ is alone c. subst (IsHeapOf memory) (sym (union_with h k w (lacks_key h k w c))) (join_is_heap memory h (one_key k w) is alone c);
  lacks = lacks_key h k w;
  taken = taken_out h k w;
}

-- ---- core predicates

no_entry : {X : Type 0} {P : Type 0} (x : X) → None ≡ Some x → P
no_entry x is = absurd (cc)

same_some : {X : Type 0} {x y : X} → Some x ≡ Some y → x ≡ y
same_some is = cc

same_entry : {k q : Key} {w u : PureValue} → ◌≡◌ {A = Option (Key × PureValue)} (Some (k, w)) (Some (q, u)) → k ≡ q
same_entry is = ap (λ (e : Key × PureValue). e.0) (same_some is)

pub numbers : (core : Core) (ws : List PureValue) (k : Key) (w : PureValue) → entry_of core ws ≡ Some (k, w) → length ws ≡ ins_of core + outs_of core
numbers Core.Prop (symbol l ∷ text p ∷ v ∷ []) k w is = refl
numbers Core.Cell (symbol l ∷ integer i ∷ v ∷ []) k w is = refl
numbers Core.Shape (symbol l ∷ d ∷ []) k w is = refl
numbers Core.Bound (symbol l ∷ n ∷ []) k w is = refl
numbers Core.Dom (symbol l ∷ d ∷ []) k w is = refl
numbers Core.Proto (symbol l ∷ v ∷ []) k w is = refl
numbers Core.Gone (symbol l ∷ []) k w is = refl
numbers core ws k w is = no_entry (k, w) is

abbrev form_of : Core → Sub → Type 0
form_of Core.Prop s = (p : List ℕ) × (s ≡ Name p)
form_of Core.Cell s = (i : ℤ) × (s ≡ At i)
form_of Core.Shape s = s ≡ Shape
form_of Core.Bound s = s ≡ Bound
form_of Core.Dom s = s ≡ Dom
form_of Core.Proto s = s ≡ Proto
form_of Core.Gone s = s ≡ Gone

sub_of_entry : {s : Sub} {l : ℕ} {w u : PureValue} (k : Key) → ◌≡◌ {A = Option (Key × PureValue)} (Some (key l s, w)) (Some (k, u)) → k.sub ≡ s
sub_of_entry k is = ap (λ (q : Key). q.sub) (sym (same_entry is))

form : (core : Core) (ws : List PureValue) (k : Key) (w : PureValue) → entry_of core ws ≡ Some (k, w) → form_of core k.sub
form Core.Prop (symbol l ∷ text p ∷ v ∷ []) k w is = (p, sub_of_entry k is)
form Core.Cell (symbol l ∷ integer i ∷ v ∷ []) k w is = (i, sub_of_entry k is)
form Core.Shape (symbol l ∷ d ∷ []) k w is = sub_of_entry k is
form Core.Bound (symbol l ∷ n ∷ []) k w is = sub_of_entry k is
form Core.Dom (symbol l ∷ d ∷ []) k w is = sub_of_entry k is
form Core.Proto (symbol l ∷ v ∷ []) k w is = sub_of_entry k is
form Core.Gone (symbol l ∷ []) k w is = sub_of_entry k is
form core ws k w is = no_entry (k, w) is

of_name : (memory : MemoryName) (p : List ℕ) → has_core memory Core.Prop ≡ has_subkey memory (Name p)
of_name Record p = refl
of_name Block p = refl
of_name Object p = refl

of_cell : (memory : MemoryName) (i : ℤ) → has_core memory Core.Cell ≡ has_subkey memory (At i)
of_cell Record i = refl
of_cell Block i = refl
of_cell Object i = refl

of_form : (memory : MemoryName) (core : Core) (s : Sub) → form_of core s → has_core memory core ≡ has_subkey memory s
of_form memory Core.Prop s is = of_name memory is.0 ∙ ap (has_subkey memory) (sym is.1)
of_form memory Core.Cell s is = of_cell memory is.0 ∙ ap (has_subkey memory) (sym is.1)
of_form Record Core.Shape s is = ap (has_subkey Record) (sym is)
of_form Record Core.Bound s is = ap (has_subkey Record) (sym is)
of_form Record Core.Dom s is = ap (has_subkey Record) (sym is)
of_form Record Core.Proto s is = ap (has_subkey Record) (sym is)
of_form Record Core.Gone s is = ap (has_subkey Record) (sym is)
of_form Block Core.Shape s is = ap (has_subkey Block) (sym is)
of_form Block Core.Bound s is = ap (has_subkey Block) (sym is)
of_form Block Core.Dom s is = ap (has_subkey Block) (sym is)
of_form Block Core.Proto s is = ap (has_subkey Block) (sym is)
of_form Block Core.Gone s is = ap (has_subkey Block) (sym is)
of_form Object Core.Shape s is = ap (has_subkey Object) (sym is)
of_form Object Core.Bound s is = ap (has_subkey Object) (sym is)
of_form Object Core.Dom s is = ap (has_subkey Object) (sym is)
of_form Object Core.Proto s is = ap (has_subkey Object) (sym is)
of_form Object Core.Gone s is = ap (has_subkey Object) (sym is)

found : (core : Core) → core_of (core_name core) ≡ Some core
found Core.Prop = refl
found Core.Cell = refl
found Core.Shape = refl
found Core.Bound = refl
found Core.Dom = refl
found Core.Proto = refl
found Core.Gone = refl

pub cores_stand_for_keys : CoresStandForKeys
cores_stand_for_keys core = record {
  named = found core;
  numbers = numbers core;
  memories = λ memory ws k w is. of_form memory core k.sub (form core ws k w is);
}
