-- Which changes leave a heap well formed.
use Rattle.std.proofs.Common.{◌≡◌, ◌⊎◌, ⊎_elim, inl, inr, ℕ, ℤ, pos, ◌≤ℤ◌, ◌<ℤ◌, true, List, IsTrue, refl, sym, ap, subst, ◌∙◌}
use Rattle.std.specs.Bool.{⊤}
use Rattle.std.specs.FinMap.{insert, empty}
use Rattle.gil_values.specs.Pure.{PureValue, integer, boolean}
use Rattle.mem_model.specs.declared.keys.Key.{Key}
use Rattle.mem_model.specs.declared.keys.Sub.{Sub}
use Rattle.mem_model.specs.declared.keys.Sub.TheVariants.{Name, At, Shape, Bound, Dom, Proto, Gone}
use Rattle.mem_model.specs.declared.keys.MemoryName.{MemoryName}
use Rattle.mem_model.specs.Keys.{key}
use Rattle.mem_model.specs.Names.{is_name_list, lists_name}
use Rattle.mem_model.specs.Heaps.{Heap, Holds, HasKey, HoldsNames, IsDescriptor, IsWellFormed, IsHeapOf, IsDisjoint, joined}
use Rattle.mem_model.specs.Tables.{is_among, created}
use Rattle.mem_model.proofs.Joins.{value_at, has_key, join_holds_both}
use Rattle.mem_model.proofs.Parts.{no_key}
use Rattle.mem_model.proofs.Holding.{held_inserted, held_created, has_overwritten}

-- ---- a change of what is at properties, cells and prototypes

-- the subkeys at which a value of any kind stands
abbrev pub IsPlain : Sub → Type 0
IsPlain (Name p) = ⊤
IsPlain (At i) = ⊤
IsPlain Proto = ⊤
IsPlain _ = ⊥

names_not_plain : (s : Sub) → HoldsNames s → ¬ IsPlain s
names_not_plain Shape names = λ plain. plain
names_not_plain Dom names = λ plain. plain
names_not_plain s names = absurd names

-- a heap that has no other keys, and the same at keys that aren't plain
pub well_formed_as : (g h : Heap) → ((q : Key) → HasKey g q → HasKey h q) → ((l : ℕ) (s : Sub) (v : PureValue) → ¬ IsPlain s → Holds g (key l s) v → Holds h (key l s) v) → IsWellFormed h → IsWellFormed g
well_formed_as g h keys same well = record {
  gone_alone = λ l s gone has. well.gone_alone l s (keys (key l Gone) gone) (keys (key l s) has);
  gone_is_true = λ l v is. well.gone_is_true l v (same l Gone v (λ plain. plain) is);
  name_lists = λ l s d names is. well.name_lists l s d names (same l s d (names_not_plain s names) is);
  names_listed = λ l s d names is p has. well.names_listed l s d names (same l s d (names_not_plain s names) is) p (keys (key l (Name p)) has);
  bound_is_number = λ l v is. well.bound_is_number l v (same l Bound v (λ plain. plain) is);
  cells_in_bound = λ l n i is has. well.cells_in_bound l n i (same l Bound (integer n) (λ plain. plain) is) (keys (key l (At i)) has);
  one_descriptor = λ l s t a b has also. well.one_descriptor l s t a b (keys (key l s) has) (keys (key l t) also);
}

pub overwritten_well_formed : (h : Heap) (k : Key) (v : PureValue) → IsPlain k.sub → HasKey h k → IsWellFormed h → IsWellFormed (insert h k v)
overwritten_well_formed h k v plain there = well_formed_as (insert h k v) h (λ q. has_overwritten h k q v there) (λ l s w other is.
    ⊎_elim (λ put. absurd (other (subst (λ (q : Key). IsPlain q.sub) (sym put.0) plain))) (λ kept. kept.1) (held_inserted h k (key l s) v w is))

pub overwritten_heap : (memory : MemoryName) (h : Heap) (k : Key) (v : PureValue) → IsPlain k.sub → HasKey h k → IsHeapOf memory h → IsHeapOf memory (insert h k v)
overwritten_heap memory h k v plain there is = record {
  subkeys = λ q has. is.subkeys q (has_overwritten h k q v there has);
  well_formed = overwritten_well_formed h k v plain there is.well_formed;
}

-- ---- two heaps without a common location

abbrev pub AreApart : Heap → Heap → Type 0
AreApart g h = (k q : Key) → HasKey g k → HasKey h q → ¬ (k.loc ≡ q.loc)

pub apart_disjoint : (g h : Heap) → AreApart g h → IsDisjoint g h
apart_disjoint g h apart k in_g in_h = apart k k in_g in_h refl

-- the one of them that has a location
record Side (union : Heap) (l : ℕ) (s : Sub) (v : PureValue) : Type 0 where
  part : Heap
  well : IsWellFormed part
  here : Holds part (key l s) v
  others : (t : Sub) (w : PureValue) → Holds union (key l t) w → Holds part (key l t) w

module _ (g h : Heap) (apart : AreApart g h) (well_g : IsWellFormed g) (well_h : IsWellFormed h) where
  side : (l : ℕ) (s : Sub) (v : PureValue) → Holds (joined g h) (key l s) v → Side (joined g h) l s v
  side l s v is =
      let both = join_holds_both g h (apart_disjoint g h apart) in
      ⊎_elim
      (λ in_g. record {
        part = g;
        well = well_g;
        here = in_g;
        others = λ t w also. ⊎_elim (λ there. there) (λ there. absurd (apart (key l s) (key l t) (has_key g (key l s) v in_g) (has_key h (key l t) w there) refl)) (both.nothing_else (key l t) w also);
      })
      (λ in_h. record {
        part = h;
        well = well_h;
        here = in_h;
        others = λ t w also. ⊎_elim (λ there. absurd (apart (key l t) (key l s) (has_key g (key l t) w there) (has_key h (key l s) v in_h) refl)) (λ there. there) (both.nothing_else (key l t) w also);
      })
      (both.nothing_else (key l s) v is)

  has_other : (l : ℕ) (s t : Sub) (v : PureValue) (at : Side (joined g h) l s v) → HasKey (joined g h) (key l t) → HasKey at.part (key l t)
  has_other l s t v at has = let w = value_at (joined g h) (key l t) has in has_key at.part (key l t) w.0 (at.others t w.0 w.1)

  has_here : (l : ℕ) (s : Sub) (v : PureValue) (at : Side (joined g h) l s v) → HasKey at.part (key l s)
  has_here l s v at = has_key at.part (key l s) v at.here

  pub apart_well_formed : IsWellFormed (joined g h)
  apart_well_formed = record {
    gone_alone = λ l s gone has. let v = value_at (joined g h) (key l Gone) gone in let at = side l Gone v.0 v.1 in at.well.gone_alone l s (has_here l Gone v.0 at) (has_other l Gone s v.0 at has);
    gone_is_true = λ l v is. let at = side l Gone v is in at.well.gone_is_true l v at.here;
    name_lists = λ l s d names is. let at = side l s d is in at.well.name_lists l s d names at.here;
    names_listed = λ l s d names is p has. let at = side l s d is in at.well.names_listed l s d names at.here p (has_other l s (Name p) d at has);
    bound_is_number = λ l v is. let at = side l Bound v is in at.well.bound_is_number l v at.here;
    cells_in_bound = λ l n i is has. let at = side l Bound (integer n) is in at.well.cells_in_bound l n i at.here (has_other l Bound (At i) (integer n) at has);
    one_descriptor = λ l s t a b has also. let v = value_at (joined g h) (key l s) has in let at = side l s v.0 v.1 in at.well.one_descriptor l s t a b (has_here l s v.0 at) (has_other l s t v.0 at also);
  }

-- ---- a location that is made

-- what may stand at the key that says what a location is
abbrev pub HeadFits : Sub → PureValue → Type 0
HeadFits Shape d = IsTrue (is_name_list d)
HeadFits Dom d = IsTrue (is_name_list d)
HeadFits Bound d = (n : ℤ) × (d ≡ integer n)
HeadFits Gone d = d ≡ boolean true
HeadFits _ d = ⊥

abbrev pub IsWithin : PureValue → ℤ → Type 0
IsWithin (integer n) i = (pos 0 ≤ℤ i) × (i <ℤ n)
IsWithin _ i = ⊥

-- the keys that a location may have beside it
abbrev pub PartFits : Sub → PureValue → Sub → Type 0
PartFits Shape d (Name p) = IsTrue (lists_name d p)
PartFits Dom d (Name p) = IsTrue (lists_name d p)
PartFits Dom d Proto = ⊤
PartFits Bound d (At i) = IsWithin d i
PartFits _ d _ = ⊥

part_is_plain : (s t : Sub) (d : PureValue) → PartFits s d t → IsPlain t
part_is_plain Shape (Name p) d fits = tt
part_is_plain Dom (Name p) d fits = tt
part_is_plain Dom Proto d fits = tt
part_is_plain Bound (At i) d fits = tt
part_is_plain s t d fits = absurd fits

descriptor_not_plain : (s : Sub) → IsDescriptor s → ¬ IsPlain s
descriptor_not_plain Shape is = λ plain. plain
descriptor_not_plain Bound is = λ plain. plain
descriptor_not_plain Dom is = λ plain. plain
descriptor_not_plain s is = absurd is

name_fits : (s : Sub) (d : PureValue) (p : List ℕ) → PartFits s d (Name p) → IsTrue (lists_name d p)
name_fits Shape d p fits = fits
name_fits Dom d p fits = fits
name_fits s d p fits = absurd fits

head_names : (s : Sub) (d : PureValue) → HoldsNames s → HeadFits s d → IsTrue (is_name_list d)
head_names Shape d names fits = fits
head_names Dom d names fits = fits
head_names s d names fits = absurd names

module _ (l : ℕ) (s : Sub) (d : PureValue) (parts : List Key) (v : PureValue) (head : HeadFits s d) (fit : (q : Key) → IsTrue (is_among q parts) → (q.loc ≡ l) × PartFits s d q.sub) where
  abbrev pub made : Heap
  made = created (key l s) d parts v empty

  -- a key of it is the head, or one of the parts
  which : (q : Key) (w : PureValue) → Holds made q w → ((q ≡ key l s) × (w ≡ d)) ⊎ ((q.loc ≡ l) × PartFits s d q.sub)
  which q w is = ⊎_elim inl
      (λ part. inr (⊎_elim (λ among. fit q among.0) (λ none. absurd (no_key q (has_key empty q w none))) part))
      (held_created (key l s) d parts empty q v w is)

  which_key : (q : Key) → HasKey made q → (q ≡ key l s) ⊎ ((q.loc ≡ l) × PartFits s d q.sub)
  which_key q has = let w = value_at made q has in ⊎_elim (λ is. inl is.0) inr (which q w.0 w.1)

  -- at a subkey that isn't plain stands the head
  head_at : (m : ℕ) (t : Sub) (w : PureValue) → ¬ IsPlain t → Holds made (key m t) w → (t ≡ s) × (w ≡ d)
  head_at m t w other is = ⊎_elim (λ here. (ap (λ (q : Key). q.sub) here.0, here.1)) (λ part. absurd (other (part_is_plain s t d part.1))) (which (key m t) w is)

  head_of : (m : ℕ) (t : Sub) → ¬ IsPlain t → HasKey made (key m t) → t ≡ s
  head_of m t other has = let w = value_at made (key m t) has in (head_at m t w.0 other w.1).0

  bound_within : (n i : ℤ) → Bound ≡ s → integer n ≡ d → PartFits s d (At i) → (pos 0 ≤ℤ i) × (i <ℤ n)
  bound_within n i at_bound number fits = subst (λ e. IsWithin e i) (sym number) (subst (λ t. PartFits t d (At i)) (sym at_bound) fits)

  no_gone_part : (t : Sub) → Gone ≡ s → ¬ PartFits s d t
  no_gone_part t gone fits = subst (λ r. PartFits r d t) (sym gone) fits

  pub made_well_formed : IsWellFormed made
  made_well_formed = record {
    gone_alone = λ m t gone has.
        let is = head_of m Gone (λ plain. plain) gone in
        ⊎_elim (λ here. ap (λ (q : Key). q.sub) here ∙ sym is) (λ part. absurd (no_gone_part t is part.1)) (which_key (key m t) has);
    gone_is_true = λ m w is. let at = head_at m Gone w (λ plain. plain) is in at.1 ∙ subst (λ r. HeadFits r d) (sym at.0) head;
    name_lists = λ m t w names is. let at = head_at m t w (names_not_plain t names) is in subst (λ e. IsTrue (is_name_list e)) (sym at.1) (head_names t d names (subst (λ r. HeadFits r d) (sym at.0) head));
    names_listed = λ m t w names is p has.
        let at = head_at m t w (names_not_plain t names) is in
        ⊎_elim (λ here. absurd (names_not_name s p (subst HoldsNames at.0 names) (ap (λ (q : Key). q.sub) here)))
        (λ part. subst (λ e. IsTrue (lists_name e p)) (sym at.1) (name_fits s d p part.1)) (which_key (key m (Name p)) has);
    bound_is_number = λ m w is. let at = head_at m Bound w (λ plain. plain) is in subst (λ e. (n : ℤ) × (e ≡ integer n)) (sym at.1) (subst (λ r. HeadFits r d) (sym at.0) head);
    cells_in_bound = λ m n i is has.
        let at = head_at m Bound (integer n) (λ plain. plain) is in
        ⊎_elim (λ here. absurd (cell_not_bound i (ap (λ (q : Key). q.sub) here ∙ sym at.0))) (λ part. bound_within n i at.0 at.1 part.1) (which_key (key m (At i)) has);
    one_descriptor = λ m t u a b has also. head_of m t (descriptor_not_plain t a) has ∙ sym (head_of m u (descriptor_not_plain u b) also);
  }
    where
      names_not_name : (r : Sub) (p : List ℕ) → HoldsNames r → ¬ (Name p ≡ r)
      names_not_name Shape p names same = absurd (cc)
      names_not_name Dom p names same = absurd (cc)
      names_not_name r p names same = absurd names

      cell_not_bound : (i : ℤ) → ¬ (At i ≡ Bound)
      cell_not_bound i same = absurd (cc)
