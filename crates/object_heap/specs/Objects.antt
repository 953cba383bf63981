-- Changes of an object's list of names leave the heap well formed.
use Rattle.std.proofs.Common.{◌≡◌, ◌⊎◌, ⊎_elim, inl, inr, ℕ, ℤ, nat_eq, Bool, true, false, List, IsTrue, refl, sym, ap, subst, ◌∙◌, true≢false}
use Rattle.std.proofs.lemmas.Bool.Decides.{Decides-eqb}
use Rattle.std.specs.FinMap.{insert, remove}
use Rattle.gil_values.specs.Pure.{PureValue, integer}
use Rattle.mem_model.specs.declared.keys.Key.{Key}
use Rattle.mem_model.specs.declared.keys.Sub.{Sub}
use Rattle.mem_model.specs.declared.keys.Sub.TheVariants.{Name, At, Shape, Bound, Dom, Gone}
use Rattle.mem_model.specs.Keys.{key}
use Rattle.mem_model.specs.KeyOrder.{key_eq}
use Rattle.mem_model.specs.Names.{is_name_list, lists_name}
use Rattle.mem_model.specs.Heaps.{Heap, Holds, HasKey, HoldsNames, IsDescriptor, IsWellFormed}
use Rattle.mem_model.proofs.Joins.{value_at, has_key}
use Rattle.mem_model.proofs.Holding.{itself, held_inserted, held_removed}
use Rattle.object_heap.specs.Table.{appended, without_name}
use Rattle.object_heap.specs.NameLists.{appended_names, appended_lists, appended_lists_itself, without_names, without_lists}

-- a key that isn't the list of names of the location, nor a property of it
abbrev pub IsProperty : ℕ → Key → Type 0
IsProperty l q = (p : List ℕ) × (q ≡ key l (Name p))

-- the heap g is h, but for the properties of one object, whose names are those of another list
pub record IsRelisted (g h : Heap) (l : ℕ) (d : PureValue) : Type 0 where
  pub keys : (q : Key) → HasKey g q → HasKey h q ⊎ IsProperty l q
  pub values : (q : Key) (v : PureValue) → Holds g q v → Holds h q v ⊎ (((q ≡ key l Dom) × (v ≡ d)) ⊎ IsProperty l q)
  pub listed : (v : PureValue) → Holds g (key l Dom) v → v ≡ d
  pub names : (p : List ℕ) → HasKey g (key l (Name p)) → IsTrue (lists_name d p)

sub_of : (q k : Key) → q ≡ k → q.sub ≡ k.sub
sub_of q k same = ap (λ (m : Key). m.sub) same

loc_of : (q k : Key) → q ≡ k → q.loc ≡ k.loc
loc_of q k same = ap (λ (m : Key). m.loc) same

module _ (g h : Heap) (l : ℕ) (d : PureValue) (is : IsRelisted g h l d) (had : HasKey h (key l Dom))
    (is_list : IsTrue (is_name_list d)) (well : IsWellFormed h) where
  -- a value that is no property, and no list of names, is the old one
  old_value : (m : ℕ) (s : Sub) (v : PureValue) → ¬ (s ≡ Dom) → ((p : List ℕ) → ¬ (s ≡ Name p)) → Holds g (key m s) v → Holds h (key m s) v
  old_value m s v no_list no_name at = ⊎_elim (λ old. old)
      (λ new. ⊎_elim (λ list. absurd (no_list (sub_of (key m s) (key l Dom) list.0)))
      (λ property. absurd (no_name property.0 (sub_of (key m s) (key l (Name property.0)) property.1))) new)
      (is.values (key m s) v at)

  old_key : (m : ℕ) (s : Sub) → ((p : List ℕ) → ¬ (s ≡ Name p)) → HasKey g (key m s) → HasKey h (key m s)
  old_key m s no_name has =
      ⊎_elim (λ old. old) (λ property. absurd (no_name property.0 (sub_of (key m s) (key l (Name property.0)) property.1)))
      (is.keys (key m s) has)

  descriptor_no_name : (s : Sub) → IsDescriptor s → (p : List ℕ) → ¬ (s ≡ Name p)
  descriptor_no_name Shape of p same = absurd (cc)
  descriptor_no_name Bound of p same = absurd (cc)
  descriptor_no_name Dom of p same = absurd (cc)
  descriptor_no_name s of p same = absurd of

  names_no_name : (s : Sub) → HoldsNames s → (p : List ℕ) → ¬ (s ≡ Name p)
  names_no_name Shape of p same = absurd (cc)
  names_no_name Dom of p same = absurd (cc)
  names_no_name s of p same = absurd of

  names_descriptor : (s : Sub) → HoldsNames s → IsDescriptor s
  names_descriptor Shape of = tt
  names_descriptor Dom of = tt
  names_descriptor s of = absurd of

  gone_no_name : (p : List ℕ) → ¬ (Gone ≡ Name p)
  gone_no_name p same = absurd (cc)

  gone_no_list : ¬ (Gone ≡ Dom)
  gone_no_list same = absurd (cc)

  bound_no_name : (p : List ℕ) → ¬ (Bound ≡ Name p)
  bound_no_name p same = absurd (cc)

  bound_no_list : ¬ (Bound ≡ Dom)
  bound_no_list same = absurd (cc)

  cell_no_name : (i : ℤ) (p : List ℕ) → ¬ (At i ≡ Name p)
  cell_no_name i p same = absurd (cc)

  -- no location that has the list of names is gone
  not_gone : (m : ℕ) → m ≡ l → ¬ HasKey h (key m Gone)
  not_gone m here gone = gone_no_list (sym (well.gone_alone m Dom gone (subst (λ k. HasKey h (key k Dom)) (sym here) had)))

  -- where a list of names stands is the list, or it is the old one and no property of it is new
  list_at : (m : ℕ) (s : Sub) (e : PureValue) → HoldsNames s → Holds g (key m s) e → ((m ≡ l) × (e ≡ d)) ⊎ (Holds h (key m s) e × ¬ (m ≡ l))
  list_at m s e of at = ⊎_elim
      (λ old. by_location (nat_eq m l) refl old)
      (λ new. ⊎_elim (λ list. inl (
        loc_of (key m s) (key l Dom) list.0,
        list.1,
      )) (λ property. absurd (names_no_name s of property.0 (sub_of (key m s) (key l (Name property.0)) property.1))) new)
      (is.values (key m s) e at)
    where
      by_location : (b : Bool) → nat_eq m l ≡ b → Holds h (key m s) e → ((m ≡ l) × (e ≡ d)) ⊎ (Holds h (key m s) e × ¬ (m ≡ l))
      by_location true here old =
          let at_l : m ≡ l = (Decides-eqb m l).0 here in
          let s_is : s ≡ Dom =
          well.one_descriptor m s Dom (names_descriptor s of) tt (has_key h (key m s) e old)
          (subst (λ k. HasKey h (key k Dom)) (sym at_l) had) in
          inl (at_l, is.listed e (subst (λ k. Holds g k e) (λ i. key (at_l i) (s_is i)) at))
      by_location false away old = inr (old, λ here. true≢false (sym ((Decides-eqb m l).1 here) ∙ away))

  pub relisted_well_formed : IsWellFormed g
  relisted_well_formed = record {
    gone_alone = λ m s gone has.
        let old_gone : HasKey h (key m Gone) = old_key m Gone gone_no_name gone in
        ⊎_elim (well.gone_alone m s old_gone)
        (λ property. absurd (not_gone m (loc_of (key m s) (key l (Name property.0)) property.1) old_gone)) (is.keys (key m s) has);
    gone_is_true = λ m v at. well.gone_is_true m v (old_value m Gone v gone_no_list gone_no_name at);
    name_lists =
        λ m s e of at. ⊎_elim (λ new. subst (λ v. IsTrue (is_name_list v)) (sym new.1) is_list)
        (λ old. well.name_lists m s e of old.0) (list_at m s e of at);
    names_listed = λ m s e of at p has. ⊎_elim
        (λ new. subst (λ v. IsTrue (lists_name v p)) (sym new.1) (is.names p (subst (λ k. HasKey g (key k (Name p))) new.0 has)))
        (λ old. ⊎_elim (well.names_listed m s e of old.0 p)
        (λ property. absurd (old.1 (loc_of (key m (Name p)) (key l (Name property.0)) property.1))) (is.keys (key m (Name p)) has))
        (list_at m s e of at);
    bound_is_number = λ m v at. well.bound_is_number m v (old_value m Bound v bound_no_list bound_no_name at);
    cells_in_bound =
        λ m n i at has. well.cells_in_bound m n i (old_value m Bound (integer n) bound_no_list bound_no_name at)
        (old_key m (At i) (cell_no_name i) has);
    one_descriptor =
        λ m s t a b has also. well.one_descriptor m s t a b (old_key m s (descriptor_no_name s a) has)
        (old_key m t (descriptor_no_name t b) also);
  }

no_list_name : (l : ℕ) (p : List ℕ) → ¬ (key l (Name p) ≡ key l Dom)
no_list_name l p same = let subs : ◌≡◌ {A = Sub} (Name p) Dom = sub_of (key l (Name p)) (key l Dom) same in absurd (cc)

same_name : (l : ℕ) (p q : List ℕ) → key l (Name q) ≡ key l (Name p) → q ≡ p
same_name l p q same = let subs : ◌≡◌ {A = Sub} (Name q) (Name p) = sub_of (key l (Name q)) (key l (Name p)) same in cc

-- ---- a new property

module _ (h : Heap) (l : ℕ) (p : List ℕ) (v d : PureValue) (at : Holds h (key l Dom) d) (apart : lists_name d p ≡ false)
    (well : IsWellFormed h) where
  abbrev pub with_new : Heap
  with_new = insert (insert h (key l (Name p)) v) (key l Dom) (appended d p)

  pub held_new : (q : Key) (w : PureValue) → Holds with_new q w → Holds h q w
      ⊎ (((q ≡ key l Dom) × (w ≡ appended d p)) ⊎ ((q ≡ key l (Name p)) × (w ≡ v)))
  held_new q w is =
      ⊎_elim (λ list. inr (inl list))
      (λ below. ⊎_elim (λ new. inr (inr new)) (λ old. inl old.1) (held_inserted h (key l (Name p)) q v w below.1))
      (held_inserted (insert h (key l (Name p)) v) (key l Dom) q (appended d p) w is)

  is_names : IsTrue (is_name_list d)
  is_names = well.name_lists l Dom d tt at

  new_relisted : IsRelisted with_new h l (appended d p)
  new_relisted = record {
    keys = λ q has. let w =
        value_at with_new q has in
        ⊎_elim (λ old. inl (has_key h q w.0 old))
        (λ new. ⊎_elim (λ list. inl (subst (HasKey h) (sym list.0) (has_key h (key l Dom) d at))) (λ name. inr (
          p,
          name.0,
        )) new) (held_new q w.0 w.1);
    values = λ q w is. ⊎_elim inl (λ new. ⊎_elim (λ list. inr (inl list)) (λ name. inr (inr (p, name.0))) new) (held_new q w is);
    listed = λ w is. ⊎_elim (λ list. list.1) (λ below. absurd (true≢false (sym (itself (key l Dom))
        ∙ below.0))) (held_inserted (insert h (key l (Name p)) v) (key l Dom) (key l Dom) (appended d p) w is);
    names = λ q has. let w = value_at with_new (key l (Name q)) has in ⊎_elim
        (λ old. appended_lists d p q (well.names_listed l Dom d tt at q (has_key h (key l (Name q)) w.0 old)))
        (λ new. ⊎_elim (λ list. absurd (no_list_name l q list.0))
        (λ name. subst (λ r. IsTrue (lists_name (appended d p) r)) (sym (same_name l p q name.0))
        (appended_lists_itself d p is_names)) new)
        (held_new (key l (Name q)) w.0 w.1);
  }

  pub new_well_formed : IsWellFormed with_new
  new_well_formed =
      relisted_well_formed with_new h l (appended d p) new_relisted (has_key h (key l Dom) d at) (appended_names d p is_names apart) well

-- ---- a property taken away

module _ (h : Heap) (l : ℕ) (p : List ℕ) (d : PureValue) (at : Holds h (key l Dom) d) (well : IsWellFormed h) where
  abbrev pub with_less : Heap
  with_less = insert (remove h (key l (Name p))) (key l Dom) (without_name d p)

  pub held_less : (q : Key) (w : PureValue) → Holds with_less q w → ((q ≡ key l Dom) × (w ≡ without_name d p))
      ⊎ ((key_eq q (key l (Name p)) ≡ false) × Holds h q w)
  held_less q w is =
      ⊎_elim inl (λ below. inr (held_removed h (key l (Name p)) q w below.1))
      (held_inserted (remove h (key l (Name p))) (key l Dom) q (without_name d p) w is)

  less_relisted : IsRelisted with_less h l (without_name d p)
  less_relisted = record {
    keys = λ q has. let w =
        value_at with_less q has in
        ⊎_elim (λ list. inl (subst (HasKey h) (sym list.0) (has_key h (key l Dom) d at))) (λ old. inl (has_key h q w.0 old.1))
        (held_less q w.0 w.1);
    values = λ q w is. ⊎_elim (λ list. inr (inl list)) (λ old. inl old.1) (held_less q w is);
    listed = λ w is. ⊎_elim (λ list. list.1) (λ below. absurd (true≢false (sym (itself (key l Dom))
        ∙ below.0))) (held_inserted (remove h (key l (Name p))) (key l Dom) (key l Dom) (without_name d p) w is);
    names = λ q has. let w = value_at with_less (key l (Name q)) has in ⊎_elim
        (λ list. absurd (no_list_name l q list.0))
        (λ old. without_lists d p q (λ same. true≢false (sym (itself (key l (Name p)))
        ∙ subst (λ r. key_eq (key l (Name r)) (key l (Name p)) ≡ false) same old.0))
        (well.names_listed l Dom d tt at q (has_key h (key l (Name q)) w.0 old.1)))
        (held_less (key l (Name q)) w.0 w.1);
  }

  pub less_well_formed : IsWellFormed with_less
  less_well_formed =
      relisted_well_formed with_less h l (without_name d p) less_relisted (has_key h (key l Dom) d at)
      (without_names d p (well.name_lists l Dom d tt at)) well
