-- The actions of objects keep the laws of memories.
use Rattle.std.proofs.Common.{◌≡◌, ⊎_elim, inl, inr, ℕ, Bool, true, false, if◌then◌else◌, List, [], ◌∷◌, Option, Some, None, Ok, IsTrue, refl, sym, ap, subst, ◌∙◌, true≢false}
use Rattle.std.specs.FinMap.{insert, remove}
use Rattle.gil_values.specs.Pure.{PureValue, symbol, kind, boolean, list, no_values}
use Rattle.gil_values.specs.Symbols.{OccursIn, OccursAmong}
use Rattle.gil_values.specs.declared.kinds.Kind.TheVariants.{Undef, Null}
use Rattle.mem_model.specs.declared.keys.Key.{Key}
use Rattle.mem_model.specs.declared.keys.Sub.{Sub}
use Rattle.mem_model.specs.declared.keys.Sub.TheVariants.{Name, Dom, Proto}
use Rattle.mem_model.specs.declared.keys.MemoryName.TheVariants.{Object}
use Rattle.mem_model.specs.declared.failures.Failure.{Failure}
use Rattle.mem_model.specs.Keys.{key, has_subkey}
use Rattle.mem_model.specs.KeyOrder.{key_eq}
use Rattle.mem_model.specs.Names.{lists_name}
use Rattle.mem_model.specs.Heaps.{Heap, Holds, HasKey, IsWellFormed, IsHeapOf, IsCompatible, joined, OccursInHeap}
use Rattle.mem_model.specs.Actions.{ActionResult, IsMemory, MissesWhatLacks}
use Rattle.mem_model.specs.Arguments.{one_of, two_of, symbol_of, location_in, property_in, property_and_value_in}
use Rattle.mem_model.specs.Tables.{does, misses, at, unlisted_at, is_among}
use Rattle.mem_model.proofs.Joins.{value_at, has_key}
use Rattle.mem_model.proofs.Compatible.{join_is_heap, first_part}
use Rattle.mem_model.proofs.Parts.{part_well_formed}
use Rattle.mem_model.proofs.Holding.{same_key, held_inserted, has_overwritten, insert-joined, remove-joined}
use Rattle.mem_model.proofs.Formed.{PartFits, IsPlain, overwritten_heap, overwritten_well_formed}
use Rattle.mem_model.proofs.NameKeys.{or_of}
use Rattle.mem_model.proofs.ArgumentSymbols.{then_ok, same_ok, one_symbols, first_symbols, second_symbols, location_occurs, property_occurs, property_and_value_occur, symbol_alone, symbol_is, symbol_itself}
use Rattle.mem_model.proofs.Making.{new_location, keeps_creates, same_creates}
use Rattle.mem_model.proofs.Cases.{Keeps, IsAllowed, ChangesWhenDone, IsSameWhenSettled, at_cases, unlisted_cases, read_cases, at_both, unlisted_both, read_both, keeps_fails, keeps_misses, keeps_tells, keeps_does, allowed_held, allowed_in, same_fails, same_tells, same_misses, same_does, none_contained, in_union, rest_in_union, held_in_union}
use Rattle.object_heap.specs.declared.actions.ObjectAction.{ObjectAction}
use Rattle.object_heap.specs.declared.actions.ObjectAction.TheVariants.{New, Get, Set, Delete, Has, GetProto, SetProto}
use Rattle.object_heap.specs.Names.{action_of}
use Rattle.object_heap.specs.Table.{prototype_of, prototype_in, location_and_prototype_in, appended, without_name, new, get_property, set_property, delete_property, has_property, get_prototype, set_prototype, act_of, object_actions}
use Rattle.object_heap.specs.NameLists.{no_symbol_in_names, appended_names, without_names}
use Rattle.object_heap.specs.Objects.{held_new, new_well_formed, held_less, less_well_formed}

-- the new symbol isn't in the heap
abbrev IsNew : Option ℕ → Heap → Type 0
IsNew fresh h = (n : ℕ) → fresh ≡ Some n → ¬ OccursInHeap n h

-- ---- what is read

prototype_is : (a v : PureValue) → prototype_of a ≡ Ok v → a ≡ v
prototype_is (symbol l) v is = same_ok (symbol l) v is
prototype_is (kind Null) v is = same_ok (kind Null) v is
prototype_is a v is = absurd (cc)

prototype_occurs : (args : List PureValue) (v : PureValue) → prototype_in args ≡ Ok v → (n : ℕ) → OccursIn n v → OccursAmong n args
prototype_occurs args v is n occurs =
    let a = then_ok (one_of args) prototype_of v is in
    one_symbols args a.0 a.1 n (subst (OccursIn n) (sym (prototype_is a.0 v a.2)) occurs)

location_and_prototype_occur : (args : List PureValue) (l : ℕ) (v : PureValue) → location_and_prototype_in args ≡ Ok (l, v)
    → OccursAmong l args × ((n : ℕ) → OccursIn n v → OccursAmong n args)
location_and_prototype_occur args l v is =
    let ab = then_ok (two_of args) _ (l, v) is in
    let m = then_ok (symbol_of ab.0.0) _ (l, v) ab.2 in
    let w = then_ok (prototype_of ab.0.1) _ (l, v) m.2 in
    let both = same_ok (m.0, w.0) (l, v) w.2 in
    let same : m.0 ≡ l = ap (λ (r : ℕ × PureValue). r.0) both in
    let value : w.0 ≡ v = ap (λ (r : ℕ × PureValue). r.1) both in (
      first_symbols args ab.0.0 ab.0.1 ab.1 l (subst (OccursIn l) (sym (symbol_is ab.0.0 l (m.1 ∙ ap Ok same))) (symbol_itself l)),
      λ n occurs. second_symbols args ab.0.0 ab.0.1 ab.1 n (subst (OccursIn n) (sym (prototype_is ab.0.1 w.0 w.1 ∙ value)) occurs),
    )

-- ---- the parts of a new object

proto_fits : (l : ℕ) (q : Key) → IsTrue (is_among q (key l Proto ∷ [])) → (q.loc ≡ l) × PartFits Dom (list no_values) q.sub
proto_fits l q among =
    let same : q ≡ key l Proto =
    ⊎_elim (same_key q (key l Proto)) (λ none. absurd (true≢false (sym none))) (or_of (key_eq q (key l Proto)) false among) in
    (ap (λ (k : Key). k.loc) same, subst (λ (k : Key). PartFits Dom (list no_values) k.sub) (sym same) tt)

proto_own : (l : ℕ) (q : Key) → IsTrue (is_among q (key l Proto ∷ [])) → IsTrue (has_subkey Object q.sub)
proto_own l q among =
    let same : q ≡ key l Proto =
    ⊎_elim (same_key q (key l Proto)) (λ none. absurd (true≢false (sym none))) (or_of (key_eq q (key l Proto)) false among) in
    subst (λ (k : Key). IsTrue (has_subkey Object k.sub)) (sym same) refl

-- ---- no invention, and a heap stays a heap

module _ (fresh : Option ℕ) (args : List PureValue) (h : Heap) (is : IsHeapOf Object h) where
  abbrev Kept : ActionResult → Type 0
  Kept = Keeps Object fresh args h

  among_arguments : (n : ℕ) → OccursAmong n args → IsAllowed fresh args h n
  among_arguments n occurs = inr (inl occurs)

  keeps_truth : (b : Bool) → Kept (does (boolean b) h)
  keeps_truth b = keeps_tells Object fresh args h (boolean b) is (λ n occurs. absurd (none_contained n occurs))

  keeps_new : (v : PureValue) → IsNew fresh h → prototype_in args ≡ Ok v → Kept (new fresh v h)
  keeps_new v is_new read = by_symbol fresh refl
    where
      by_symbol : (f : Option ℕ) → fresh ≡ f → Kept (new f v h)
      by_symbol None none = keeps_fails Object fresh args h Failure.Action is
      by_symbol (Some l) some =
          keeps_creates l Dom (list no_values) (key l Proto ∷ []) v refl (proto_fits l) Object fresh args h (symbol l) refl (proto_own l)
          (new_location fresh l h some is_new) is (inl some)
          (λ n occurs. absurd (none_contained n occurs))
          (λ n occurs. among_arguments n (prototype_occurs args v read n occurs))
          (λ n occurs. inl (some ∙ ap Some (symbol_alone l n occurs)))

  keeps_missed : (l : ℕ) (s : Sub) → IsTrue (has_subkey Object s) → OccursAmong l args → ¬ HasKey h (key l s) → Kept (misses (key l s) h)
  keeps_missed l s own occurs lacks = keeps_misses Object fresh args h (key l s) is (among_arguments l occurs) lacks own

  -- a value in the place of another, at a property or a prototype
  keeps_overwrites : (l : ℕ) (s : Sub) (v w : PureValue) → IsPlain s → OccursAmong l args
      → ((n : ℕ) → OccursIn n v → OccursAmong n args) → Holds h (key l s) w → Kept (does v (insert h (key l s) v))
  keeps_overwrites l s v w plain occurs of_value held = keeps_does Object fresh args h v (insert h (key l s) v)
      (overwritten_heap Object h (key l s) v plain (has_key h (key l s) w held) is)
      (λ n in_value. among_arguments n (of_value n in_value))
      (allowed_in Object fresh args h (insert h (key l s) v) (λ q u at_q. ⊎_elim
      (λ put. inr (
        subst (λ (k : Key). IsAllowed fresh args h k.loc) (sym put.0) (among_arguments l occurs),
        λ n in_value. among_arguments n (of_value n (subst (OccursIn n) put.1 in_value)),
      ))
      (λ kept. inl kept.1)
      (held_inserted h (key l s) q v u at_q)))

  keeps_get : (l : ℕ) (p : List ℕ) → OccursAmong l args → Kept (get_property l p h)
  keeps_get l p occurs =
      at_cases Kept h (key l (Name p)) (λ v. does v h) (unlisted_at h (key l Dom) p (λ _. does (kind Undef) h) (misses (key l (Name p)) h))
      (λ v held. keeps_tells Object fresh args h v is (allowed_held Object fresh args h (key l (Name p)) v held))
      (λ lacks. unlisted_cases Kept h (key l Dom) p (λ _. does (kind Undef) h) (misses (key l (Name p)) h)
      (λ d dom apart. keeps_tells Object fresh args h (kind Undef) is (λ n in_value. absurd (none_contained n in_value)))
      (keeps_missed l (Name p) refl occurs lacks))

  keeps_set : (l : ℕ) (p : List ℕ) (v : PureValue) → OccursAmong l args → ((n : ℕ) → OccursIn n v → OccursAmong n args)
      → Kept (set_property l p v h)
  keeps_set l p v occurs of_value =
      at_cases Kept h (key l (Name p)) (λ _. does v (insert h (key l (Name p)) v))
      (unlisted_at h (key l Dom) p (λ d. does v (insert (insert h (key l (Name p)) v) (key l Dom) (appended d p)))
      (misses (key l (Name p)) h))
      (λ w held. keeps_overwrites l (Name p) v w tt occurs of_value held)
      (λ lacks. unlisted_cases Kept h (key l Dom) p
      (λ d. does v (insert (insert h (key l (Name p)) v) (key l Dom) (appended d p))) (misses (key l (Name p)) h)
      (λ d dom apart. keeps_does Object fresh args h v (insert (insert h (key l (Name p)) v) (key l Dom) (appended d p))
      (record {
        subkeys = λ q has. let w =
            value_at (insert (insert h (key l (Name p)) v) (key l Dom) (appended d p)) q has in
            ⊎_elim (λ old. is.subkeys q (has_key h q w.0 old))
            (λ fresh_key. ⊎_elim (λ listed. subst (λ (k : Key). IsTrue (has_subkey Object k.sub)) (sym listed.0) refl)
            (λ name. subst (λ (k : Key). IsTrue (has_subkey Object k.sub)) (sym name.0) refl) fresh_key)
            (held_new h l p v d dom apart is.well_formed q w.0 w.1);
        well_formed = new_well_formed h l p v d dom apart is.well_formed;
      })
      (λ n in_value. among_arguments n (of_value n in_value))
      (allowed_in Object fresh args h (insert (insert h (key l (Name p)) v) (key l Dom) (appended d p)) (λ q w at_q. ⊎_elim inl
      (λ fresh_key. ⊎_elim
      (λ listed. inr (
        subst (λ (k : Key). IsAllowed fresh args h k.loc) (sym listed.0) (among_arguments l occurs),
        λ n in_value. absurd
            (no_symbol_in_names (appended d p) (appended_names d p (is.well_formed.name_lists l Dom d tt dom) apart) n
            (subst (OccursIn n) listed.1 in_value)),
      ))
      (λ name. inr (
        subst (λ (k : Key). IsAllowed fresh args h k.loc) (sym name.0) (among_arguments l occurs),
        λ n in_value. among_arguments n (of_value n (subst (OccursIn n) name.1 in_value)),
      ))
      fresh_key)
      (held_new h l p v d dom apart is.well_formed q w at_q))))
      (keeps_missed l (Name p) refl occurs lacks))

  keeps_takes : (l : ℕ) (p : List ℕ) (d : PureValue) → OccursAmong l args → Holds h (key l Dom) d
      → Kept (does (boolean true) (insert (remove h (key l (Name p))) (key l Dom) (without_name d p)))
  keeps_takes l p d occurs dom =
      keeps_does Object fresh args h (boolean true) (insert (remove h (key l (Name p))) (key l Dom) (without_name d p))
      (record {
        subkeys = λ q has. let w =
            value_at (insert (remove h (key l (Name p))) (key l Dom) (without_name d p)) q has in
            ⊎_elim (λ listed. subst (λ (k : Key). IsTrue (has_subkey Object k.sub)) (sym listed.0) refl)
            (λ old. is.subkeys q (has_key h q w.0 old.1)) (held_less h l p d dom is.well_formed q w.0 w.1);
        well_formed = less_well_formed h l p d dom is.well_formed;
      })
      (λ n in_value. absurd (none_contained n in_value))
      (allowed_in Object fresh args h (insert (remove h (key l (Name p))) (key l Dom) (without_name d p)) (λ q w at_q. ⊎_elim
      (λ listed. inr (
        subst (λ (k : Key). IsAllowed fresh args h k.loc) (sym listed.0) (among_arguments l occurs),
        λ n in_value. absurd
            (no_symbol_in_names (without_name d p) (without_names d p (is.well_formed.name_lists l Dom d tt dom)) n
            (subst (OccursIn n) listed.1 in_value)),
      ))
      (λ old. inl old.1)
      (held_less h l p d dom is.well_formed q w at_q)))

  if_kept : (b : Bool) (r s : ActionResult) → Kept r → Kept s → Kept (if b then r else s)
  if_kept true r s first second = first
  if_kept false r s first second = second

  keeps_delete : (l : ℕ) (p : List ℕ) → OccursAmong l args → Kept (delete_property l p h)
  keeps_delete l p occurs =
      at_cases Kept h (key l Dom)
      (λ d. if lists_name d p then at h (key l (Name p))
      (λ _. does (boolean true) (insert (remove h (key l (Name p))) (key l Dom) (without_name d p))) (misses (key l (Name p)) h)
      else does (boolean true) h) (misses (key l Dom) h)
      (λ d dom. if_kept (lists_name d p) _ (does (boolean true) h)
      (at_cases Kept h (key l (Name p))
      (λ _. does (boolean true) (insert (remove h (key l (Name p))) (key l Dom) (without_name d p))) (misses (key l (Name p)) h)
      (λ w held. keeps_takes l p d occurs dom)
      (keeps_missed l (Name p) refl occurs))
      (keeps_truth true))
      (keeps_missed l Dom refl occurs)

  keeps_has : (l : ℕ) (p : List ℕ) → OccursAmong l args → Kept (has_property l p h)
  keeps_has l p occurs =
      at_cases Kept h (key l (Name p)) (λ _. does (boolean true) h)
      (at h (key l Dom) (λ d. does (boolean (lists_name d p)) h) (misses (key l (Name p)) h))
      (λ v held. keeps_truth true)
      (λ lacks. at_cases Kept h (key l Dom) (λ d. does (boolean (lists_name d p)) h) (misses (key l (Name p)) h)
      (λ d dom. keeps_truth (lists_name d p)) (λ no. keeps_missed l (Name p) refl occurs lacks))

  keeps_get_prototype : (l : ℕ) → OccursAmong l args → Kept (get_prototype l h)
  keeps_get_prototype l occurs = at_cases Kept h (key l Proto) (λ v. does v h) (misses (key l Proto) h)
      (λ v held. keeps_tells Object fresh args h v is (allowed_held Object fresh args h (key l Proto) v held))
      (keeps_missed l Proto refl occurs)

  keeps_set_prototype : (l : ℕ) (v : PureValue) → OccursAmong l args → ((n : ℕ) → OccursIn n v → OccursAmong n args)
      → Kept (set_prototype l v h)
  keeps_set_prototype l v occurs of_value = at_cases Kept h (key l Proto) (λ _. does v (insert h (key l Proto) v)) (misses (key l Proto) h)
      (λ w held. keeps_overwrites l Proto v w tt occurs of_value held)
      (keeps_missed l Proto refl occurs)

  pub keeps_act : (a : Option ObjectAction) → IsNew fresh h → Kept (act_of a fresh args h)
  keeps_act None is_new = keeps_fails Object fresh args h Failure.Action is
  keeps_act (Some New) is_new =
      read_cases Kept (prototype_in args) (λ v. new fresh v h) h (λ v read. keeps_new v is_new read)
      (λ e. keeps_fails Object fresh args h e is)
  keeps_act (Some Get) is_new =
      read_cases Kept (property_in args) (λ (l, p). get_property l p h) h
      (λ r read. keeps_get r.0 r.1 (property_occurs args r.0 r.1 read)) (λ e. keeps_fails Object fresh args h e is)
  keeps_act (Some Set) is_new = read_cases Kept (property_and_value_in args) (λ (l, p, v). set_property l p v h) h
      (λ r read. let occur = property_and_value_occur args r.0 r.1 r.2 read in
      keeps_set r.0 r.1 r.2 occur.0 occur.1) (λ e. keeps_fails Object fresh args h e is)
  keeps_act (Some Delete) is_new =
      read_cases Kept (property_in args) (λ (l, p). delete_property l p h) h
      (λ r read. keeps_delete r.0 r.1 (property_occurs args r.0 r.1 read)) (λ e. keeps_fails Object fresh args h e is)
  keeps_act (Some Has) is_new =
      read_cases Kept (property_in args) (λ (l, p). has_property l p h) h
      (λ r read. keeps_has r.0 r.1 (property_occurs args r.0 r.1 read)) (λ e. keeps_fails Object fresh args h e is)
  keeps_act (Some GetProto) is_new =
      read_cases Kept (location_in args) (λ l. get_prototype l h) h
      (λ l read. keeps_get_prototype l (location_occurs args l read)) (λ e. keeps_fails Object fresh args h e is)
  keeps_act (Some SetProto) is_new = read_cases Kept (location_and_prototype_in args) (λ (l, v). set_prototype l v h) h
      (λ r read. let occur = location_and_prototype_occur args r.0 r.1 read in
      keeps_set_prototype r.0 r.1 occur.0 occur.1) (λ e. keeps_fails Object fresh args h e is)

-- ---- only what is done changes the heap

module _ (fresh : Option ℕ) (args : List PureValue) (h : Heap) where
  abbrev Unchanged : ActionResult → Type 0
  Unchanged = ChangesWhenDone h

  done_or_missed : (k : Key) (f : PureValue → ActionResult) (r : ActionResult) → ((v : PureValue) → Unchanged (f v)) → Unchanged r
      → Unchanged (at h k f r)
  done_or_missed k f r there missing = at_cases Unchanged h k f r (λ v held. there v) (λ lacks. missing)

  if_unchanged : (b : Bool) (r s : ActionResult) → Unchanged r → Unchanged s → Unchanged (if b then r else s)
  if_unchanged true r s first second = first
  if_unchanged false r s first second = second

  changes_new : (f : Option ℕ) (v : PureValue) → Unchanged (new f v h)
  changes_new (Some l) v undone = absurd (undone tt)
  changes_new None v undone = refl

  changes_get : (l : ℕ) (p : List ℕ) → Unchanged (get_property l p h)
  changes_get l p =
      done_or_missed (key l (Name p)) _ _ (λ v undone. refl)
      (unlisted_cases Unchanged h (key l Dom) p _ _ (λ d dom apart undone. refl) (λ undone. refl))

  changes_set : (l : ℕ) (p : List ℕ) (v : PureValue) → Unchanged (set_property l p v h)
  changes_set l p v =
      done_or_missed (key l (Name p)) _ _ (λ w undone. absurd (undone tt))
      (unlisted_cases Unchanged h (key l Dom) p _ _ (λ d dom apart undone. absurd (undone tt)) (λ undone. refl))

  changes_delete : (l : ℕ) (p : List ℕ) → Unchanged (delete_property l p h)
  changes_delete l p =
      done_or_missed (key l Dom) _ _
      (λ d. if_unchanged (lists_name d p) _ _
      (done_or_missed (key l (Name p)) _ _ (λ w undone. absurd (undone tt)) (λ undone. refl)) (λ undone. refl)) (λ undone. refl)

  changes_has : (l : ℕ) (p : List ℕ) → Unchanged (has_property l p h)
  changes_has l p =
      done_or_missed (key l (Name p)) _ _ (λ v undone. refl) (done_or_missed (key l Dom) _ _ (λ d undone. refl) (λ undone. refl))

  pub changes_act : (a : Option ObjectAction) → Unchanged (act_of a fresh args h)
  changes_act None = λ undone. refl
  changes_act (Some New) =
      read_cases Unchanged (prototype_in args) (λ v. new fresh v h) h (λ v read. changes_new fresh v) (λ e undone. refl)
  changes_act (Some Get) =
      read_cases Unchanged (property_in args) (λ (l, p). get_property l p h) h (λ r read. changes_get r.0 r.1) (λ e undone. refl)
  changes_act (Some Set) =
      read_cases Unchanged (property_and_value_in args) (λ (l, p, v). set_property l p v h) h (λ r read. changes_set r.0 r.1 r.2)
      (λ e undone. refl)
  changes_act (Some Delete) =
      read_cases Unchanged (property_in args) (λ (l, p). delete_property l p h) h (λ r read. changes_delete r.0 r.1) (λ e undone. refl)
  changes_act (Some Has) =
      read_cases Unchanged (property_in args) (λ (l, p). has_property l p h) h (λ r read. changes_has r.0 r.1) (λ e undone. refl)
  changes_act (Some GetProto) =
      read_cases Unchanged (location_in args) (λ l. get_prototype l h) h
      (λ l read. done_or_missed (key l Proto) _ _ (λ v undone. refl) (λ undone. refl)) (λ e undone. refl)
  changes_act (Some SetProto) =
      read_cases Unchanged (location_and_prototype_in args) (λ (l, v). set_prototype l v h) h
      (λ r read. done_or_missed (key r.0 Proto) _ _ (λ v undone. absurd (undone tt)) (λ undone. refl)) (λ e undone. refl)

-- ---- locality

module _ (h rest : Heap) (compatible : IsCompatible h rest) (is : IsHeapOf Object (joined h rest)) where
  abbrev Same : ActionResult → ActionResult → Type 0
  Same = IsSameWhenSettled rest

  abbrev whole : Heap
  whole = joined h rest

  same_new : (f : Option ℕ) (v : PureValue) → IsNew f whole → Same (new f v h) (new f v whole)
  same_new None v is_new = same_fails Failure.Action h rest compatible
  same_new (Some l) v is_new =
      same_creates l Dom (list no_values) (key l Proto ∷ []) v refl (proto_fits l) (symbol l) h rest compatible
      (new_location (Some l) l whole refl is_new)

  -- where the rest has a property, the list of names has its name
  listed_there : (l : ℕ) (p : List ℕ) (d v : PureValue) → Holds h (key l Dom) d → Holds rest (key l (Name p)) v → lists_name d p ≡ true
  listed_there l p d v dom there =
      is.well_formed.names_listed l Dom d tt (held_in_union h rest compatible (key l Dom) d dom) p
      (rest_in_union h rest compatible (key l (Name p)) (has_key rest (key l (Name p)) v there))

  away : (l : ℕ) (p : List ℕ) (d : PureValue) → Holds h (key l Dom) d → lists_name d p ≡ false → ¬ HasKey rest (key l (Name p))
  away l p d dom apart has = let v = value_at rest (key l (Name p)) has in true≢false (sym (listed_there l p d v.0 dom v.1) ∙ apart)

  -- the rest has the property, so that the heap misses it
  same_unlisted_there : (l : ℕ) (p : List ℕ) (v : PureValue) (f : PureValue → ActionResult) (large : ActionResult)
      → Holds rest (key l (Name p)) v → Same (unlisted_at h (key l Dom) p f (misses (key l (Name p)) h)) large
  same_unlisted_there l p v f large there = unlisted_cases (λ r. Same r large) h (key l Dom) p f (misses (key l (Name p)) h)
      (λ d dom apart. absurd (true≢false (sym (listed_there l p d v dom there) ∙ apart)))
      (same_misses (key l (Name p)) h rest large)

  same_overwrites : (l : ℕ) (s : Sub) (v w : PureValue) → IsPlain s → Holds h (key l s) w
      → Same (does v (insert h (key l s) v)) (does v (insert whole (key l s) v))
  same_overwrites l s v w plain held =
      let there : HasKey h (key l s) = has_key h (key l s) w held in
      same_does v (insert h (key l s) v) rest (insert whole (key l s) v)
      (insert-joined h rest (key l s) v)
      (λ q has in_rest. compatible.disjoint q (has_overwritten h (key l s) q v there has) in_rest)
      (overwritten_well_formed whole (key l s) v plain (in_union h rest compatible (key l s) there) is.well_formed)

  same_get : (l : ℕ) (p : List ℕ) → Same (get_property l p h) (get_property l p whole)
  same_get l p =
      at_both Same h rest (key l (Name p)) (λ v. does v h)
      (unlisted_at h (key l Dom) p (λ _. does (kind Undef) h) (misses (key l (Name p)) h)) (λ v. does v whole)
      (unlisted_at whole (key l Dom) p (λ _. does (kind Undef) whole) (misses (key l (Name p)) whole))
      (λ v held. same_tells v h rest compatible)
      (λ no no_there. unlisted_both Same h rest (key l Dom) p (λ _. does (kind Undef) h) (misses (key l (Name p)) h)
      (λ _. does (kind Undef) whole) (misses (key l (Name p)) whole)
      (λ d dom. same_tells (kind Undef) h rest compatible)
      (same_misses (key l (Name p)) h rest))
      (λ v no there. same_unlisted_there l p v _ (does v whole) there)

  -- a name added, where the rest lacks it
  same_adds : (l : ℕ) (p : List ℕ) (v d : PureValue) → Holds h (key l Dom) d → lists_name d p ≡ false
      → Same (does v (insert (insert h (key l (Name p)) v) (key l Dom) (appended d p)))
      (does v (insert (insert whole (key l (Name p)) v) (key l Dom) (appended d p)))
  same_adds l p v d dom apart =
      same_does v (insert (insert h (key l (Name p)) v) (key l Dom) (appended d p)) rest
      (insert (insert whole (key l (Name p)) v) (key l Dom) (appended d p))
      (ap (λ g. insert g (key l Dom) (appended d p)) (insert-joined h rest (key l (Name p)) v)
      ∙ insert-joined (insert h (key l (Name p)) v) rest (key l Dom) (appended d p))
      (λ q has in_rest.
      let w = value_at (insert (insert h (key l (Name p)) v) (key l Dom) (appended d p)) q has in
      ⊎_elim (λ old. compatible.disjoint q (has_key h q w.0 old) in_rest)
      (λ new_key. ⊎_elim
      (λ listed. compatible.disjoint (key l Dom) (has_key h (key l Dom) d dom) (subst (HasKey rest) listed.0 in_rest))
      (λ name. away l p d dom apart (subst (HasKey rest) name.0 in_rest)) new_key)
      (held_new h l p v d dom apart small_well q w.0 w.1))
      (new_well_formed whole l p v d (held_in_union h rest compatible (key l Dom) d dom) apart is.well_formed)
    where
      small_well : IsWellFormed h
      small_well = part_well_formed h whole (first_part h rest compatible.disjoint) is.well_formed

  same_set : (l : ℕ) (p : List ℕ) (v : PureValue) → Same (set_property l p v h) (set_property l p v whole)
  same_set l p v =
      at_both Same h rest (key l (Name p)) (λ _. does v (insert h (key l (Name p)) v))
      (unlisted_at h (key l Dom) p (λ d. does v (insert (insert h (key l (Name p)) v) (key l Dom) (appended d p)))
      (misses (key l (Name p)) h)) (λ _. does v (insert whole (key l (Name p)) v))
      (unlisted_at whole (key l Dom) p (λ d. does v (insert (insert whole (key l (Name p)) v) (key l Dom) (appended d p)))
      (misses (key l (Name p)) whole))
      (λ w held. same_overwrites l (Name p) v w tt held)
      (λ no no_there. at_both Same h rest (key l Dom) _ (misses (key l (Name p)) h) _ (misses (key l (Name p)) whole)
      (λ d dom. by_name d dom (lists_name d p) refl)
      (λ lacks lacks_there. same_misses (key l (Name p)) h rest (misses (key l (Name p)) whole))
      (λ d lacks there. same_misses (key l (Name p)) h rest _))
      (λ w no there. same_unlisted_there l p w _ (does v (insert whole (key l (Name p)) v)) there)
    where
      by_name : (d : PureValue) → Holds h (key l Dom) d → (b : Bool) → lists_name d p ≡ b
          → Same (if b then misses (key l (Name p)) h else does v
          (insert (insert h (key l (Name p)) v) (key l Dom) (appended d p)))
          (if b then misses (key l (Name p)) whole else does v (insert (insert whole (key l (Name p)) v) (key l Dom) (appended d p)))
      by_name d dom true listed = same_misses (key l (Name p)) h rest (misses (key l (Name p)) whole)
      by_name d dom false apart = same_adds l p v d dom apart

  same_takes : (l : ℕ) (p : List ℕ) (d w : PureValue) → Holds h (key l Dom) d → Holds h (key l (Name p)) w
      → Same (does (boolean true) (insert (remove h (key l (Name p))) (key l Dom) (without_name d p)))
      (does (boolean true) (insert (remove whole (key l (Name p))) (key l Dom) (without_name d p)))
  same_takes l p d w dom held =
      same_does (boolean true) (insert (remove h (key l (Name p))) (key l Dom) (without_name d p)) rest
      (insert (remove whole (key l (Name p))) (key l Dom) (without_name d p))
      (ap (λ g. insert g (key l Dom) (without_name d p))
      (remove-joined h rest (key l (Name p)) (compatible.disjoint (key l (Name p)) (has_key h (key l (Name p)) w held)))
      ∙ insert-joined (remove h (key l (Name p))) rest (key l Dom) (without_name d p))
      (λ q has in_rest.
      let u = value_at (insert (remove h (key l (Name p))) (key l Dom) (without_name d p)) q has in
      ⊎_elim (λ listed. compatible.disjoint (key l Dom) (has_key h (key l Dom) d dom) (subst (HasKey rest) listed.0 in_rest))
      (λ old. compatible.disjoint q (has_key h q u.0 old.1) in_rest)
      (held_less h l p d dom (part_well_formed h whole (first_part h rest compatible.disjoint) is.well_formed) q u.0 u.1))
      (less_well_formed whole l p d (held_in_union h rest compatible (key l Dom) d dom) is.well_formed)

  if_same : (b : Bool) (r s t u : ActionResult) → Same r t → Same s u → Same (if b then r else s) (if b then t else u)
  if_same true r s t u first second = first
  if_same false r s t u first second = second

  same_delete : (l : ℕ) (p : List ℕ) → Same (delete_property l p h) (delete_property l p whole)
  same_delete l p = at_both Same h rest (key l Dom) _ (misses (key l Dom) h) _ (misses (key l Dom) whole)
      (λ d dom. if_same (lists_name d p) _ (does (boolean true) h) _ (does (boolean true) whole)
      (at_both Same h rest (key l (Name p)) _ (misses (key l (Name p)) h) _ (misses (key l (Name p)) whole)
      (λ w held. same_takes l p d w dom held)
      (λ no no_there. same_misses (key l (Name p)) h rest (misses (key l (Name p)) whole))
      (λ w no there. same_misses (key l (Name p)) h rest _))
      (same_tells (boolean true) h rest compatible))
      (λ no no_there. same_misses (key l Dom) h rest (misses (key l Dom) whole))
      (λ d no there. same_misses (key l Dom) h rest _)

  same_has : (l : ℕ) (p : List ℕ) → Same (has_property l p h) (has_property l p whole)
  same_has l p =
      at_both Same h rest (key l (Name p)) (λ _. does (boolean true) h)
      (at h (key l Dom) (λ d. does (boolean (lists_name d p)) h) (misses (key l (Name p)) h)) (λ _. does (boolean true) whole)
      (at whole (key l Dom) (λ d. does (boolean (lists_name d p)) whole) (misses (key l (Name p)) whole))
      (λ v held. same_tells (boolean true) h rest compatible)
      (λ no no_there. at_both Same h rest (key l Dom) (λ d. does (boolean (lists_name d p)) h) (misses (key l (Name p)) h)
      (λ d. does (boolean (lists_name d p)) whole) (misses (key l (Name p)) whole)
      (λ d dom. same_tells (boolean (lists_name d p)) h rest compatible)
      (λ lacks lacks_there. same_misses (key l (Name p)) h rest (misses (key l (Name p)) whole))
      (λ d lacks there. same_misses (key l (Name p)) h rest (does (boolean (lists_name d p)) whole)))
      (λ v no there. at_cases (λ r. Same r (does (boolean true) whole)) h (key l Dom) (λ d. does (boolean (lists_name d p)) h)
      (misses (key l (Name p)) h)
      (λ d dom. subst (λ b. Same (does (boolean b) h) (does (boolean true) whole)) (sym (listed_there l p d v dom there))
      (same_tells (boolean true) h rest compatible))
      (λ lacks. same_misses (key l (Name p)) h rest (does (boolean true) whole)))

  same_get_prototype : (l : ℕ) → Same (get_prototype l h) (get_prototype l whole)
  same_get_prototype l =
      at_both Same h rest (key l Proto) (λ v. does v h) (misses (key l Proto) h) (λ v. does v whole) (misses (key l Proto) whole)
      (λ v held. same_tells v h rest compatible)
      (λ no no_there. same_misses (key l Proto) h rest (misses (key l Proto) whole))
      (λ v no there. same_misses (key l Proto) h rest (does v whole))

  same_set_prototype : (l : ℕ) (v : PureValue) → Same (set_prototype l v h) (set_prototype l v whole)
  same_set_prototype l v =
      at_both Same h rest (key l Proto) (λ _. does v (insert h (key l Proto) v)) (misses (key l Proto) h)
      (λ _. does v (insert whole (key l Proto) v)) (misses (key l Proto) whole)
      (λ w held. same_overwrites l Proto v w tt held)
      (λ no no_there. same_misses (key l Proto) h rest (misses (key l Proto) whole))
      (λ w no there. same_misses (key l Proto) h rest (does v (insert whole (key l Proto) v)))

  pub same_act : (a : Option ObjectAction) (fresh : Option ℕ) (args : List PureValue) → IsNew fresh whole
      → Same (act_of a fresh args h) (act_of a fresh args whole)
  same_act None fresh args is_new = same_fails Failure.Action h rest compatible
  same_act (Some New) fresh args is_new =
      read_both Same (prototype_in args) (λ v. new fresh v h) h (λ v. new fresh v whole) whole (λ v read. same_new fresh v is_new)
      (λ e. same_fails e h rest compatible)
  same_act (Some Get) fresh args is_new =
      read_both Same (property_in args) (λ (l, p). get_property l p h) h (λ (l, p). get_property l p whole) whole
      (λ r read. same_get r.0 r.1) (λ e. same_fails e h rest compatible)
  same_act (Some Set) fresh args is_new =
      read_both Same (property_and_value_in args) (λ (l, p, v). set_property l p v h) h (λ (l, p, v). set_property l p v whole)
      whole (λ r read. same_set r.0 r.1 r.2) (λ e. same_fails e h rest compatible)
  same_act (Some Delete) fresh args is_new =
      read_both Same (property_in args) (λ (l, p). delete_property l p h) h (λ (l, p). delete_property l p whole) whole
      (λ r read. same_delete r.0 r.1) (λ e. same_fails e h rest compatible)
  same_act (Some Has) fresh args is_new =
      read_both Same (property_in args) (λ (l, p). has_property l p h) h (λ (l, p). has_property l p whole) whole
      (λ r read. same_has r.0 r.1) (λ e. same_fails e h rest compatible)
  same_act (Some GetProto) fresh args is_new =
      read_both Same (location_in args) (λ l. get_prototype l h) h (λ l. get_prototype l whole) whole
      (λ l read. same_get_prototype l) (λ e. same_fails e h rest compatible)
  same_act (Some SetProto) fresh args is_new =
      read_both Same (location_and_prototype_in args) (λ (l, v). set_prototype l v h) h (λ (l, v). set_prototype l v whole) whole
      (λ r read. same_set_prototype r.0 r.1) (λ e. same_fails e h rest compatible)

-- ---- the laws

pub object_is_memory : IsMemory Object object_actions
object_is_memory = record {
  locality = λ action fresh args h rest is is_rest compatible may settled. same_act h rest compatible
      (join_is_heap Object h rest is is_rest compatible) (action_of action) fresh args may.new_in_heap settled;
  no_invention = λ action fresh args h is may n occurs. (keeps_act fresh args h is (action_of action) may.new_in_heap).invents n occurs;
  keeps_heaps = λ action fresh args h is may. (keeps_act fresh args h is (action_of action) may.new_in_heap).is_heap;
  changes_only_when_done = λ action fresh args h. changes_act fresh args h (action_of action);
}

pub object_misses_what_lacks : MissesWhatLacks Object object_actions
object_misses_what_lacks action fresh args h k is may missed = (keeps_act fresh args h is (action_of action) may.new_in_heap).lacks k missed
