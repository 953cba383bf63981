-- The actions of records keep the laws of memories.
use Rattle.std.proofs.Common.{◌≡◌, ⊎_elim, inl, inr, ℕ, Bool, true, false, if◌then◌else◌, List, Option, Some, None, Result, Ok, Err, IsTrue, refl, sym, ap, subst, ◌∙◌, true≢false}
use Rattle.std.specs.FinMap.{insert}
use Rattle.gil_values.specs.Pure.{PureValue, symbol, kind}
use Rattle.gil_values.specs.Symbols.{OccursIn, OccursAmong}
use Rattle.gil_values.specs.declared.kinds.Kind.TheVariants.{Null}
use Rattle.mem_model.specs.declared.keys.Key.{Key}
use Rattle.mem_model.specs.declared.keys.Sub.TheVariants.{Name, Shape, Gone}
use Rattle.mem_model.specs.declared.keys.MemoryName.TheVariants.{Record}
use Rattle.mem_model.specs.declared.failures.Failure.{Failure}
use Rattle.mem_model.specs.Keys.{key}
use Rattle.mem_model.specs.Names.{is_name_list}
use Rattle.mem_model.specs.Heaps.{Heap, Holds, HasKey, IsHeapOf, IsCompatible, joined, OccursInHeap}
use Rattle.mem_model.specs.Actions.{ActionResult, IsMemory, MissesWhatLacks}
use Rattle.mem_model.specs.Arguments.{one_of, location_in, property_in, property_and_value_in}
use Rattle.mem_model.specs.Tables.{does, fails, misses, at, unlisted_at, names_of, name_keys, dispose_whole}
use Rattle.mem_model.proofs.Joins.{has_key}
use Rattle.mem_model.proofs.Compatible.{join_is_heap}
use Rattle.mem_model.proofs.Holding.{held_inserted, has_overwritten, insert-joined}
use Rattle.mem_model.proofs.Formed.{overwritten_heap, overwritten_well_formed}
use Rattle.mem_model.proofs.ArgumentSymbols.{then_ok, same_ok, one_symbols, location_occurs, property_occurs, property_and_value_occur, symbol_alone}
use Rattle.mem_model.proofs.Making.{new_location, keeps_creates, same_creates}
use Rattle.mem_model.proofs.Disposing.{keeps_disposes, changes_disposes, same_disposes}
use Rattle.mem_model.proofs.Cases.{Keeps, IsAllowed, ChangesWhenDone, IsSameWhenSettled, at_cases, unlisted_cases, read_cases, at_both, unlisted_both, read_both, keeps_fails, keeps_misses, keeps_tells, keeps_does, allowed_held, allowed_in, same_fails, same_tells, same_misses, same_does, none_contained, in_union, rest_in_union, held_in_union, gone_apart, gone_there}
use Rattle.record_heap.specs.declared.actions.RecordAction.{RecordAction}
use Rattle.record_heap.specs.declared.actions.RecordAction.TheVariants.{New, Lookup, Mutate, Dispose}
use Rattle.record_heap.specs.Names.{action_of}
use Rattle.record_heap.specs.Table.{name_list_of, name_list_in, new, no_property, lookup, mutate, dispose, act_of, record_actions}
use Rattle.record_heap.specs.Records.{names_fit, names_own, record_whole}

-- the new symbol isn't in the heap
abbrev IsNew : Option ℕ → Heap → Type 0
IsNew fresh h = (n : ℕ) → fresh ≡ Some n → ¬ OccursInHeap n h

list_read : (v d : PureValue) → name_list_of v ≡ Ok d → IsTrue (is_name_list d) × (v ≡ d)
list_read v d is = by_test (is_name_list v) refl is
  where
    by_test : (b : Bool) → is_name_list v ≡ b → ◌≡◌ {A = Result PureValue Failure} (if b then Ok v else Err Failure.Kind) (Ok d)
        → IsTrue (is_name_list d) × (v ≡ d)
    by_test true test read = let same : v ≡ d = same_ok v d read in (subst (λ w. IsTrue (is_name_list w)) same test, same)
    by_test false test read = absurd (cc)

names_argument : (args : List PureValue) (d : PureValue) → name_list_in args ≡ Ok d → IsTrue (is_name_list d)
    × ((n : ℕ) → OccursIn n d → OccursAmong n args)
names_argument args d is =
    let v = then_ok (one_of args) name_list_of d is in
    let l = list_read v.0 d v.2 in
    (l.0, λ n occurs. one_symbols args v.0 v.1 n (subst (OccursIn n) (sym l.1) occurs))

-- ---- no invention, and a heap stays a heap

module _ (fresh : Option ℕ) (args : List PureValue) (h : Heap) (is : IsHeapOf Record h) where
  abbrev Kept : ActionResult → Type 0
  Kept = Keeps Record fresh args h

  among_arguments : (n : ℕ) → OccursAmong n args → IsAllowed fresh args h n
  among_arguments n occurs = inr (inl occurs)

  keeps_new : (d : PureValue) → IsNew fresh h → name_list_in args ≡ Ok d → Kept (new fresh d h)
  keeps_new d is_new read = by_symbol fresh refl
    where
      by_symbol : (f : Option ℕ) → fresh ≡ f → Kept (new f d h)
      by_symbol None none = keeps_fails Record fresh args h Failure.Action is
      by_symbol (Some l) some =
          let argument = names_argument args d read in
          keeps_creates l Shape d (name_keys l (names_of d)) (kind Null) argument.0 (names_fit l d) Record fresh args h (symbol l)
          refl (names_own l d)
          (new_location fresh l h some is_new) is (inl some)
          (λ n occurs. among_arguments n (argument.1 n occurs))
          (λ n occurs. absurd (none_contained n occurs))
          (λ n occurs. inl (some ∙ ap Some (symbol_alone l n occurs)))

  keeps_no_property : (l : ℕ) (p : List ℕ) → OccursAmong l args → ¬ HasKey h (key l (Name p)) → Kept (no_property l p h)
  keeps_no_property l p occurs lacks =
      at_cases Kept h (key l Gone) (λ _. fails Failure.Gone h)
      (unlisted_at h (key l Shape) p (λ _. fails Failure.Absent h) (misses (key l (Name p)) h))
      (λ v gone. keeps_fails Record fresh args h Failure.Gone is)
      (λ there. unlisted_cases Kept h (key l Shape) p (λ _. fails Failure.Absent h) (misses (key l (Name p)) h)
      (λ d shape unlisted. keeps_fails Record fresh args h Failure.Absent is)
      (keeps_misses Record fresh args h (key l (Name p)) is (among_arguments l occurs) lacks refl))

  keeps_lookup : (l : ℕ) (p : List ℕ) → OccursAmong l args → Kept (lookup l p h)
  keeps_lookup l p occurs = at_cases Kept h (key l (Name p)) (λ v. does v h) (no_property l p h)
      (λ v held. keeps_tells Record fresh args h v is (allowed_held Record fresh args h (key l (Name p)) v held))
      (keeps_no_property l p occurs)

  keeps_mutate : (l : ℕ) (p : List ℕ) (v : PureValue) → OccursAmong l args → ((n : ℕ) → OccursIn n v → OccursAmong n args)
      → Kept (mutate l p v h)
  keeps_mutate l p v occurs of_value = at_cases Kept h (key l (Name p)) (λ _. does v (insert h (key l (Name p)) v)) (no_property l p h)
      (λ w held. keeps_does Record fresh args h v (insert h (key l (Name p)) v)
      (overwritten_heap Record h (key l (Name p)) v tt (has_key h (key l (Name p)) w held) is)
      (λ n in_value. among_arguments n (of_value n in_value))
      (allowed_in Record fresh args h (insert h (key l (Name p)) v) (λ q u at_q. ⊎_elim
      (λ put. inr (
        subst (λ (k : Key). IsAllowed fresh args h k.loc) (sym put.0) (among_arguments l occurs),
        λ n in_value. among_arguments n (of_value n (subst (OccursIn n) put.1 in_value)),
      ))
      (λ kept. inl kept.1)
      (held_inserted h (key l (Name p)) q v u at_q))))
      (keeps_no_property l p occurs)

  keeps_dispose : (l : ℕ) → OccursAmong l args → Kept (dispose l h)
  keeps_dispose l occurs =
      at_cases Kept h (key l Gone) (λ _. fails Failure.Gone h)
      (at h (key l Shape) (λ d. dispose_whole l (name_keys l (names_of d)) h) (misses (key l Shape) h))
      (λ v gone. keeps_fails Record fresh args h Failure.Gone is)
      (λ there. at_cases Kept h (key l Shape) (λ d. dispose_whole l (name_keys l (names_of d)) h) (misses (key l Shape) h)
      (λ d shape. keeps_disposes l (key l Shape) (name_keys l (names_of d)) Record fresh args h d refl (names_own l d) is
      (among_arguments l occurs) (record_whole h l d is shape))
      (λ lacks. keeps_misses Record fresh args h (key l Shape) is (among_arguments l occurs) lacks refl))

  pub keeps_act : (a : Option RecordAction) → IsNew fresh h → Kept (act_of a fresh args h)
  keeps_act None is_new = keeps_fails Record fresh args h Failure.Action is
  keeps_act (Some New) is_new =
      read_cases Kept (name_list_in args) (λ d. new fresh d h) h (λ d read. keeps_new d is_new read)
      (λ e. keeps_fails Record fresh args h e is)
  keeps_act (Some Lookup) is_new =
      read_cases Kept (property_in args) (λ (l, p). lookup l p h) h
      (λ r read. keeps_lookup r.0 r.1 (property_occurs args r.0 r.1 read)) (λ e. keeps_fails Record fresh args h e is)
  keeps_act (Some Mutate) is_new = read_cases Kept (property_and_value_in args) (λ (l, p, v). mutate l p v h) h
      (λ r read. let occur = property_and_value_occur args r.0 r.1 r.2 read in
      keeps_mutate r.0 r.1 r.2 occur.0 occur.1) (λ e. keeps_fails Record fresh args h e is)
  keeps_act (Some Dispose) is_new =
      read_cases Kept (location_in args) (λ l. dispose l h) h (λ l read. keeps_dispose l (location_occurs args l read))
      (λ e. keeps_fails Record fresh args h e is)

-- ---- only what is done changes the heap

module _ (fresh : Option ℕ) (args : List PureValue) (h : Heap) where
  changes_no_property : (l : ℕ) (p : List ℕ) → ChangesWhenDone h (no_property l p h)
  changes_no_property l p =
      at_cases (ChangesWhenDone h) h (key l Gone) (λ _. fails Failure.Gone h)
      (unlisted_at h (key l Shape) p (λ _. fails Failure.Absent h) (misses (key l (Name p)) h))
      (λ v gone undone. refl)
      (λ there. unlisted_cases (ChangesWhenDone h) h (key l Shape) p (λ _. fails Failure.Absent h) (misses (key l (Name p)) h)
      (λ d shape unlisted undone. refl) (λ undone. refl))

  changes_dispose : (l : ℕ) → ChangesWhenDone h (dispose l h)
  changes_dispose l =
      at_cases (ChangesWhenDone h) h (key l Gone) (λ _. fails Failure.Gone h)
      (at h (key l Shape) (λ d. dispose_whole l (name_keys l (names_of d)) h) (misses (key l Shape) h))
      (λ v gone undone. refl)
      (λ there. at_cases (ChangesWhenDone h) h (key l Shape) (λ d. dispose_whole l (name_keys l (names_of d)) h) (misses (key l Shape) h)
      (λ d shape. changes_disposes l (key l Shape) (name_keys l (names_of d)) h)
      (λ lacks undone. refl))

  changes_new : (f : Option ℕ) (d : PureValue) → ChangesWhenDone h (new f d h)
  changes_new (Some l) d undone = absurd (undone tt)
  changes_new None d undone = refl

  pub changes_act : (a : Option RecordAction) → ChangesWhenDone h (act_of a fresh args h)
  changes_act None = λ undone. refl
  changes_act (Some New) =
      read_cases (ChangesWhenDone h) (name_list_in args) (λ d. new fresh d h) h (λ d read. changes_new fresh d) (λ e undone. refl)
  changes_act (Some Lookup) = read_cases (ChangesWhenDone h) (property_in args) (λ (l, p). lookup l p h) h
      (λ r read. at_cases (ChangesWhenDone h) h (key r.0 (Name r.1)) (λ v. does v h) (no_property r.0 r.1 h)
      (λ v held undone. refl) (λ lacks. changes_no_property r.0 r.1)) (λ e undone. refl)
  changes_act (Some Mutate) = read_cases (ChangesWhenDone h) (property_and_value_in args) (λ (l, p, v). mutate l p v h) h
      (λ r read. at_cases (ChangesWhenDone h) h (key r.0 (Name r.1)) (λ _. does r.2 (insert h (key r.0 (Name r.1)) r.2))
      (no_property r.0 r.1 h) (λ v held undone. absurd (undone tt)) (λ lacks. changes_no_property r.0 r.1)) (λ e undone. refl)
  changes_act (Some Dispose) =
      read_cases (ChangesWhenDone h) (location_in args) (λ l. dispose l h) h (λ l read. changes_dispose l) (λ e undone. refl)

-- ---- locality

module _ (h rest : Heap) (compatible : IsCompatible h rest) (is : IsHeapOf Record (joined h rest)) where
  abbrev Same : ActionResult → ActionResult → Type 0
  Same = IsSameWhenSettled rest

  abbrev whole : Heap
  whole = joined h rest

  same_new : (f : Option ℕ) (args : List PureValue) (d : PureValue) → IsNew f whole → name_list_in args ≡ Ok d
      → Same (new f d h) (new f d whole)
  same_new None args d is_new read = same_fails Failure.Action h rest compatible
  same_new (Some l) args d is_new read =
      same_creates l Shape d (name_keys l (names_of d)) (kind Null) (names_argument args d read).0 (names_fit l d) (symbol l) h
      rest compatible (new_location (Some l) l whole refl is_new)

  -- the rest has the key of a location that is gone
  same_gone_there : (l : ℕ) (v : PureValue) (f : PureValue → ActionResult) (r large : ActionResult) → Holds rest (key l Gone) v
      → Same r large → Same (at h (key l Shape) f r) large
  same_gone_there l v f r large gone otherwise = at_cases (λ s. Same s large) h (key l Shape) f r
      (λ d shape. absurd (gone_there h rest compatible l Shape (has_key rest (key l Gone) v gone) (has_key h (key l Shape) d shape)))
      (λ lacks. otherwise)

  same_no_property : (l : ℕ) (p : List ℕ) → Same (no_property l p h) (no_property l p whole)
  same_no_property l p =
      at_both Same h rest (key l Gone) (λ _. fails Failure.Gone h)
      (unlisted_at h (key l Shape) p (λ _. fails Failure.Absent h) (misses (key l (Name p)) h)) (λ _. fails Failure.Gone whole)
      (unlisted_at whole (key l Shape) p (λ _. fails Failure.Absent whole) (misses (key l (Name p)) whole))
      (λ v gone. same_fails Failure.Gone h rest compatible)
      (λ no no_there. unlisted_both Same h rest (key l Shape) p (λ _. fails Failure.Absent h) (misses (key l (Name p)) h)
      (λ _. fails Failure.Absent whole) (misses (key l (Name p)) whole)
      (λ d shape. same_fails Failure.Absent h rest compatible)
      (same_misses (key l (Name p)) h rest))
      (λ v no gone. same_gone_there l v _ (misses (key l (Name p)) h) (fails Failure.Gone whole) gone
      (same_misses (key l (Name p)) h rest (fails Failure.Gone whole)))

  -- the rest has the property, so that the heap misses it
  same_property_there : (l : ℕ) (p : List ℕ) (v : PureValue) (large : ActionResult) → Holds rest (key l (Name p)) v
      → Same (no_property l p h) large
  same_property_there l p v large there =
      at_cases (λ r. Same r large) h (key l Gone) (λ _. fails Failure.Gone h)
      (unlisted_at h (key l Shape) p (λ _. fails Failure.Absent h) (misses (key l (Name p)) h))
      (λ w gone. absurd (gone_apart h rest compatible l (Name p) (has_key h (key l Gone) w gone) (has_key rest (key l (Name p)) v there)))
      (λ no. unlisted_cases (λ r. Same r large) h (key l Shape) p (λ _. fails Failure.Absent h) (misses (key l (Name p)) h)
      (λ d shape unlisted. absurd
      (true≢false
      (sym (is.well_formed.names_listed l Shape d tt (held_in_union h rest compatible (key l Shape) d shape) p
      (rest_in_union h rest compatible (key l (Name p)) (has_key rest (key l (Name p)) v there))) ∙ unlisted)))
      (same_misses (key l (Name p)) h rest large))

  same_lookup : (l : ℕ) (p : List ℕ) → Same (lookup l p h) (lookup l p whole)
  same_lookup l p = at_both Same h rest (key l (Name p)) (λ v. does v h) (no_property l p h) (λ v. does v whole) (no_property l p whole)
      (λ v held. same_tells v h rest compatible)
      (λ no no_there. same_no_property l p)
      (λ v no there. same_property_there l p v (does v whole) there)

  same_mutate : (l : ℕ) (p : List ℕ) (v : PureValue) → Same (mutate l p v h) (mutate l p v whole)
  same_mutate l p v =
      at_both Same h rest (key l (Name p)) (λ _. does v (insert h (key l (Name p)) v)) (no_property l p h)
      (λ _. does v (insert whole (key l (Name p)) v)) (no_property l p whole)
      (λ w held.
      let there : HasKey h (key l (Name p)) = has_key h (key l (Name p)) w held in
      same_does v (insert h (key l (Name p)) v) rest (insert whole (key l (Name p)) v)
      (insert-joined h rest (key l (Name p)) v)
      (λ q has in_rest. compatible.disjoint q (has_overwritten h (key l (Name p)) q v there has) in_rest)
      (overwritten_well_formed whole (key l (Name p)) v tt (in_union h rest compatible (key l (Name p)) there) is.well_formed))
      (λ no no_there. same_no_property l p)
      (λ w no there. same_property_there l p w (does v (insert whole (key l (Name p)) v)) there)

  same_dispose : (l : ℕ) → Same (dispose l h) (dispose l whole)
  same_dispose l =
      at_both Same h rest (key l Gone) (λ _. fails Failure.Gone h)
      (at h (key l Shape) (λ d. dispose_whole l (name_keys l (names_of d)) h) (misses (key l Shape) h))
      (λ _. fails Failure.Gone whole)
      (at whole (key l Shape) (λ d. dispose_whole l (name_keys l (names_of d)) whole) (misses (key l Shape) whole))
      (λ v gone. same_fails Failure.Gone h rest compatible)
      (λ no no_there. at_both Same h rest (key l Shape) (λ d. dispose_whole l (name_keys l (names_of d)) h)
      (misses (key l Shape) h) (λ d. dispose_whole l (name_keys l (names_of d)) whole) (misses (key l Shape) whole)
      (λ d shape. same_disposes l (key l Shape) (name_keys l (names_of d)) h rest compatible (has_key h (key l Shape) d shape)
      (record_whole whole l d is (held_in_union h rest compatible (key l Shape) d shape)))
      (λ lacks lacks_there. same_misses (key l Shape) h rest (misses (key l Shape) whole))
      (λ d lacks there. same_misses (key l Shape) h rest _))
      (λ v no gone. same_gone_there l v _ (misses (key l Shape) h) (fails Failure.Gone whole) gone
      (same_misses (key l Shape) h rest (fails Failure.Gone whole)))

  pub same_act : (a : Option RecordAction) (fresh : Option ℕ) (args : List PureValue) → IsNew fresh whole
      → Same (act_of a fresh args h) (act_of a fresh args whole)
  same_act None fresh args is_new = same_fails Failure.Action h rest compatible
  same_act (Some New) fresh args is_new =
      read_both Same (name_list_in args) (λ d. new fresh d h) h (λ d. new fresh d whole) whole
      (λ d read. same_new fresh args d is_new read) (λ e. same_fails e h rest compatible)
  same_act (Some Lookup) fresh args is_new =
      read_both Same (property_in args) (λ (l, p). lookup l p h) h (λ (l, p). lookup l p whole) whole
      (λ r read. same_lookup r.0 r.1) (λ e. same_fails e h rest compatible)
  same_act (Some Mutate) fresh args is_new =
      read_both Same (property_and_value_in args) (λ (l, p, v). mutate l p v h) h (λ (l, p, v). mutate l p v whole) whole
      (λ r read. same_mutate r.0 r.1 r.2) (λ e. same_fails e h rest compatible)
  same_act (Some Dispose) fresh args is_new =
      read_both Same (location_in args) (λ l. dispose l h) h (λ l. dispose l whole) whole (λ l read. same_dispose l)
      (λ e. same_fails e h rest compatible)

-- ---- the laws

pub record_is_memory : IsMemory Record record_actions
record_is_memory = record {
  locality = λ action fresh args h rest is is_rest compatible may settled. same_act h rest compatible
      (join_is_heap Record h rest is is_rest compatible) (action_of action) fresh args may.new_in_heap settled;
  no_invention = λ action fresh args h is may n occurs. (keeps_act fresh args h is (action_of action) may.new_in_heap).invents n occurs;
  keeps_heaps = λ action fresh args h is may. (keeps_act fresh args h is (action_of action) may.new_in_heap).is_heap;
  changes_only_when_done = λ action fresh args h. changes_act fresh args h (action_of action);
}

pub record_misses_what_lacks : MissesWhatLacks Record record_actions
record_misses_what_lacks action fresh args h k is may missed = (keeps_act fresh args h is (action_of action) may.new_in_heap).lacks k missed
