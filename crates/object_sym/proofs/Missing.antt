-- What an action on objects misses on a heap, a larger heap has on which it is done; or it has the names of the object, and the heap
-- doesn't.
use Rattle.std.proofs.Common.{◌≡◌, ◌⊎◌, ⊎_elim, inl, inr, ℕ, List, [], ◌∷◌, Bool, true, false, if◌then◌else◌, Option, Some, None, IsTrue, is_some, refl, sym, ap, subst, ◌∙◌, true≢false}
use Rattle.std.specs.FinMap.{get, insert, remove}
use Rattle.gil_values.specs.Pure.{PureValue, boolean, kind}
use Rattle.gil_values.specs.declared.kinds.Kind.TheVariants.{Undef}
use Rattle.core_production.proofs.FixLaws.{same_missed, read_both}
use Rattle.mem_model.specs.declared.failures.Failure.{Failure}
use Rattle.mem_model.specs.declared.keys.Key.{Key}
use Rattle.mem_model.specs.declared.keys.MemoryName.TheVariants.{Object}
use Rattle.mem_model.specs.declared.keys.Sub.TheVariants.{Name, Dom, Proto}
use Rattle.mem_model.specs.Actions.{ActionResult, IsDone}
use Rattle.mem_model.specs.Arguments.{location_in, property_in, property_and_value_in}
use Rattle.mem_model.specs.Heaps.{Heap, Holds, HasKey, IsPartOf}
use Rattle.mem_model.specs.Keys.{key}
use Rattle.mem_model.specs.Names.{lists_name}
use Rattle.mem_model.specs.Pure.{miss}
use Rattle.mem_model.specs.Tables.{does, misses, at, unlisted_at}
use Rattle.mem_model.proofs.Cases.{at_cases}
use Rattle.mem_model.proofs.Joins.{has_key}
use Rattle.object_heap.specs.declared.actions.ObjectAction.{ObjectAction}
use Rattle.object_heap.specs.declared.actions.ObjectAction.TheVariants.{New, Get, Set, Delete, Has, GetProto, SetProto}
use Rattle.object_heap.specs.Names.{action_of}
use Rattle.object_heap.specs.Table.{appended, without_name, prototype_in, location_and_prototype_in, new, get_property, set_property, delete_property, has_property, get_prototype, set_prototype, act_of, object_actions}
use Rattle.sym_model.specs.Fixing.{MissesAndIsDone}
use Rattle.sym_model.proofs.ListLaws.{same_some}

-- the larger heap has the names of the object of which a name is missed, and the heap doesn't
pub record NamesFound (h larger : Heap) (k : Key) : Type 0 where
  pub p : List ℕ
  pub is_name : k.sub ≡ Name p
  pub has : HasKey larger (key k.loc Dom)
  pub lacks : ¬ HasKey h (key k.loc Dom)

abbrev pub Found : Heap → Heap → Key → Type 0
Found h larger k = HasKey larger k ⊎ NamesFound h larger k

by_list : (P : ActionResult → Type 0) (b : Bool) (r s : ActionResult) → (b ≡ true → P r) → (b ≡ false → P s) → P (if b then r else s)
by_list P true r s first second = first refl
by_list P false r s first second = second refl

module _ (h larger : Heap) (part : IsPartOf h larger) (k : Key) where
  abbrev Misses : ActionResult → Type 0
  Misses r = r.outcome ≡ miss k

  never_done : (v : PureValue) (g : Heap) → ¬ Misses (does v g)
  never_done v g missed = absurd (cc)

  same_names : (l : ℕ) (d u : PureValue) → Holds h (key l Dom) u → Holds larger (key l Dom) d → u ≡ d
  same_names l d u there held = same_some (sym (part (key l Dom) u there) ∙ held)

  -- the names are new, or those that the heap has
  names_or : (l : ℕ) (p : List ℕ) (d : PureValue) → Holds larger (key l Dom) d → ((u : PureValue) → Holds h (key l Dom) u → Found h larger (key l (Name p))) → Found h larger (key l (Name p))
  names_or l p d held old = by (get h (key l Dom)) refl
    where
      by : (o : Option PureValue) → get h (key l Dom) ≡ o → Found h larger (key l (Name p))
      by (Some u) is = old u is
      by None is = inr (record { p = p; is_name = refl; has = has_key larger (key l Dom) d held; lacks = λ has. true≢false (sym has ∙ ap is_some is) })

  -- ---- `get` and `set`

  module _ (l : ℕ) (p : List ℕ) (f f' g g' : PureValue → ActionResult) (f_done : (w : PureValue) → ¬ Misses (f w)) (g_done : (d : PureValue) → ¬ Misses (g d)) where
    abbrev on_heap : ActionResult
    on_heap = at h (key l (Name p)) f (unlisted_at h (key l Dom) p g (misses (key l (Name p)) h))

    abbrev on_larger : ActionResult
    on_larger = at larger (key l (Name p)) f' (unlisted_at larger (key l Dom) p g' (misses (key l (Name p)) larger))

    abbrev MissesName : Type 0
    MissesName = (key l (Name p) ≡ k) × ((u : PureValue) → Holds h (key l Dom) u → lists_name u p ≡ true)

    name_misses : Misses on_heap → MissesName
    name_misses =
        at_cases (λ r. Misses r → MissesName) h (key l (Name p)) f (unlisted_at h (key l Dom) p g (misses (key l (Name p)) h))
        (λ w held missed. absurd (f_done w missed))
        (λ lacks. at_cases (λ r. Misses r → MissesName) h (key l Dom) (λ d. if lists_name d p then misses (key l (Name p)) h else g d) (misses (key l (Name p)) h)
        (λ d held. by_list (λ r. Misses r → MissesName) (lists_name d p) (misses (key l (Name p)) h) (g d)
        (λ listed missed. (same_missed missed, λ u there. ap (λ x. lists_name x p) (same_some (sym there ∙ held)) ∙ listed))
        (λ unlisted missed. absurd (g_done d missed)))
        (λ none missed. (same_missed missed, λ u there. absurd (none (has_key h (key l Dom) u there)))))

    abbrev HasOrUnlisted : Type 0
    HasOrUnlisted = HasKey larger (key l (Name p)) ⊎ ((d : PureValue) × (Holds larger (key l Dom) d × (lists_name d p ≡ false)))

    name_done : IsDone on_larger.outcome → HasOrUnlisted
    name_done =
        at_cases (λ r. IsDone r.outcome → HasOrUnlisted) larger (key l (Name p)) f' (unlisted_at larger (key l Dom) p g' (misses (key l (Name p)) larger))
        (λ w held is. inl (has_key larger (key l (Name p)) w held))
        (λ lacks. at_cases (λ r. IsDone r.outcome → HasOrUnlisted) larger (key l Dom) (λ d. if lists_name d p then misses (key l (Name p)) larger else g' d) (misses (key l (Name p)) larger)
        (λ d held. by_list (λ r. IsDone r.outcome → HasOrUnlisted) (lists_name d p) (misses (key l (Name p)) larger) (g' d) (λ listed is. absurd is) (λ unlisted is. inr (d, (held, unlisted))))
        (λ none is. absurd is))

    name_found : Misses on_heap → IsDone on_larger.outcome → Found h larger k
    name_found missed is_done =
        let (e, lists) = name_misses missed in
        subst (Found h larger) e
        (⊎_elim inl
        (λ (d, (held, unlisted)). names_or l p d held (λ u there. absurd (true≢false (sym (lists u there) ∙ ap (λ x. lists_name x p) (same_names l d u there held) ∙ unlisted))))
        (name_done is_done))

  -- ---- `has`

  module _ (l : ℕ) (p : List ℕ) where
    abbrev MissesBoth : Type 0
    MissesBoth = (key l (Name p) ≡ k) × (¬ HasKey h (key l Dom))

    has_misses : Misses (has_property l p h) → MissesBoth
    has_misses =
        at_cases (λ r. Misses r → MissesBoth) h (key l (Name p)) (λ v. does (boolean true) h) (at h (key l Dom) (λ d. does (boolean (lists_name d p)) h) (misses (key l (Name p)) h))
        (λ w held missed. absurd (never_done (boolean true) h missed))
        (λ lacks. at_cases (λ r. Misses r → MissesBoth) h (key l Dom) (λ d. does (boolean (lists_name d p)) h) (misses (key l (Name p)) h)
        (λ d held missed. absurd (never_done (boolean (lists_name d p)) h missed))
        (λ none missed. (same_missed missed, none)))

    abbrev HasEither : Type 0
    HasEither = HasKey larger (key l (Name p)) ⊎ ((d : PureValue) × Holds larger (key l Dom) d)

    has_done : IsDone (has_property l p larger).outcome → HasEither
    has_done =
        at_cases (λ r. IsDone r.outcome → HasEither) larger (key l (Name p)) (λ v. does (boolean true) larger) (at larger (key l Dom) (λ d. does (boolean (lists_name d p)) larger) (misses (key l (Name p)) larger))
        (λ w held is. inl (has_key larger (key l (Name p)) w held))
        (λ lacks. at_cases (λ r. IsDone r.outcome → HasEither) larger (key l Dom) (λ d. does (boolean (lists_name d p)) larger) (misses (key l (Name p)) larger)
        (λ d held is. inr (d, held))
        (λ none is. absurd is))

    has_found : Misses (has_property l p h) → IsDone (has_property l p larger).outcome → Found h larger k
    has_found missed is_done =
        let (e, none) = has_misses missed in
        subst (Found h larger) e
        (⊎_elim inl (λ (d, held). names_or l p d held (λ u there. absurd (none (has_key h (key l Dom) u there)))) (has_done is_done))

    -- ---- `delete`

    abbrev deleted : Heap → PureValue → ActionResult
    deleted g d = does (boolean true) (insert (remove g (key l (Name p))) (key l Dom) (without_name d p))

    abbrev here : Heap → PureValue → ActionResult
    here g d = if lists_name d p then at g (key l (Name p)) (λ _. deleted g d) (misses (key l (Name p)) g) else does (boolean true) g

    abbrev MissesEither : Type 0
    MissesEither = (key l Dom ≡ k) ⊎ ((key l (Name p) ≡ k) × ((d : PureValue) × (Holds h (key l Dom) d × (lists_name d p ≡ true))))

    delete_misses : Misses (delete_property l p h) → MissesEither
    delete_misses =
        at_cases (λ r. Misses r → MissesEither) h (key l Dom) (here h) (misses (key l Dom) h)
        (λ d held. by_list (λ r. Misses r → MissesEither) (lists_name d p) (at h (key l (Name p)) (λ _. deleted h d) (misses (key l (Name p)) h)) (does (boolean true) h)
        (λ listed. at_cases (λ r. Misses r → MissesEither) h (key l (Name p)) (λ _. deleted h d) (misses (key l (Name p)) h)
        (λ w there missed. absurd (never_done (boolean true) (insert (remove h (key l (Name p))) (key l Dom) (without_name d p)) missed))
        (λ none missed. inr (same_missed missed, (d, (held, listed)))))
        (λ unlisted missed. absurd (never_done (boolean true) h missed)))
        (λ none missed. inl (same_missed missed))

    abbrev HasListed : Type 0
    HasListed = (d : PureValue) × (Holds larger (key l Dom) d × (lists_name d p ≡ true → HasKey larger (key l (Name p))))

    delete_done : IsDone (delete_property l p larger).outcome → HasListed
    delete_done =
        at_cases (λ r. IsDone r.outcome → HasListed) larger (key l Dom) (here larger) (misses (key l Dom) larger)
        (λ d held. by_list (λ r. IsDone r.outcome → HasListed) (lists_name d p) (at larger (key l (Name p)) (λ _. deleted larger d) (misses (key l (Name p)) larger)) (does (boolean true) larger)
        (λ listed. at_cases (λ r. IsDone r.outcome → HasListed) larger (key l (Name p)) (λ _. deleted larger d) (misses (key l (Name p)) larger)
        (λ w there is. (d, (held, λ lists. has_key larger (key l (Name p)) w there)))
        (λ none is. absurd is))
        (λ unlisted is. (d, (held, λ lists. absurd (true≢false (sym lists ∙ unlisted))))))
        (λ none is. absurd is)

    delete_found : Misses (delete_property l p h) → IsDone (delete_property l p larger).outcome → Found h larger k
    delete_found missed is_done =
        let (d, (held, has)) = delete_done is_done in
        inl
        (⊎_elim
        (λ e. subst (HasKey larger) e (has_key larger (key l Dom) d held))
        (λ (e, (u, (there, listed))). subst (HasKey larger) e (has (ap (λ x. lists_name x p) (sym (same_names l d u there held)) ∙ listed)))
        (delete_misses missed))

  -- ---- prototypes

  proto_found : (l : ℕ) (f f' : PureValue → ActionResult) → ((w : PureValue) → ¬ Misses (f w)) → Misses (at h (key l Proto) f (misses (key l Proto) h)) → IsDone (at larger (key l Proto) f' (misses (key l Proto) larger)).outcome → Found h larger k
  proto_found l f f' f_done missed is_done =
      inl
      (subst (HasKey larger)
      (at_cases (λ r. Misses r → key l Proto ≡ k) h (key l Proto) f (misses (key l Proto) h) (λ w held is. absurd (f_done w is)) (λ none. same_missed) missed)
      (at_cases (λ r. IsDone r.outcome → HasKey larger (key l Proto)) larger (key l Proto) f' (misses (key l Proto) larger) (λ w held is. has_key larger (key l Proto) w held) (λ none is. absurd is) is_done))

  -- ---- each action

  never_made : (fresh : Option ℕ) (d : PureValue) → ¬ Misses (new fresh d h)
  never_made (Some l) d missed = absurd (cc)
  never_made None d missed = absurd (cc)

  found : (a : Option ObjectAction) (fresh : Option ℕ) (args : List PureValue) → Misses (act_of a fresh args h) → IsDone (act_of a fresh args larger).outcome → Found h larger k
  found None fresh args missed is_done = absurd is_done
  found (Some New) fresh args missed is_done = read_both h larger k (prototype_in args) (λ v. new fresh v h) (λ v. new fresh v larger) (λ v none is. absurd (never_made fresh v none)) missed is_done
  found (Some Get) fresh args missed is_done =
      read_both h larger k (property_in args) (λ (l, p). get_property l p h) (λ (l, p). get_property l p larger)
      (λ x. name_found x.0 x.1 (λ v. does v h) (λ v. does v larger) (λ d. does (kind Undef) h) (λ d. does (kind Undef) larger) (λ w. never_done w h) (λ d. never_done (kind Undef) h)) missed is_done
  found (Some Set) fresh args missed is_done =
      read_both h larger k (property_and_value_in args) (λ (l, p, v). set_property l p v h) (λ (l, p, v). set_property l p v larger)
      (λ x. name_found x.0 x.1 (λ w. does x.2 (insert h (key x.0 (Name x.1)) x.2)) (λ w. does x.2 (insert larger (key x.0 (Name x.1)) x.2))
      (λ d. does x.2 (insert (insert h (key x.0 (Name x.1)) x.2) (key x.0 Dom) (appended d x.1))) (λ d. does x.2 (insert (insert larger (key x.0 (Name x.1)) x.2) (key x.0 Dom) (appended d x.1)))
      (λ w. never_done x.2 (insert h (key x.0 (Name x.1)) x.2)) (λ d. never_done x.2 (insert (insert h (key x.0 (Name x.1)) x.2) (key x.0 Dom) (appended d x.1)))) missed is_done
  found (Some Delete) fresh args missed is_done = read_both h larger k (property_in args) (λ (l, p). delete_property l p h) (λ (l, p). delete_property l p larger) (λ x. delete_found x.0 x.1) missed is_done
  found (Some Has) fresh args missed is_done = read_both h larger k (property_in args) (λ (l, p). has_property l p h) (λ (l, p). has_property l p larger) (λ x. has_found x.0 x.1) missed is_done
  found (Some GetProto) fresh args missed is_done =
      read_both h larger k (location_in args) (λ l. get_prototype l h) (λ l. get_prototype l larger) (λ l. proto_found l (λ v. does v h) (λ v. does v larger) (λ w. never_done w h)) missed is_done
  found (Some SetProto) fresh args missed is_done =
      read_both h larger k (location_and_prototype_in args) (λ (l, v). set_prototype l v h) (λ (l, v). set_prototype l v larger)
      (λ x. proto_found x.0 (λ w. does x.1 (insert h (key x.0 Proto) x.1)) (λ w. does x.1 (insert larger (key x.0 Proto) x.1)) (λ w. never_done x.1 (insert h (key x.0 Proto) x.1))) missed is_done

pub objects_find_missed : (h larger : Heap) (k : Key) → MissesAndIsDone Object object_actions h larger k → Found h larger k
objects_find_missed h larger k is = found h larger is.part k (action_of is.action) is.fresh is.args is.misses is.is_done
