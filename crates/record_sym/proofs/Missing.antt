-- What an action on records misses on a heap, a larger heap has on which it is done.
use Rattle.std.proofs.Common.{◌≡◌, ◌⊎◌, ⊎_elim, inl, inr, ℕ, List, Option, Some, None, sym, ap, subst, ◌∙◌}
use Rattle.std.specs.FinMap.{insert}
use Rattle.gil_values.specs.Pure.{PureValue}
use Rattle.core_production.proofs.FixLaws.{FindsMissed, same_missed, missed_found, read_both, whole_done, whole_misses}
use Rattle.mem_model.specs.declared.failures.Failure.{Failure}
use Rattle.mem_model.specs.declared.keys.Key.{Key}
use Rattle.mem_model.specs.declared.keys.MemoryName.TheVariants.{Record}
use Rattle.mem_model.specs.declared.keys.Sub.TheVariants.{Name, Shape, Gone}
use Rattle.mem_model.specs.Actions.{ActionResult, IsDone}
use Rattle.mem_model.specs.Arguments.{location_in, property_in, property_and_value_in}
use Rattle.mem_model.specs.Heaps.{Heap, Holds, HasKey, IsPartOf}
use Rattle.mem_model.specs.Keys.{key}
use Rattle.mem_model.specs.Pure.{miss}
use Rattle.mem_model.specs.Tables.{does, fails, misses, at, unlisted_at, names_of, name_keys, dispose_whole, first_missing}
use Rattle.mem_model.proofs.Cases.{at_cases, unlisted_cases}
use Rattle.mem_model.proofs.Joins.{has_key}
use Rattle.record_heap.specs.declared.actions.RecordAction.{RecordAction}
use Rattle.record_heap.specs.declared.actions.RecordAction.TheVariants.{New, Lookup, Mutate, Dispose}
use Rattle.record_heap.specs.Names.{action_of}
use Rattle.record_heap.specs.Table.{name_list_in, new, no_property, lookup, mutate, dispose, act_of, record_actions}
use Rattle.sym_model.proofs.ListLaws.{same_some}

module _ (k : Key) where
  abbrev Misses : ActionResult → Type 0
  Misses r = r.outcome ≡ miss k

  -- ---- a property

  no_property_done : (l : ℕ) (p : List ℕ) (h : Heap) → ¬ IsDone (no_property l p h).outcome
  no_property_done l p h =
      at_cases (λ r. ¬ IsDone r.outcome) h (key l Gone) (λ _. fails Failure.Gone h) (unlisted_at h (key l Shape) p (λ _. fails Failure.Absent h) (misses (key l (Name p)) h))
      (λ v held is. is)
      (λ lacks. unlisted_cases (λ r. ¬ IsDone r.outcome) h (key l Shape) p (λ _. fails Failure.Absent h) (misses (key l (Name p)) h) (λ d held unlisted is. is) (λ is. is))

  no_property_misses : (l : ℕ) (p : List ℕ) (h : Heap) → Misses (no_property l p h) → key l (Name p) ≡ k
  no_property_misses l p h =
      at_cases (λ r. Misses r → key l (Name p) ≡ k) h (key l Gone) (λ _. fails Failure.Gone h) (unlisted_at h (key l Shape) p (λ _. fails Failure.Absent h) (misses (key l (Name p)) h))
      (λ v held missed. absurd (cc))
      (λ lacks. unlisted_cases (λ r. Misses r → key l (Name p) ≡ k) h (key l Shape) p (λ _. fails Failure.Absent h) (misses (key l (Name p)) h) (λ d held unlisted missed. absurd (cc)) same_missed)

  property_found : (l : ℕ) (p : List ℕ) (v : PureValue → PureValue) (f g : PureValue → Heap) (h larger : Heap) → Misses (at h (key l (Name p)) (λ w. does (v w) (f w)) (no_property l p h)) → IsDone (at larger (key l (Name p)) (λ w. does (v w) (g w)) (no_property l p larger)).outcome → HasKey larger k
  property_found l p v f g h larger missed is_done =
      subst (HasKey larger)
      (at_cases (λ r. Misses r → key l (Name p) ≡ k) h (key l (Name p)) (λ w. does (v w) (f w)) (no_property l p h) (λ w held is. absurd (cc)) (λ lacks. no_property_misses l p h) missed)
      (at_cases (λ r. IsDone r.outcome → HasKey larger (key l (Name p))) larger (key l (Name p)) (λ w. does (v w) (g w)) (no_property l p larger) (λ w held is. has_key larger (key l (Name p)) w held) (λ lacks is. absurd (no_property_done l p larger is)) is_done)

  -- ---- a whole record

  abbrev names_keys : ℕ → PureValue → List Key
  names_keys l d = name_keys l (names_of d)

  dispose_done : (l : ℕ) (h : Heap) → IsDone (dispose l h).outcome → (d : PureValue) × (Holds h (key l Shape) d × (first_missing h (names_keys l d) ≡ None))
  dispose_done l h =
      at_cases (λ r. IsDone r.outcome → (d : PureValue) × (Holds h (key l Shape) d × (first_missing h (names_keys l d) ≡ None))) h (key l Gone) (λ _. fails Failure.Gone h) (at h (key l Shape) (λ d. dispose_whole l (names_keys l d) h) (misses (key l Shape) h))
      (λ v held is. absurd is)
      (λ lacks. at_cases (λ r. IsDone r.outcome → (d : PureValue) × (Holds h (key l Shape) d × (first_missing h (names_keys l d) ≡ None))) h (key l Shape) (λ d. dispose_whole l (names_keys l d) h) (misses (key l Shape) h)
      (λ d held is. (d, (held, whole_done l (names_keys l d) h is)))
      (λ none is. absurd is))

  abbrev MissedThere : ℕ → Heap → Type 0
  MissedThere l h = (key l Shape ≡ k) ⊎ ((d : PureValue) × (Holds h (key l Shape) d × (first_missing h (names_keys l d) ≡ Some k)))

  dispose_misses : (l : ℕ) (h : Heap) → Misses (dispose l h) → MissedThere l h
  dispose_misses l h =
      at_cases (λ r. Misses r → MissedThere l h) h (key l Gone) (λ _. fails Failure.Gone h) (at h (key l Shape) (λ d. dispose_whole l (names_keys l d) h) (misses (key l Shape) h))
      (λ v held missed. absurd (cc))
      (λ lacks. at_cases (λ r. Misses r → MissedThere l h) h (key l Shape) (λ d. dispose_whole l (names_keys l d) h) (misses (key l Shape) h)
      (λ d held missed. inr (d, (held, whole_misses l (names_keys l d) h k missed)))
      (λ none missed. inl (same_missed missed)))

  record_found : (l : ℕ) (h larger : Heap) → IsPartOf h larger → Misses (dispose l h) → IsDone (dispose l larger).outcome → HasKey larger k
  record_found l h larger part missed is_done =
      let (d, (held, none)) = dispose_done l larger is_done in
      ⊎_elim
      (λ is. subst (HasKey larger) is (has_key larger (key l Shape) d held))
      (λ (u, (there, first)). missed_found h larger k (names_keys l u) first (ap (λ x. first_missing larger (names_keys l x)) (same_some (sym (part (key l Shape) u there) ∙ held)) ∙ none))
      (dispose_misses l h missed)

  -- ---- each action

  never_made : (fresh : Option ℕ) (d : PureValue) (h : Heap) → Misses (new fresh d h) → ⊥
  never_made (Some l) d h missed = absurd (cc)
  never_made None d h missed = absurd (cc)

  found : (a : Option RecordAction) (fresh : Option ℕ) (args : List PureValue) (h larger : Heap) → IsPartOf h larger → Misses (act_of a fresh args h) → IsDone (act_of a fresh args larger).outcome → HasKey larger k
  found None fresh args h larger part missed is_done = absurd is_done
  found (Some New) fresh args h larger part missed is_done = read_both h larger k (name_list_in args) (λ d. new fresh d h) (λ d. new fresh d larger) (λ d none is. absurd (never_made fresh d h none)) missed is_done
  found (Some Lookup) fresh args h larger part missed is_done =
      read_both h larger k (property_in args) (λ (l, p). lookup l p h) (λ (l, p). lookup l p larger) (λ x. property_found x.0 x.1 (λ w. w) (λ w. h) (λ w. larger) h larger) missed is_done
  found (Some Mutate) fresh args h larger part missed is_done =
      read_both h larger k (property_and_value_in args) (λ (l, p, v). mutate l p v h) (λ (l, p, v). mutate l p v larger)
      (λ x. property_found x.0 x.1 (λ w. x.2) (λ w. insert h (key x.0 (Name x.1)) x.2) (λ w. insert larger (key x.0 (Name x.1)) x.2) h larger) missed is_done
  found (Some Dispose) fresh args h larger part missed is_done = read_both h larger k (location_in args) (λ l. dispose l h) (λ l. dispose l larger) (λ l. record_found l h larger part) missed is_done

pub records_find_missed : FindsMissed Record record_actions
records_find_missed h larger k is = found k (action_of is.action) is.fresh is.args h larger is.part is.misses is.is_done
