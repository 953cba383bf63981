-- What the actions of objects come to on a heap, by what the heap has at the keys that they look at.
use Rattle.std.proofs.Common.{◌≡◌, ◌⊎◌, inl, inr, ℕ, List, [], ◌∷◌, Bool, true, false, cond, ◌||◌, if◌then◌else◌, Option, Some, None, IsSome, is_some, refl, sym, ap, ◌∙◌, true≢false}
use Rattle.std.specs.FinMap.{get, insert, remove, get-insert}
use Rattle.gil_values.specs.declared.kinds.Kind.{Kind}
use Rattle.gil_values.specs.Pure.{PureValue, boolean, kind, no_values, list}
use Rattle.mem_model.specs.declared.keys.Key.{Key}
use Rattle.mem_model.specs.declared.keys.Sub.TheVariants.{Name, Dom, Proto}
use Rattle.mem_model.specs.Actions.{ActionResult}
use Rattle.mem_model.specs.Heaps.{Heap, Holds}
use Rattle.mem_model.specs.Keys.{key}
use Rattle.mem_model.specs.KeyOrder.{key_cmp-total, key_eq}
use Rattle.mem_model.specs.Names.{lists_name}
use Rattle.mem_model.specs.Tables.{does, misses, found_or, at, unlisted_at, is_among, with_all, created}
use Rattle.mem_model.proofs.Changes.{get-with_all}
use Rattle.mem_model.proofs.Holding.{same_key, itself}
use Rattle.mem_model.proofs.Joins.{same_heap}
use Rattle.object_heap.specs.Table.{appended, without_name, get_property, set_property, delete_property, has_property, get_prototype, set_prototype}

pub none_from : {X : Type 0} (o : Option X) → ¬ IsSome o → o ≡ None
none_from None lacks_it = refl
none_from (Some x) lacks_it = absurd (lacks_it refl)

pub not_both : {X : Type 0} {x : X} (o : Option X) → o ≡ None → o ≡ Some x → ⊥
not_both o none some = true≢false (sym (ap is_some some) ∙ ap is_some none)

pub at_some : (h : Heap) (k : Key) (w : PureValue) (found : PureValue → ActionResult) (otherwise : ActionResult) → Holds h k w → at h k found otherwise ≡ found w
at_some h k w found otherwise holds = ap (λ o. found_or o found otherwise) holds

pub at_none : (h : Heap) (k : Key) (found : PureValue → ActionResult) (otherwise : ActionResult) → get h k ≡ None → at h k found otherwise ≡ otherwise
at_none h k found otherwise none = ap (λ o. found_or o found otherwise) none

pub key_or_not : (q k : Key) → (q ≡ k) ⊎ (¬ (q ≡ k))
key_or_not q k = by_test (key_eq q k) refl
  where
    by_test : (b : Bool) → key_eq q k ≡ b → (q ≡ k) ⊎ (¬ (q ≡ k))
    by_test true is = inl (same_key q k is)
    by_test false is = inr (λ e. true≢false (sym (itself q) ∙ ap (key_eq q) e ∙ is))

-- ---- keys put one after another

apart_inserts : (a b : Bool) (u w : PureValue) (o : Option PureValue) → (a ≡ true → b ≡ true → ⊥) → cond a (Some u) (cond b (Some w) o) ≡ cond b (Some w) (cond a (Some u) o)
apart_inserts true true u w o apart = absurd (apart refl refl)
apart_inserts true false u w o apart = refl
apart_inserts false b u w o apart = refl

pub insert_comm : (h : Heap) (k q : Key) (u w : PureValue) → ¬ (k ≡ q) → insert (insert h q w) k u ≡ insert (insert h k u) q w
insert_comm h k q u w other = same_heap _ _ (λ x.
    get-insert key_cmp-total (insert h q w) k u x
    ∙ ap (cond (key_eq x k) (Some u)) (get-insert key_cmp-total h q w x)
    ∙ apart_inserts (key_eq x k) (key_eq x q) u w (get h x) (λ at_k at_q. other (sym (same_key x k at_k) ∙ same_key x q at_q))
    ∙ ap (cond (key_eq x q) (Some w)) (sym (get-insert key_cmp-total h k u x))
    ∙ sym (get-insert key_cmp-total (insert h k u) q w x))

one_among : (b : Bool) (u : PureValue) (o : Option PureValue) (c : Bool) → c ≡ b → cond c (Some u) o ≡ cond b (Some u) o
one_among b u o c e = ap (λ d. cond d (Some u) o) e

or_nothing : (b : Bool) (k q : Key) → key_eq q k ≡ b → is_among q (k ∷ []) ≡ b
or_nothing true k q is = ap (λ c. c || false) is
or_nothing false k q is = ap (λ c. c || false) is

with_one : (k : Key) (u : PureValue) (h : Heap) → with_all (k ∷ []) u h ≡ insert h k u
with_one k u h = same_heap _ _ (λ x.
    get-with_all (k ∷ []) u h x
    ∙ one_among (key_eq x k) u (get h x) (is_among x (k ∷ [])) (or_nothing (key_eq x k) k x refl)
    ∙ sym (get-insert key_cmp-total h k u x))

-- ---- the actions

module _ (a : ℕ) (h : Heap) where
  pub made_heap : (u : PureValue) → created (key a Dom) (list no_values) (key a Proto ∷ []) u h ≡ insert (insert h (key a Proto) u) (key a Dom) (list no_values)
  made_heap u = ap (λ g. insert g (key a Dom) (list no_values)) (with_one (key a Proto) u h)

  module _ (n : List ℕ) where
    unlisted_some : (d : PureValue) (found : PureValue → ActionResult) (otherwise : ActionResult) (b : Bool) → lists_name d n ≡ b → Holds h (key a Dom) d → unlisted_at h (key a Dom) n found otherwise ≡ (if b then otherwise else found d)
    unlisted_some d found otherwise b is holds =
        at_some h (key a Dom) d (λ e. if lists_name e n then otherwise else found e) otherwise holds ∙ ap (λ c. if c then otherwise else found d) is

    -- where the location's names are known, the name is one of them
    abbrev pub IsListedHere : Type 0
    IsListedHere = (d : PureValue) → Holds h (key a Dom) d → lists_name d n ≡ true

    unlisted_none : (o : Option PureValue) (found : PureValue → ActionResult) (otherwise : ActionResult) → get h (key a Dom) ≡ o → IsListedHere → unlisted_at h (key a Dom) n found otherwise ≡ otherwise
    unlisted_none None found otherwise is listed = at_none h (key a Dom) (λ e. if lists_name e n then otherwise else found e) otherwise is
    unlisted_none (Some d) found otherwise is listed = unlisted_some d found otherwise true (listed d is) is

    -- `get`
    pub get_found : (w : PureValue) → Holds h (key a (Name n)) w → get_property a n h ≡ does w h
    get_found w holds = at_some h (key a (Name n)) w _ _ holds

    pub get_absent : (d : PureValue) → get h (key a (Name n)) ≡ None → Holds h (key a Dom) d → lists_name d n ≡ false → get_property a n h ≡ does (kind Kind.Undef) h
    get_absent d none holds unnamed = at_none h (key a (Name n)) _ _ none ∙ unlisted_some d _ _ false unnamed holds

    pub get_missed : get h (key a (Name n)) ≡ None → IsListedHere → get_property a n h ≡ misses (key a (Name n)) h
    get_missed none listed = at_none h (key a (Name n)) _ _ none ∙ unlisted_none (get h (key a Dom)) _ _ refl listed

    -- `set`
    pub set_found : (u w : PureValue) → Holds h (key a (Name n)) w → set_property a n u h ≡ does u (insert h (key a (Name n)) u)
    set_found u w holds = at_some h (key a (Name n)) w _ _ holds

    pub set_absent : (u d : PureValue) → get h (key a (Name n)) ≡ None → Holds h (key a Dom) d → lists_name d n ≡ false → set_property a n u h ≡ does u (insert (insert h (key a (Name n)) u) (key a Dom) (appended d n))
    set_absent u d none holds unnamed = at_none h (key a (Name n)) _ _ none ∙ unlisted_some d _ _ false unnamed holds

    pub set_missed : (u : PureValue) → get h (key a (Name n)) ≡ None → IsListedHere → set_property a n u h ≡ misses (key a (Name n)) h
    set_missed u none listed = at_none h (key a (Name n)) _ _ none ∙ unlisted_none (get h (key a Dom)) _ _ refl listed

    -- `delete`
    abbrev taken_or_missed : PureValue → ActionResult
    taken_or_missed d = at h (key a (Name n)) (λ _. does (boolean true) (insert (remove h (key a (Name n))) (key a Dom) (without_name d n))) (misses (key a (Name n)) h)

    listed_or_not : (d : PureValue) (b : Bool) → Holds h (key a Dom) d → lists_name d n ≡ b → delete_property a n h ≡ (if b then taken_or_missed d else does (boolean true) h)
    listed_or_not d b holds is = at_some h (key a Dom) d _ _ holds ∙ ap (λ c. if c then taken_or_missed d else does (boolean true) h) is

    pub delete_absent : (d : PureValue) → Holds h (key a Dom) d → lists_name d n ≡ false → delete_property a n h ≡ does (boolean true) h
    delete_absent d holds unnamed = listed_or_not d false holds unnamed

    pub delete_taken : (d w : PureValue) → Holds h (key a Dom) d → lists_name d n ≡ true → Holds h (key a (Name n)) w → delete_property a n h ≡ does (boolean true) (insert (remove h (key a (Name n))) (key a Dom) (without_name d n))
    delete_taken d w holds is_named held = listed_or_not d true holds is_named ∙ at_some h (key a (Name n)) w _ _ held

    pub delete_missed : (d : PureValue) → Holds h (key a Dom) d → lists_name d n ≡ true → get h (key a (Name n)) ≡ None → delete_property a n h ≡ misses (key a (Name n)) h
    delete_missed d holds is_named none = listed_or_not d true holds is_named ∙ at_none h (key a (Name n)) _ _ none

    pub delete_nowhere : get h (key a Dom) ≡ None → delete_property a n h ≡ misses (key a Dom) h
    delete_nowhere none = at_none h (key a Dom) _ _ none

    -- `has`
    pub has_found : (w : PureValue) → Holds h (key a (Name n)) w → has_property a n h ≡ does (boolean true) h
    has_found w holds = at_some h (key a (Name n)) w _ _ holds

    pub has_told : (d : PureValue) (b : Bool) → get h (key a (Name n)) ≡ None → Holds h (key a Dom) d → lists_name d n ≡ b → has_property a n h ≡ does (boolean b) h
    has_told d b none holds is = at_none h (key a (Name n)) _ _ none ∙ at_some h (key a Dom) d _ _ holds ∙ ap (λ c. does (boolean c) h) is

    pub has_missed : get h (key a (Name n)) ≡ None → get h (key a Dom) ≡ None → has_property a n h ≡ misses (key a (Name n)) h
    has_missed none nowhere = at_none h (key a (Name n)) _ _ none ∙ at_none h (key a Dom) _ _ nowhere

  -- `getproto` and `setproto`
  pub proto_got : (w : PureValue) → Holds h (key a Proto) w → get_prototype a h ≡ does w h
  proto_got w holds = at_some h (key a Proto) w _ _ holds

  pub proto_unknown : get h (key a Proto) ≡ None → get_prototype a h ≡ misses (key a Proto) h
  proto_unknown none = at_none h (key a Proto) _ _ none

  pub proto_put : (u w : PureValue) → Holds h (key a Proto) w → set_prototype a u h ≡ does u (insert h (key a Proto) u)
  proto_put u w holds = at_some h (key a Proto) w _ _ holds

  pub proto_missed : (u : PureValue) → get h (key a Proto) ≡ None → set_prototype a u h ≡ misses (key a Proto) h
  proto_missed u none = at_none h (key a Proto) _ _ none
