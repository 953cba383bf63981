-- What a changed heap holds: what it held before, or what was put.
use Rattle.std.proofs.Common.{◌≡◌, ◌⊎◌, ⊎_elim, inl, inr, ℕ, nat_eq, Bool, true, false, cond, List, Option, Some, None, IsTrue, IsSome, is_some, refl, sym, ap, subst, ◌∙◌, true≢false}
use Rattle.std.proofs.lemmas.Map.Views.{tells_apart}
use Rattle.std.proofs.lemmas.Bool.Decides.{Decides-eqb}
use Rattle.std.specs.Option.{option_or}
use Rattle.std.specs.FinMap.{get, insert, remove, empty, get-insert, get-remove}
use Rattle.gil_values.specs.Pure.{PureValue, boolean}
use Rattle.mem_model.specs.declared.keys.Key.{Key}
use Rattle.mem_model.specs.declared.keys.Sub.TheVariants.{Gone}
use Rattle.mem_model.specs.Keys.{key}
use Rattle.mem_model.specs.KeyOrder.{key_cmp-total, key_cmp-IsAntisymmetric, key_eq, key_cmp-equivalence}
use Rattle.mem_model.specs.Heaps.{Heap, Holds, HasKey, joined}
use Rattle.mem_model.specs.Tables.{is_among, with_all, created, disposed, without_location}
use Rattle.mem_model.proofs.Joins.{same_heap, get-joined, join_associates, join_has_unit, value_at, has_key}
use Rattle.mem_model.proofs.Changes.{get-with_all, get-disposed, get-without_location}

same_some : {X : Type 0} {x y : X} → Some x ≡ Some y → x ≡ y
same_some e = cc

-- a choice of two values, one of which is there
some_of : {X : Type 0} (b : Bool) (x w : X) (o : Option X) → cond b (Some x) o ≡ Some w → ((b ≡ true) × (w ≡ x)) ⊎ ((b ≡ false) × (o ≡ Some w))
some_of true x w o is = inl (refl, sym (same_some is))
some_of false x w o is = inr (refl, is)

none_of : {X : Type 0} (b : Bool) (w : X) (o : Option X) → cond b None o ≡ Some w → (b ≡ false) × (o ≡ Some w)
none_of true w o is = absurd (true≢false (sym (ap is_some is)))
none_of false w o is = (refl, is)

pub same_key : (q k : Key) → key_eq q k ≡ true → q ≡ k
same_key = tells_apart key_cmp-IsAntisymmetric

pub itself : (k : Key) → key_eq k k ≡ true
itself = key_cmp-equivalence.refl

-- ---- one key put

pub held_inserted : (h : Heap) (k q : Key) (v w : PureValue) → Holds (insert h k v) q w → ((q ≡ k) × (w ≡ v)) ⊎ ((key_eq q k ≡ false) × Holds h q w)
held_inserted h k q v w is =
    ⊎_elim (λ put. inl (same_key q k put.0, put.1)) (λ kept. inr kept)
    (some_of (key_eq q k) v w (get h q) (sym (get-insert key_cmp-total h k v q) ∙ is))

pub inserted_holds : (h : Heap) (k : Key) (v : PureValue) → Holds (insert h k v) k v
inserted_holds h k v = get-insert key_cmp-total h k v k ∙ ap (λ b. cond b (Some v) (get h k)) (itself k)

pub inserted_keeps : (h : Heap) (k q : Key) (v w : PureValue) → key_eq q k ≡ false → Holds h q w → Holds (insert h k v) q w
inserted_keeps h k q v w other is = get-insert key_cmp-total h k v q ∙ ap (λ b. cond b (Some v) (get h q)) other ∙ is

-- to put a value at a key that is there adds no key
pub has_overwritten : (h : Heap) (k q : Key) (v : PureValue) → HasKey h k → HasKey (insert h k v) q → HasKey h q
has_overwritten h k q v there has =
    let at = value_at (insert h k v) q has in
    ⊎_elim (λ put. subst (HasKey h) (sym put.0) there) (λ kept. has_key h q at.0 kept.1) (held_inserted h k q v at.0 at.1)

-- ---- all keys put

pub held_with_all : (ks : List Key) (h : Heap) (q : Key) (v w : PureValue) → Holds (with_all ks v h) q w → (IsTrue (is_among q ks) × (w ≡ v)) ⊎ Holds h q w
held_with_all ks h q v w is =
    ⊎_elim (λ put. inl put) (λ kept. inr kept.1)
    (some_of (is_among q ks) v w (get h q) (sym (get-with_all ks v h q) ∙ is))

pub held_created : (k : Key) (d : PureValue) (parts : List Key) (h : Heap) (q : Key) (v w : PureValue) → Holds (created k d parts v h) q w → ((q ≡ k) × (w ≡ d)) ⊎ ((IsTrue (is_among q parts) × (w ≡ v)) ⊎ Holds h q w)
held_created k d parts h q v w is = ⊎_elim inl (λ kept. inr (held_with_all parts h q v w kept.1)) (held_inserted (with_all parts v h) k q d w is)

-- ---- a location disposed of

pub held_disposed : (l : ℕ) (h : Heap) (q : Key) (w : PureValue) → Holds (disposed l h) q w → ((q ≡ key l Gone) × (w ≡ boolean true)) ⊎ ((nat_eq q.loc l ≡ false) × Holds h q w)
held_disposed l h q w is =
    ⊎_elim (λ put. inl (same_key q (key l Gone) put.0, put.1)) (λ kept. inr (none_of (nat_eq q.loc l) w (get h q) kept.1))
    (some_of (key_eq q (key l Gone)) (boolean true) w (cond (nat_eq q.loc l) None (get h q)) (sym (get-disposed l h q) ∙ is))

-- ---- changes beside a rest

put_beside : {X : Type 0} (b : Bool) (x : X) (o p : Option X) → cond b (Some x) (option_or o p) ≡ option_or (cond b (Some x) o) p
put_beside true x o p = refl
put_beside false x o p = refl

pub insert-joined : (h rest : Heap) (k : Key) (v : PureValue) → insert (joined h rest) k v ≡ joined (insert h k v) rest
insert-joined h rest k v = same_heap _ _ (λ q.
    get-insert key_cmp-total (joined h rest) k v q
    ∙ ap (cond (key_eq q k) (Some v)) (get-joined h rest q)
    ∙ put_beside (key_eq q k) v (get h q) (get rest q)
    ∙ ap (λ o. option_or o (get rest q)) (sym (get-insert key_cmp-total h k v q))
    ∙ sym (get-joined (insert h k v) rest q))

pub created-joined : (k : Key) (d : PureValue) (parts : List Key) (v : PureValue) (h rest : Heap) → created k d parts v (joined h rest) ≡ joined (created k d parts v h) rest
created-joined k d parts v h rest = ap (λ g. insert g k d) (sym (join_associates _ h rest)) ∙ insert-joined (with_all parts v h) rest k d

pub created-apart : (k : Key) (d : PureValue) (parts : List Key) (v : PureValue) (h : Heap) → created k d parts v h ≡ joined (created k d parts v empty) h
created-apart k d parts v h = ap (created k d parts v) (sym (join_has_unit h).0) ∙ created-joined k d parts v empty h

gone_beside : {X : Type 0} (b c : Bool) (x : X) (o p : Option X) → (c ≡ true → p ≡ None) → cond b (Some x) (cond c None (option_or o p)) ≡ option_or (cond b (Some x) (cond c None o)) p
gone_beside true c x o p none = refl
gone_beside false true x o p none = sym (none refl)
gone_beside false false x o p none = refl

not_there : (h : Heap) (q : Key) → ¬ HasKey h q → get h q ≡ None
not_there h q = lacks (get h q)
  where
    lacks : (o : Option PureValue) → ¬ IsSome o → o ≡ None
    lacks None is = refl
    lacks (Some v) is = absurd (is refl)

pub disposed-joined : (l : ℕ) (h rest : Heap) → ((q : Key) → q.loc ≡ l → ¬ HasKey rest q) → disposed l (joined h rest) ≡ joined (disposed l h) rest
disposed-joined l h rest away = same_heap _ _ (λ q.
    get-disposed l (joined h rest) q
    ∙ ap (λ o. cond (key_eq q (key l Gone)) (Some (boolean true)) (cond (nat_eq q.loc l) None o)) (get-joined h rest q)
    ∙ gone_beside (key_eq q (key l Gone)) (nat_eq q.loc l) (boolean true) (get h q) (get rest q) (λ here. not_there rest q (away q ((Decides-eqb q.loc l).0 here)))
    ∙ ap (λ o. option_or o (get rest q)) (sym (get-disposed l h q))
    ∙ sym (get-joined (disposed l h) rest q))

pub held_without_location : (l : ℕ) (h : Heap) (q : Key) (w : PureValue) → Holds (without_location l h) q w → (nat_eq q.loc l ≡ false) × Holds h q w
held_without_location l h q w is = none_of (nat_eq q.loc l) w (get h q) (sym (get-without_location l h q) ∙ is)

-- ---- one key put or taken away

not_tied : (b : Bool) → ¬ (b ≡ true) → b ≡ false
not_tied true other = absurd (other refl)
not_tied false other = refl

pub different_keys : (q k : Key) → ¬ (q ≡ k) → key_eq q k ≡ false
different_keys q k other = not_tied (key_eq q k) (λ tied. other (same_key q k tied))

put_or_there : {X : Type 0} (b : Bool) (x : X) (o : Option X) → IsSome o → IsSome (cond b (Some x) o)
put_or_there true x o there = refl
put_or_there false x o there = there

pub has_inserted : (h : Heap) (k q : Key) (v : PureValue) → HasKey h q → HasKey (insert h k v) q
has_inserted h k q v there = subst IsSome (sym (get-insert key_cmp-total h k v q)) (put_or_there (key_eq q k) v (get h q) there)

pub has_removed : (h : Heap) (k q : Key) → ¬ (q ≡ k) → HasKey h q → HasKey (remove h k) q
has_removed h k q other there = subst IsSome (sym (get-remove key_cmp-total h k q ∙ ap (λ b. cond b None (get h q)) (different_keys q k other))) there

pub held_removed : (h : Heap) (k q : Key) (w : PureValue) → Holds (remove h k) q w → (key_eq q k ≡ false) × Holds h q w
held_removed h k q w is = none_of (key_eq q k) w (get h q) (sym (get-remove key_cmp-total h k q) ∙ is)

taken_beside : {X : Type 0} (b : Bool) (o p : Option X) → (b ≡ true → p ≡ None) → cond b None (option_or o p) ≡ option_or (cond b None o) p
taken_beside true o p none = sym (none refl)
taken_beside false o p none = refl

pub remove-joined : (h rest : Heap) (k : Key) → ¬ HasKey rest k → remove (joined h rest) k ≡ joined (remove h k) rest
remove-joined h rest k away = same_heap _ _ (λ q.
    get-remove key_cmp-total (joined h rest) k q
    ∙ ap (cond (key_eq q k) None) (get-joined h rest q)
    ∙ taken_beside (key_eq q k) (get h q) (get rest q) (λ tied. not_there rest q (λ has. away (subst (HasKey rest) (same_key q k tied) has)))
    ∙ ap (λ o. option_or o (get rest q)) (sym (get-remove key_cmp-total h k q))
    ∙ sym (get-joined (remove h k) rest q))
