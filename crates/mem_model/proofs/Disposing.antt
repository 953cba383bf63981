-- A location disposed of: the heap without it is one of the memory, and it is the same beside any rest.
use Rattle.std.proofs.Common.{◌≡◌, ◌⊎◌, ⊎_elim, inl, inr, ℕ, Bool, true, false, cond, not, List, [], ◌∷◌, Option, Some, None, IsTrue, refl, sym, ap, subst, ◌∙◌, true≢false}
use Rattle.std.proofs.lemmas.Bool.Decides.{Decides-eqb}
use Rattle.std.specs.FinMap.{contains_key, insert}
use Rattle.gil_values.specs.Pure.{PureValue, boolean}
use Rattle.gil_values.specs.Symbols.{OccursIn}
use Rattle.mem_model.specs.declared.keys.Key.{Key}
use Rattle.mem_model.specs.declared.keys.Sub.TheVariants.{Gone}
use Rattle.mem_model.specs.declared.keys.MemoryName.{MemoryName}
use Rattle.mem_model.specs.Keys.{key, has_subkey}
use Rattle.mem_model.specs.KeyOrder.{key_eq}
use Rattle.mem_model.specs.Heaps.{Heap, HasKey, IsWellFormed, IsHeapOf, IsCompatible, joined}
use Rattle.mem_model.specs.Actions.{ActionResult}
use Rattle.mem_model.specs.Tables.{is_among, first_missing, missed_or, dispose_whole, disposed, without_location, does, misses, IsWhole, with_all}
use Rattle.mem_model.proofs.Joins.{value_at, has_key}
use Rattle.mem_model.proofs.Holding.{same_key, itself, held_disposed, disposed-joined, held_without_location}
use Rattle.mem_model.proofs.NameKeys.{or_first, or_second, or_of}
use Rattle.mem_model.proofs.Formed.{well_formed_as}
use Rattle.mem_model.proofs.Changes.{with_none}
use Rattle.mem_model.proofs.Making.{created_well_formed}
use Rattle.mem_model.proofs.Cases.{Keeps, IsAllowed, ChangesWhenDone, IsSameWhenSettled, keeps_does, keeps_misses, same_does, same_misses, allowed_in, none_contained, rest_in_union, in_union}

-- ---- the first missing key

not_there : (b : Bool) → not b ≡ true → ¬ (b ≡ true)
not_there true is there = true≢false (sym is)
not_there false is there = true≢false (sym there)

is_there : (b : Bool) → not b ≡ false → b ≡ true
is_there true is = refl
is_there false is = sym is

first_cases : (P : Type 0) (h : Heap) (q : Key) (o r : Option Key) (b : Bool) → not (contains_key h q) ≡ b → cond b (Some q) o ≡ r → (¬ HasKey h q → Some q ≡ r → P) → (HasKey h q → o ≡ r → P) → P
first_cases P h q o r true lacks is missing there = missing (not_there (contains_key h q) lacks) is
first_cases P h q o r false has is missing there = there (is_there (contains_key h q) has) is

missing_among : (h : Heap) (ks : List Key) (k : Key) → first_missing h ks ≡ Some k → IsTrue (is_among k ks) × ¬ HasKey h k
missing_among h [] k is = absurd (cc)
missing_among h (q ∷ ks) k is = first_cases (IsTrue (is_among k (q ∷ ks)) × ¬ HasKey h k) h q (first_missing h ks) (Some k) (not (contains_key h q)) refl is
    (λ lacks found. let same : q ≡ k = cc in (or_first (key_eq k q) (is_among k ks) (subst (λ m. key_eq m q ≡ true) same (itself q)), subst (λ m. ¬ HasKey h m) same lacks))
    (λ has found. let later = missing_among h ks k found in (or_second (key_eq k q) (is_among k ks) later.0, later.1))

pub all_there : (h : Heap) (ks : List Key) → first_missing h ks ≡ None → (q : Key) → IsTrue (is_among q ks) → HasKey h q
all_there h [] is q among = absurd (true≢false (sym among))
all_there h (k ∷ ks) is q among = first_cases (HasKey h q) h k (first_missing h ks) None (not (contains_key h k)) refl is
    (λ lacks found. absurd (cc))
    (λ has none. ⊎_elim (λ same. subst (HasKey h) (sym (same_key q k same)) has) (all_there h ks none q) (or_of (key_eq q k) (is_among q ks) among))

none_missing : (h : Heap) (ks : List Key) → ((q : Key) → IsTrue (is_among q ks) → HasKey h q) → first_missing h ks ≡ None
none_missing h [] all = refl
none_missing h (k ∷ ks) all =
    ap (λ b. cond (not b) (Some k) (first_missing h ks)) (all k (or_first (key_eq k k) (is_among k ks) (itself k)))
    ∙ none_missing h ks (λ q among. all q (or_second (key_eq q k) (is_among q ks) among))

-- by what is missing
missed_cases : (P : ActionResult → Type 0) (o : Option Key) (h : Heap) (r : ActionResult) → ((k : Key) → o ≡ Some k → P (misses k h)) → (o ≡ None → P r) → P (missed_or o h r)
missed_cases P (Some k) h r missing whole = missing k refl
missed_cases P None h r missing whole = whole refl

-- ---- the heap without the location

without_well_formed : (l : ℕ) (h : Heap) → IsWellFormed h → IsWellFormed (without_location l h)
without_well_formed l h = well_formed_as (without_location l h) h
    (λ q has. let v = value_at (without_location l h) q has in has_key h q v.0 (held_without_location l h q v.0 v.1).1)
    (λ m s v other is. (held_without_location l h (key m s) v is).1)

pub disposed_well_formed : (l : ℕ) (h : Heap) → IsWellFormed h → IsWellFormed (disposed l h)
disposed_well_formed l h well =
    let bare : without_location l h ≡ with_all [] (boolean true) (without_location l h) = with_none (boolean true) (without_location l h) in
    subst (λ g. IsWellFormed (insert g (key l Gone) (boolean true))) (sym bare)
    (created_well_formed l Gone (boolean true) [] (boolean true) refl (λ q among. absurd (true≢false (sym among))) (without_location l h)
    (λ q has at_l. let v = value_at (without_location l h) q has in true≢false (sym ((Decides-eqb q.loc l).1 at_l) ∙ (held_without_location l h q v.0 v.1).0))
    (without_well_formed l h well))

key_disposed : (l : ℕ) (h : Heap) (q : Key) → HasKey (disposed l h) q → (q ≡ key l Gone) ⊎ HasKey h q
key_disposed l h q has = let v = value_at (disposed l h) q has in ⊎_elim (λ gone. inl gone.0) (λ old. inr (has_key h q v.0 old.1)) (held_disposed l h q v.0 v.1)

pub disposed_heap : (memory : MemoryName) (l : ℕ) (h : Heap) → IsTrue (has_subkey memory Gone) → IsHeapOf memory h → IsHeapOf memory (disposed l h)
disposed_heap memory l h own is = record {
  subkeys = λ q has. ⊎_elim (λ gone. subst (λ (k : Key). IsTrue (has_subkey memory k.sub)) (sym gone) own) (is.subkeys q) (key_disposed l h q has);
  well_formed = disposed_well_formed l h is.well_formed;
}

-- ---- what disposing of a whole location keeps

module _ (l : ℕ) (k : Key) (parts : List Key) where
  pub keeps_disposes : (memory : MemoryName) (fresh : Option ℕ) (args : List PureValue) (h : Heap) (d : PureValue) → IsTrue (has_subkey memory Gone) → ((q : Key) → IsTrue (is_among q parts) → IsTrue (has_subkey memory q.sub)) → IsHeapOf memory h → IsAllowed fresh args h l → IsWhole h l k parts → Keeps memory fresh args h (dispose_whole l parts h)
  keeps_disposes memory fresh args h d own parts_own is of_location whole = missed_cases (Keeps memory fresh args h) (first_missing h parts) h (does (boolean true) (disposed l h))
      (λ q missing. let m = missing_among h parts q missing in keeps_misses memory fresh args h q is (subst (IsAllowed fresh args h) (sym (whole.of_location q (or_second (key_eq q k) (is_among q parts) m.0))) of_location) m.1 (parts_own q m.0))
      (λ none. keeps_does memory fresh args h (boolean true) (disposed l h) (disposed_heap memory l h own is) (λ n occurs. absurd (none_contained n occurs))
      (allowed_in memory fresh args h (disposed l h) (λ q w at.
      ⊎_elim
      (λ gone. inr (subst (λ (m : Key). IsAllowed fresh args h m.loc) (sym gone.0) of_location, λ n occurs. absurd (none_contained n (subst (OccursIn n) gone.1 occurs))))
      (λ old. inl old.1)
      (held_disposed l h q w at))))

  pub changes_disposes : (h : Heap) → ChangesWhenDone h (dispose_whole l parts h)
  changes_disposes h = missed_cases (ChangesWhenDone h) (first_missing h parts) h (does (boolean true) (disposed l h)) (λ q missing undone. refl) (λ none undone. absurd (undone tt))

  pub same_disposes : (h rest : Heap) → IsCompatible h rest → HasKey h k → IsWhole (joined h rest) l k parts → IsSameWhenSettled rest (dispose_whole l parts h) (dispose_whole l parts (joined h rest))
  same_disposes h rest compatible there whole = missed_cases (λ r. IsSameWhenSettled rest r (dispose_whole l parts (joined h rest))) (first_missing h parts) h (does (boolean true) (disposed l h))
      (λ q missing. same_misses q h rest (dispose_whole l parts (joined h rest)))
      (λ none. subst (λ o. IsSameWhenSettled rest (does (boolean true) (disposed l h)) (missed_or o (joined h rest) (does (boolean true) (disposed l (joined h rest)))))
      (sym (none_missing (joined h rest) parts (λ q among. in_union h rest compatible q (all_there h parts none q among))))
      (whole_goes none))
    where
      away : first_missing h parts ≡ None → (q : Key) → q.loc ≡ l → ¬ HasKey rest q
      away none q at_l in_rest =
          let at : key l q.sub ≡ q = ap (λ m. key m q.sub) (sym at_l) in
          let among : IsTrue (is_among q (k ∷ parts)) = subst (λ m. IsTrue (is_among m (k ∷ parts))) at (whole.all_keys q.sub (subst (λ m. HasKey (joined h rest) m) (sym at) (rest_in_union h rest compatible q in_rest))) in
          ⊎_elim
          (λ same. compatible.disjoint k there (subst (HasKey rest) (same_key q k same) in_rest))
          (λ part. compatible.disjoint q (all_there h parts none q part) in_rest)
          (or_of (key_eq q k) (is_among q parts) among)

      whole_goes : first_missing h parts ≡ None → IsSameWhenSettled rest (does (boolean true) (disposed l h)) (does (boolean true) (disposed l (joined h rest)))
      whole_goes none = same_does (boolean true) (disposed l h) rest (disposed l (joined h rest))
          (disposed-joined l h rest (away none))
          (λ q has in_rest. ⊎_elim (λ gone. away none q (ap (λ (m : Key). m.loc) gone) in_rest) (λ old. compatible.disjoint q old in_rest) (key_disposed l h q has))
          (disposed_well_formed l (joined h rest) compatible.union_well_formed)
