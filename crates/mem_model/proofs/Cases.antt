-- What the cases of an action table keep, and from that what the table keeps.
use Rattle.std.proofs.Common.{◌≡◌, ◌⊎◌, ⊎_elim, inl, inr, ℕ, Bool, true, false, if◌then◌else◌, List, [], Option, Some, None, Result, Ok, Err, IsTrue, IsSome, refl, sym, subst, true≢false}
use Rattle.std.proofs.Math.Nat.{not-suc-le-zero}
use Rattle.std.specs.List.{Contains}
use Rattle.std.specs.Option.{option_or}
use Rattle.std.specs.FinMap.{get}
use Rattle.gil_values.specs.Pure.{PureValue}
use Rattle.gil_values.specs.Symbols.{OccursIn, OccursAmong}
use Rattle.mem_model.specs.declared.keys.Key.{Key}
use Rattle.mem_model.specs.declared.keys.Sub.{Sub}
use Rattle.mem_model.specs.declared.keys.Sub.TheVariants.{Gone}
use Rattle.mem_model.specs.declared.keys.MemoryName.{MemoryName}
use Rattle.mem_model.specs.declared.failures.Failure.{Failure}
use Rattle.mem_model.specs.Pure.{miss}
use Rattle.mem_model.specs.Keys.{key, has_subkey}
use Rattle.mem_model.specs.Heaps.{Heap, Holds, HasKey, IsWellFormed, IsHeapOf, IsDisjoint, IsCompatible, joined, OccursInHeap}
use Rattle.mem_model.specs.Actions.{ActionResult, IsDone, IsSettled, OccursInOutcome, IsSameBeside}
use Rattle.mem_model.specs.Names.{lists_name}
use Rattle.mem_model.specs.Tables.{does, fails, misses, found_or, at, unlisted_at, read_or_fail}
use Rattle.mem_model.proofs.Joins.{get-joined}
use Rattle.mem_model.proofs.Compatible.{first_part, second_part}
use Rattle.mem_model.proofs.Parts.{part_has}

pub none_contained : (n : ℕ) → ¬ Contains [] n
none_contained n is = not-suc-le-zero is.1

-- ---- cases

-- by what is at a key
pub found_cases : (P : ActionResult → Type 0) (o : Option PureValue) (f : PureValue → ActionResult) (r : ActionResult) → ((v : PureValue) → o ≡ Some v → P (f v)) → (¬ IsSome o → P r) → P (found_or o f r)
found_cases P (Some v) f r there missing = there v refl
found_cases P None f r there missing = missing (λ is. true≢false (sym is))

pub at_cases : (P : ActionResult → Type 0) (h : Heap) (k : Key) (f : PureValue → ActionResult) (r : ActionResult) → ((v : PureValue) → Holds h k v → P (f v)) → (¬ HasKey h k → P r) → P (at h k f r)
at_cases P h k f r there missing = found_cases P (get h k) f r there missing

pub read_cases : {X : Type 0} (P : ActionResult → Type 0) (x : Result X Failure) (f : X → ActionResult) (h : Heap) → ((v : X) → x ≡ Ok v → P (f v)) → ((e : Failure) → P (fails e h)) → P (read_or_fail x f h)
read_cases P (Ok v) f h good bad = good v refl
read_cases P (Err e) f h good bad = bad e

-- ---- what one result keeps

-- a symbol that the result may have
abbrev pub IsAllowed : Option ℕ → List PureValue → Heap → ℕ → Type 0
IsAllowed fresh args h n = (fresh ≡ Some n) ⊎ (OccursAmong n args ⊎ OccursInHeap n h)

pub record Keeps (memory : MemoryName) (fresh : Option ℕ) (args : List PureValue) (h : Heap) (r : ActionResult) : Type 0 where
  pub invents : (n : ℕ) → OccursInOutcome n r.outcome ⊎ OccursInHeap n r.heap → IsAllowed fresh args h n
  pub is_heap : IsHeapOf memory r.heap
  pub lacks : (k : Key) → r.outcome ≡ miss k → ¬ HasKey h k × IsTrue (has_subkey memory k.sub)

-- only what is done changes the heap
abbrev pub ChangesWhenDone : Heap → ActionResult → Type 0
ChangesWhenDone h r = ¬ IsDone r.outcome → r.heap ≡ h

module _ (memory : MemoryName) (fresh : Option ℕ) (args : List PureValue) (h : Heap) where
  pub keeps_fails : (f : Failure) → IsHeapOf memory h → Keeps memory fresh args h (fails f h)
  keeps_fails f is = record {
    invents = λ n occurs. ⊎_elim (λ in_text. absurd (none_contained n in_text)) (λ in_heap. inr (inr in_heap)) occurs;
    is_heap = is;
    lacks = λ k missed. absurd (cc);
  }

  pub keeps_misses : (k : Key) → IsHeapOf memory h → IsAllowed fresh args h k.loc → ¬ HasKey h k → IsTrue (has_subkey memory k.sub) → Keeps memory fresh args h (misses k h)
  keeps_misses k is allowed lacks own = record {
    invents = λ n occurs. ⊎_elim (λ in_key. subst (IsAllowed fresh args h) in_key allowed) (λ in_heap. inr (inr in_heap)) occurs;
    is_heap = is;
    lacks = λ q missed. let same : k ≡ q = cc in (subst (λ m. ¬ HasKey h m) same lacks, subst (λ (m : Key). IsTrue (has_subkey memory m.sub)) same own);
  }

  -- done with a value, after which the heap is another one
  pub keeps_does : (v : PureValue) (g : Heap) → IsHeapOf memory g → ((n : ℕ) → OccursIn n v → IsAllowed fresh args h n) → ((n : ℕ) → OccursInHeap n g → IsAllowed fresh args h n) → Keeps memory fresh args h (does v g)
  keeps_does v g is of_value of_heap = record {
    invents = λ n occurs. ⊎_elim (of_value n) (of_heap n) occurs;
    is_heap = is;
    lacks = λ k missed. absurd (cc);
  }

  -- done with a value, and the heap stays
  pub keeps_tells : (v : PureValue) → IsHeapOf memory h → ((n : ℕ) → OccursIn n v → IsAllowed fresh args h n) → Keeps memory fresh args h (does v h)
  keeps_tells v is of_value = keeps_does v h is of_value (λ n in_heap. inr (inr in_heap))

  -- a symbol in a value of the heap
  pub allowed_held : (k : Key) (v : PureValue) → Holds h k v → (n : ℕ) → OccursIn n v → IsAllowed fresh args h n
  allowed_held k v is n occurs = inr (inr (k, (v, (is, inr occurs))))

  pub allowed_key : (k : Key) (v : PureValue) → Holds h k v → IsAllowed fresh args h k.loc
  allowed_key k v is = inr (inr (k, (v, (is, inl refl))))

  -- Each key and value of the new heap is one of the old heap, or has allowed symbols alone.
  pub allowed_in : (g : Heap) → ((k : Key) (v : PureValue) → Holds g k v → Holds h k v ⊎ (IsAllowed fresh args h k.loc × ((n : ℕ) → OccursIn n v → IsAllowed fresh args h n))) → (n : ℕ) → OccursInHeap n g → IsAllowed fresh args h n
  allowed_in g from n occurs =
      let k = occurs.0 in
      let v = occurs.1.0 in
      ⊎_elim
      (λ old. inr (inr (k, (v, (old, occurs.1.1.1)))))
      (λ allowed. ⊎_elim (λ in_key. subst (IsAllowed fresh args h) in_key allowed.0) (allowed.1 n) occurs.1.1.1)
      (from k v occurs.1.1.0)

-- ---- locality of one result

-- what is settled is the same beside the rest
abbrev pub IsSameWhenSettled : Heap → ActionResult → ActionResult → Type 0
IsSameWhenSettled rest small large = IsSettled small.outcome → IsSameBeside rest small large

pub same_fails : (f : Failure) (h rest : Heap) → IsCompatible h rest → IsSameWhenSettled rest (fails f h) (fails f (joined h rest))
same_fails f h rest compatible settled = record { outcome = refl; heap = refl; compatible = compatible }

pub same_tells : (v : PureValue) (h rest : Heap) → IsCompatible h rest → IsSameWhenSettled rest (does v h) (does v (joined h rest))
same_tells v h rest compatible settled = record { outcome = refl; heap = refl; compatible = compatible }

pub same_misses : (k : Key) (h rest : Heap) (large : ActionResult) → IsSameWhenSettled rest (misses k h) large
same_misses k h rest large settled = absurd settled

pub same_does : (v : PureValue) (g rest large : Heap) → large ≡ joined g rest → IsDisjoint g rest → IsWellFormed large → IsSameWhenSettled rest (does v g) (does v large)
same_does v g rest large is apart well settled = record {
  outcome = refl;
  heap = is;
  compatible = record { disjoint = apart; union_well_formed = subst IsWellFormed is well };
}

module _ (P : ActionResult → ActionResult → Type 0) where
  found_both : (o p : Option PureValue) (f : PureValue → ActionResult) (r : ActionResult) (g : PureValue → ActionResult) (s : ActionResult) → ((v : PureValue) → o ≡ Some v → P (f v) (g v)) → (¬ IsSome o → ¬ IsSome p → P r s) → ((v : PureValue) → ¬ IsSome o → p ≡ Some v → P r (g v)) → P (found_or o f r) (found_or (option_or o p) g s)
  found_both (Some v) p f r g s here nowhere there = here v refl
  found_both None (Some v) f r g s here nowhere there = there v (λ is. true≢false (sym is)) refl
  found_both None None f r g s here nowhere there = nowhere (λ is. true≢false (sym is)) (λ is. true≢false (sym is))

  -- by what is at a key of the heap, of the rest, or of neither
  pub at_both : (h rest : Heap) (k : Key) (f : PureValue → ActionResult) (r : ActionResult) (g : PureValue → ActionResult) (s : ActionResult) → ((v : PureValue) → Holds h k v → P (f v) (g v)) → (¬ HasKey h k → ¬ HasKey rest k → P r s) → ((v : PureValue) → ¬ HasKey h k → Holds rest k v → P r (g v)) → P (at h k f r) (at (joined h rest) k g s)
  at_both h rest k f r g s here nowhere there =
      subst (λ o. P (at h k f r) (found_or o g s)) (sym (get-joined h rest k)) (found_both (get h k) (get rest k) f r g s here nowhere there)

  pub read_both : {X : Type 0} (x : Result X Failure) (f : X → ActionResult) (h : Heap) (g : X → ActionResult) (j : Heap) → ((v : X) → x ≡ Ok v → P (f v) (g v)) → ((e : Failure) → P (fails e h) (fails e j)) → P (read_or_fail x f h) (read_or_fail x g j)
  read_both (Ok v) f h g j good bad = good v refl
  read_both (Err e) f h g j good bad = bad e

-- ---- the heap beside a rest

module _ (h rest : Heap) (compatible : IsCompatible h rest) where
  pub in_union : (k : Key) → HasKey h k → HasKey (joined h rest) k
  in_union = part_has h (joined h rest) (first_part h rest compatible.disjoint)

  pub rest_in_union : (k : Key) → HasKey rest k → HasKey (joined h rest) k
  rest_in_union = part_has rest (joined h rest) (second_part h rest compatible.disjoint)

  pub held_in_union : (k : Key) (v : PureValue) → Holds h k v → Holds (joined h rest) k v
  held_in_union = first_part h rest compatible.disjoint

  -- a location that is gone has no key in the rest
  pub gone_apart : (l : ℕ) (s : Sub) → HasKey h (key l Gone) → ¬ HasKey rest (key l s)
  gone_apart l s gone has =
      let same : s ≡ Gone = compatible.union_well_formed.gone_alone l s (in_union (key l Gone) gone) (rest_in_union (key l s) has) in
      compatible.disjoint (key l Gone) gone (subst (λ t. HasKey rest (key l t)) same has)

  -- where the rest has the key of a location that is gone, the heap has no key of it
  pub gone_there : (l : ℕ) (s : Sub) → HasKey rest (key l Gone) → ¬ HasKey h (key l s)
  gone_there l s gone has =
      let same : s ≡ Gone = compatible.union_well_formed.gone_alone l s (rest_in_union (key l Gone) gone) (in_union (key l s) has) in
      compatible.disjoint (key l s) has (subst (λ t. HasKey rest (key l t)) (sym same) gone)

-- ---- lists of names without a name

if_cases : (P : ActionResult → Type 0) (b : Bool) (r f : ActionResult) → (b ≡ false → P f) → P r → P (if b then r else f)
if_cases P true r f unlisted otherwise = otherwise
if_cases P false r f unlisted otherwise = unlisted refl

pub unlisted_cases : (P : ActionResult → Type 0) (h : Heap) (k : Key) (p : List ℕ) (f : PureValue → ActionResult) (r : ActionResult) → ((d : PureValue) → Holds h k d → lists_name d p ≡ false → P (f d)) → P r → P (unlisted_at h k p f r)
unlisted_cases P h k p f r unlisted otherwise = at_cases P h k (λ d. if lists_name d p then r else f d) r
    (λ d is. if_cases P (lists_name d p) r (f d) (unlisted d is) otherwise)
    (λ missing. otherwise)

if_both : (P : ActionResult → ActionResult → Type 0) (b : Bool) (r f s g : ActionResult) → P f g → ((large : ActionResult) → P r large) → P (if b then r else f) (if b then s else g)
if_both P true r f s g unlisted otherwise = otherwise s
if_both P false r f s g unlisted otherwise = unlisted

-- where what follows is a miss, which isn't settled
pub unlisted_both : (P : ActionResult → ActionResult → Type 0) (h rest : Heap) (k : Key) (p : List ℕ) (f : PureValue → ActionResult) (r : ActionResult) (g : PureValue → ActionResult) (s : ActionResult) → ((d : PureValue) → Holds h k d → P (f d) (g d)) → ((large : ActionResult) → P r large) → P (unlisted_at h k p f r) (unlisted_at (joined h rest) k p g s)
unlisted_both P h rest k p f r g s unlisted otherwise = at_both P h rest k (λ d. if lists_name d p then r else f d) r (λ d. if lists_name d p then s else g d) s
    (λ d is. if_both P (lists_name d p) r (f d) s (g d) (unlisted d is) otherwise)
    (λ missing missing_there. otherwise s)
    (λ d missing is. otherwise (if lists_name d p then s else g d))
