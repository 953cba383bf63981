-- A new location: the heap with it is one of the memory, and it is the same beside any rest.
use Rattle.std.proofs.Common.{◌≡◌, ◌⊎◌, ⊎_elim, inl, inr, ℕ, List, Option, Some, IsTrue, sym, ap, subst, ◌∙◌}
use Rattle.std.specs.FinMap.{empty}
use Rattle.gil_values.specs.Pure.{PureValue}
use Rattle.gil_values.specs.Symbols.{OccursIn}
use Rattle.mem_model.specs.declared.keys.Key.{Key}
use Rattle.mem_model.specs.declared.keys.Sub.{Sub}
use Rattle.mem_model.specs.declared.keys.MemoryName.{MemoryName}
use Rattle.mem_model.specs.Keys.{key, has_subkey}
use Rattle.mem_model.specs.Heaps.{Heap, HasKey, IsWellFormed, IsHeapOf, IsCompatible, joined, OccursInHeap}
use Rattle.mem_model.specs.Tables.{is_among, created, does}
use Rattle.mem_model.proofs.Joins.{value_at, has_key}
use Rattle.mem_model.proofs.Parts.{no_key}
use Rattle.mem_model.proofs.Holding.{held_created, created-joined, created-apart}
use Rattle.mem_model.proofs.Formed.{HeadFits, PartFits, apart_well_formed, made_well_formed}
use Rattle.mem_model.proofs.Cases.{Keeps, IsAllowed, IsSameWhenSettled, keeps_does, same_does, allowed_in, rest_in_union}

-- the location of no key of the heap
abbrev pub IsNewLocation : ℕ → Heap → Type 0
IsNewLocation l h = (q : Key) → HasKey h q → ¬ (q.loc ≡ l)

pub new_location : (fresh : Option ℕ) (l : ℕ) (h : Heap) → fresh ≡ Some l → ((n : ℕ) → fresh ≡ Some n → ¬ OccursInHeap n h) → IsNewLocation l h
new_location fresh l h is is_new q has at_l = let v = value_at h q has in is_new l is (q, (v.0, (v.1, inl at_l)))

pub lacks_new : (l : ℕ) (ks : List Key) (h : Heap) → IsNewLocation l h → ((q : Key) → IsTrue (is_among q ks) → q.loc ≡ l) → (q : Key) → IsTrue (is_among q ks) → ¬ HasKey h q
lacks_new l ks h is_new own q among has = is_new q has (own q among)

module _ (l : ℕ) (s : Sub) (d : PureValue) (parts : List Key) (v : PureValue) (head : HeadFits s d) (fit : (q : Key) → IsTrue (is_among q parts) → (q.loc ≡ l) × PartFits s d q.sub) where
  abbrev after : Heap → Heap
  after h = created (key l s) d parts v h

  key_after : (h : Heap) (q : Key) → HasKey (after h) q → ((q ≡ key l s) ⊎ IsTrue (is_among q parts)) ⊎ HasKey h q
  key_after h q has =
      let w = value_at (after h) q has in
      ⊎_elim (λ at_head. inl (inl at_head.0)) (λ other. ⊎_elim (λ part. inl (inr part.0)) (λ old. inr (has_key h q w.0 old)) other) (held_created (key l s) d parts h q v w.0 w.1)

  new_key : (q : Key) → (q ≡ key l s) ⊎ IsTrue (is_among q parts) → q.loc ≡ l
  new_key q which = ⊎_elim (λ at_head. ap (λ (k : Key). k.loc) at_head) (λ part. (fit q part).0) which

  made_key : (q : Key) → HasKey (after empty) q → q.loc ≡ l
  made_key q has = ⊎_elim (new_key q) (λ old. absurd (no_key q old)) (key_after empty q has)

  pub created_well_formed : (h : Heap) → IsNewLocation l h → IsWellFormed h → IsWellFormed (after h)
  created_well_formed h is_new well = subst IsWellFormed (sym (created-apart (key l s) d parts v h))
      (apart_well_formed (after empty) h (λ k q in_made in_h same. is_new q in_h (sym same ∙ made_key k in_made)) (made_well_formed l s d parts v head fit) well)

  pub created_heap : (memory : MemoryName) (h : Heap) → IsTrue (has_subkey memory s) → ((q : Key) → IsTrue (is_among q parts) → IsTrue (has_subkey memory q.sub)) → IsNewLocation l h → IsHeapOf memory h → IsHeapOf memory (after h)
  created_heap memory h own parts_own is_new is = record {
    subkeys = λ q has. ⊎_elim (λ new. ⊎_elim (λ at_head. subst (λ (k : Key). IsTrue (has_subkey memory k.sub)) (sym at_head) own) (parts_own q) new) (is.subkeys q) (key_after h q has);
    well_formed = created_well_formed h is_new is.well_formed;
  }

  pub same_creates : (r : PureValue) (h rest : Heap) → IsCompatible h rest → IsNewLocation l (joined h rest) → IsSameWhenSettled rest (does r (after h)) (does r (after (joined h rest)))
  same_creates r h rest compatible is_new = same_does r (after h) rest (after (joined h rest))
      (created-joined (key l s) d parts v h rest)
      (λ q has in_rest. ⊎_elim (λ new. is_new q (rest_in_union h rest compatible q in_rest) (new_key q new)) (λ old. compatible.disjoint q old in_rest) (key_after h q has))
      (created_well_formed (joined h rest) is_new compatible.union_well_formed)

  pub keeps_creates : (memory : MemoryName) (fresh : Option ℕ) (args : List PureValue) (h : Heap) (r : PureValue) → IsTrue (has_subkey memory s) → ((q : Key) → IsTrue (is_among q parts) → IsTrue (has_subkey memory q.sub)) → IsNewLocation l h → IsHeapOf memory h → IsAllowed fresh args h l → ((n : ℕ) → OccursIn n d → IsAllowed fresh args h n) → ((n : ℕ) → OccursIn n v → IsAllowed fresh args h n) → ((n : ℕ) → OccursIn n r → IsAllowed fresh args h n) → Keeps memory fresh args h (does r (after h))
  keeps_creates memory fresh args h r own parts_own is_new is of_location of_head of_parts of_result = keeps_does memory fresh args h r (after h)
      (created_heap memory h own parts_own is_new is)
      of_result
      (allowed_in memory fresh args h (after h) (λ q w at.
      ⊎_elim
      (λ at_head. inr (subst (λ (k : Key). IsAllowed fresh args h k.loc) (sym at_head.0) of_location, λ n occurs. of_head n (subst (OccursIn n) at_head.1 occurs)))
      (λ other. ⊎_elim (λ part. inr (subst (IsAllowed fresh args h) (sym (fit q part.0).0) of_location, λ n occurs. of_parts n (subst (OccursIn n) part.1 occurs))) inl other)
      (held_created (key l s) d parts h q v w at)))
