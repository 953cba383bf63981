-- The keys of a block: `Bound`, and those of its cells.
use Rattle.std.proofs.Common.{◌≡◌, ⊎_elim, ℕ, zero, suc, ◌+◌, ◌-◌, ◌<◌, ◌≤◌, ℤ, pos, negsuc, ◌≤ℤ◌, ◌<ℤ◌, nat_eq, Bool, true, false, List, [], ◌∷◌, ◌++◌, Some, not, cond, IsTrue, refl, sym, ap, subst, ◌∙◌, true≢false, arith, append_assoc}
use Rattle.std.proofs.lemmas.Int.{ints}
use Rattle.std.proofs.lemmas.Bool.Decides.{Decides-eqb}
use Rattle.std.specs.FinMap.{contains_key}
use Rattle.gil_values.specs.Pure.{PureValue, integer}
use Rattle.mem_model.specs.declared.keys.Key.{Key}
use Rattle.mem_model.specs.declared.keys.Sub.{Sub}
use Rattle.mem_model.specs.declared.keys.Sub.TheVariants.{Name, At, Shape, Bound, Dom, Proto, Gone}
use Rattle.mem_model.specs.declared.keys.MemoryName.TheVariants.{Block}
use Rattle.mem_model.specs.Keys.{key, has_subkey}
use Rattle.mem_model.specs.KeyOrder.{key_eq}
use Rattle.mem_model.specs.Heaps.{Heap, Holds, HasKey, IsHeapOf}
use Rattle.mem_model.specs.Tables.{is_among, first_missing, IsWhole}
use Rattle.mem_model.proofs.Joins.{has_key}
use Rattle.mem_model.proofs.Holding.{same_key, itself}
use Rattle.mem_model.proofs.Formed.{PartFits}
use Rattle.mem_model.proofs.NameKeys.{or_first, or_second, or_of}
use Rattle.block_heap.specs.Table.{cells_from, cell_keys, count_of}

-- ---- the steps of loops over cells

cells_left : (l i n : ℕ) → i < n → cells_from l i (n - i) ≡ key l (At (pos i)) ∷ cells_from l (i + 1) (n - (i + 1))
cells_left l i n below = let more : n - i ≡ suc (n - (i + 1)) = omega arith in ap (cells_from l i) more

pub keys_go_on : (l i n : ℕ) (before after : List Key) (k : Key) → i < n → k ≡ key l (At (pos i)) → after ≡ before ++ k ∷ []
    → before ++ cells_from l i (n - i) ≡ cell_keys l n → after ++ cells_from l (i + 1) (n - (i + 1)) ≡ cell_keys l n
keys_go_on l i n before after k below is pushed so_far =
    ap (λ ks. ks ++ cells_from l (i + 1) (n - (i + 1))) pushed
    ∙ append_assoc before (k ∷ []) (cells_from l (i + 1) (n - (i + 1)))
    ∙ ap (λ q. before ++ q ∷ cells_from l (i + 1) (n - (i + 1))) is
    ∙ ap (λ ks. before ++ ks) (sym (cells_left l i n below))
    ∙ so_far

pub missing_goes_on : (h : Heap) (l i n : ℕ) (k : Key) (b : Bool) → i < n → k ≡ key l (At (pos i)) → b ≡ contains_key h k
    → b ≡ true → first_missing h (cells_from l i (n - i)) ≡ first_missing h (cell_keys l n)
    → first_missing h (cells_from l (i + 1) (n - (i + 1))) ≡ first_missing h (cell_keys l n)
missing_goes_on h l i n k b below is has there so_far =
    let present : contains_key h (key l (At (pos i))) ≡ true = ap (contains_key h) (sym is) ∙ sym has ∙ there in
    ap (λ c. cond (not c) (Some (key l (At (pos i)))) (first_missing h (cells_from l (i + 1) (n - (i + 1))))) (sym present)
    ∙ ap (first_missing h) (sym (cells_left l i n below))
    ∙ so_far

-- ---- which cells there are

among_cells : (l n i j : ℕ) → i ≤ j → j < i + n → IsTrue (is_among (key l (At (pos j))) (cells_from l i n))
among_cells l zero i j low high = absurd (omega arith)
among_cells l (suc n) i j low high = by_offset (nat_eq j i) refl (λ other. among_cells l n (i + 1) j (omega arith) (omega arith))
  where
    by_offset : (b : Bool) → nat_eq j i ≡ b → (¬ (j ≡ i) → IsTrue (is_among (key l (At (pos j))) (cells_from l (i + 1) n)))
        → IsTrue (is_among (key l (At (pos j))) (cells_from l i (suc n)))
    by_offset true same later =
        or_first (key_eq (key l (At (pos j))) (key l (At (pos i)))) _
        (ap (λ m. key_eq (key l (At (pos j))) (key l (At (pos m)))) (sym ((Decides-eqb j i).0 same)) ∙ itself (key l (At (pos j))))
    by_offset false other later =
        or_second (key_eq (key l (At (pos j))) (key l (At (pos i)))) _ (later (λ same. true≢false (sym ((Decides-eqb j i).1 same) ∙ other)))

-- a key of a cell from an offset on
abbrev pub IsCell : ℕ → ℕ → ℕ → Key → Type 0
IsCell l i n q = (j : ℕ) × (q ≡ key l (At (pos j))) × (i ≤ j) × (j < i + n)

pub cell_among : (l n i : ℕ) (q : Key) → IsTrue (is_among q (cells_from l i n)) → IsCell l i n q
cell_among l zero i q among = absurd (true≢false (sym among))
cell_among l (suc n) i q among = ⊎_elim
    (λ same. (i, same_key q (key l (At (pos i))) same, omega arith, omega arith))
    (λ later. let c = cell_among l n (i + 1) q later in (c.0, c.1, omega (arith, c.2), omega (arith, c.3)))
    (or_of (key_eq q (key l (At (pos i)))) (is_among q (cells_from l (i + 1) n)) among)

-- ---- a whole block

pub cells_fit : (l : ℕ) (n : ℕ) (q : Key) → IsTrue (is_among q (cell_keys l n)) → (q.loc ≡ l) × PartFits Bound (integer (pos n)) q.sub
cells_fit l n q among =
    let c = cell_among l n 0 q among in
    let low : pos 0 ≤ℤ pos c.0 = omega (arith, ints) in
    let high : pos c.0 <ℤ pos n = omega (arith, ints, c.3) in
    (ap (λ (k : Key). k.loc) c.1, subst (λ (k : Key). PartFits Bound (integer (pos n)) k.sub) (sym c.1) (low, high))

pub cells_own : (l n : ℕ) (q : Key) → IsTrue (is_among q (cell_keys l n)) → IsTrue (has_subkey Block q.sub)
cells_own l n q among = let c = cell_among l n 0 q among in subst (λ (k : Key). IsTrue (has_subkey Block k.sub)) (sym c.1) refl

not_true : (b : Bool) → ¬ (b ≡ true) → b ≡ false
not_true true other = absurd (other refl)
not_true false other = refl

no_gone_cell : (l j : ℕ) → ¬ (key l Gone ≡ key l (At (pos j)))
no_gone_cell l j same = let subs : ◌≡◌ {A = Sub} Gone (At (pos j)) = ap (λ (k : Key). k.sub) same in absurd (cc)

no_gone_bound : (l : ℕ) → ¬ (key l Gone ≡ key l Bound)
no_gone_bound l same = let subs : ◌≡◌ {A = Sub} Gone Bound = ap (λ (k : Key). k.sub) same in absurd (cc)

-- a cell within a bound is one of so many
within_count : (l : ℕ) (n i : ℤ) → pos 0 ≤ℤ i → i <ℤ n → IsTrue (is_among (key l (At i)) (cell_keys l (count_of (integer n))))
within_count l (pos n) (pos i) low high = among_cells l n 0 i (omega arith) (omega (arith, ints))
within_count l (negsuc n) (pos i) low high = absurd (omega (arith, ints))
within_count l n (negsuc i) low high = absurd (omega (arith, ints))

module _ (h : Heap) (l : ℕ) (d : PureValue) (is : IsHeapOf Block h) (at : Holds h (key l Bound) d) where
  all_keys : (s : Sub) → HasKey h (key l s) → IsTrue (is_among (key l s) (key l Bound ∷ cell_keys l (count_of d)))
  all_keys (At i) has =
      let n = is.well_formed.bound_is_number l d at in
      let within = is.well_formed.cells_in_bound l n.0 i (subst (Holds h (key l Bound)) n.1 at) has in
      or_second (key_eq (key l (At i)) (key l Bound)) _
      (subst (λ v. IsTrue (is_among (key l (At i)) (cell_keys l (count_of v)))) (sym n.1) (within_count l n.0 i within.0 within.1))
  all_keys Bound has = or_first (key_eq (key l Bound) (key l Bound)) _ (itself (key l Bound))
  all_keys Gone has = let same : ◌≡◌ {A = Sub} Bound Gone =
      is.well_formed.gone_alone l Bound has (has_key h (key l Bound) d at) in absurd (cc)
  all_keys (Name p) has = absurd (true≢false (sym (is.subkeys (key l (Name p)) has)))
  all_keys Shape has = absurd (true≢false (sym (is.subkeys (key l Shape) has)))
  all_keys Dom has = absurd (true≢false (sym (is.subkeys (key l Dom) has)))
  all_keys Proto has = absurd (true≢false (sym (is.subkeys (key l Proto) has)))

  pub block_whole : IsWhole h l (key l Bound) (cell_keys l (count_of d))
  block_whole = record {
    all_keys = all_keys;
    of_location =
        λ q among. ⊎_elim (λ bound. ap (λ (k : Key). k.loc) (same_key q (key l Bound) bound))
        (λ cell. let c = cell_among l (count_of d) 0 q cell in ap (λ (k : Key). k.loc) c.1) (or_of (key_eq q (key l Bound)) _ among);
    not_gone = not_true _
        (λ among. ⊎_elim (λ bound. no_gone_bound l (same_key (key l Gone) (key l Bound) bound))
        (λ cell. let c = cell_among l (count_of d) 0 (key l Gone) cell in
        no_gone_cell l c.0 c.1) (or_of (key_eq (key l Gone) (key l Bound)) _ among));
  }
