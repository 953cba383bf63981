-- Where a bound is a literal and as many cells stand at its location term, all cells of the location are there, and no chunk of
-- another term is one of the location's.
use Rattle.std.proofs.Common.{◌≡◌, ⊎_elim, inl, inr, ℕ, zero, suc, ◌+◌, ◌-◌, ◌<◌, ◌≤◌, ℤ, pos, negsuc, ◌≤ℤ◌, ◌<ℤ◌, nat_eq, List, [], ◌∷◌, ◌++◌, length, Bool, true, false, not, ◌||◌, ◌&&◌, cond, if◌then◌else◌, Option, Some, None, IsSome, IsTrue, is_some, slice_get, refl, sym, ap, subst, ◌∙◌, true≢false, arith}
use Rattle.std.specs.FinMap.{get, remove, get-remove, get-empty}
use Rattle.std.specs.List.{list_any, remove as remove_at, AllByRecursion, IsDistinct}
use Rattle.std.specs.Prelude.{nat_le}
use Rattle.std.proofs.lemmas.Bool.{or_cases, and_parts}
use Rattle.std.proofs.lemmas.Bool.Decides.{Decides-eqb, nat_tests}
use Rattle.std.proofs.lemmas.Int.{ints}
use Rattle.std.proofs.lemmas.Map.Keys.{IsDistinct-cons}
use Rattle.std.proofs.lemmas.Map.Steps.{length-le_from_distinct_below}
use Rattle.gil_values.specs.Pure.{PureValue, integer, symbol}
use Rattle.mem_model.specs.declared.keys.Key.{Key}
use Rattle.mem_model.specs.declared.keys.Sub.{Sub}
use Rattle.mem_model.specs.declared.keys.Sub.TheVariants.{At, Bound}
use Rattle.mem_model.specs.declared.keys.MemoryName.TheVariants.{Block}
use Rattle.mem_model.specs.Heaps.{Heap, Holds, HasKey, IsHeapOf}
use Rattle.mem_model.specs.Keys.{key, key_cmp}
use Rattle.mem_model.specs.KeyOrder.{key_cmp-total, key_eq}
use Rattle.mem_model.specs.Tables.{is_among, without_location, first_missing}
use Rattle.mem_model.proofs.Changes.{get-without_location}
use Rattle.mem_model.proofs.Holding.{same_key}
use Rattle.mem_model.proofs.Joins.{same_heap, value_at, has_key}
use Rattle.mem_model.proofs.NameKeys.{or_of}
use Rattle.block_heap.specs.Cells.{cell_among, block_whole}
use Rattle.block_heap.specs.Table.{cells_from, cell_keys, count_of}
use Rattle.block_sym.specs.Table.{number, is_cell, is_cell_at, cells_at, is_whole, elsewhere}
use Rattle.pure_terms.specs.declared.literals.Literal.{Literal}
use Rattle.pure_terms.specs.Equality.{same_term}
use Rattle.pure_terms.specs.EqualityLaws.{same_term-same, same_term-refl}
use Rattle.pure_terms.specs.Meaning.{value}
use Rattle.pure_terms.specs.Pure.{PureTerm, literal, variable, list_of, unary_of, binary_of}
use Rattle.sym_model.specs.Chunks.{IsEntry, IsUnion}
use Rattle.sym_model.specs.Lists.{Each}
use Rattle.sym_model.specs.Meaning.{sub_value}
use Rattle.sym_model.specs.Pure.{PureSub, named, cell, shape, bound, dom, proto, gone, PureChunk}
use Rattle.sym_model.proofs.ChunkMeaning.{loc_value}
use Rattle.sym_model.proofs.ListLaws.{same_some, not_none}
use Rattle.sym_model.proofs.Unions.{left_is_other, has_before, holds_entry, taken_out, same_entry}
use Rattle.sym_chunks.proofs.Facts.{same_symbols, keys_equal, cell_from, sub_of_entry}

-- ---- what is whole

no_truth : {X : Type 0} → false ≡ true → X
no_truth e = absurd (true≢false (sym e))

not_true : (b : Bool) → ¬ (b ≡ true) → b ≡ false
not_true true other = absurd (other refl)
not_true false other = refl

pub le_of : (m n : ℕ) → nat_le m n ≡ true → m ≤ n
le_of m n is = grind (arith, nat_tests)

-- only a literal number can be the bound of a whole block
pub whole_number : (m t : PureTerm) (cs : List PureChunk) → is_whole m t cs ≡ true → (n : ℤ) × ((t ≡ number n) × (count_of (integer n) ≤ cells_at m cs))
whole_number m (literal (Literal.Int n)) cs is = (n, (refl, le_of (count_of (integer n)) (cells_at m cs) is))
whole_number m (literal (Literal.Bool n)) cs is = no_truth is
whole_number m (literal (Literal.Str n)) cs is = no_truth is
whole_number m (literal (Literal.Kind n)) cs is = no_truth is
whole_number m (literal (Literal.Proc n)) cs is = no_truth is
whole_number m (list_of ts) cs is = no_truth is
whole_number m (variable x) cs is = no_truth is
whole_number m (unary_of op t) cs is = no_truth is
whole_number m (binary_of op s t) cs is = no_truth is

-- a number inside a bound is one of so many
pub inside_count : (i n : ℤ) → pos 0 ≤ℤ i → i <ℤ n → (j : ℕ) × ((i ≡ pos j) × (j < count_of (integer n)))
inside_count (pos j) (pos k) low high = (j, (refl, omega (arith, ints, high)))
inside_count (pos j) (negsuc k) low high = absurd (omega (arith, ints, high))
inside_count (negsuc j) n low high = absurd (omega (arith, ints, low))

-- ---- chunks elsewhere

module _ (P : PureChunk → Type 0) (m : PureTerm) where
  each_if : (t : Bool) (c : PureChunk) (cs : List PureChunk) → P c → Each P cs → Each P (if t then cs else c ∷ cs)
  each_if true c cs here rest = rest
  each_if false c cs here rest = (here, rest)

  pub each_elsewhere : (cs : List PureChunk) → Each P cs → Each P (elsewhere m cs)
  each_elsewhere [] all = tt
  each_elsewhere (c ∷ cs) all = each_if (same_term c.loc m) c (elsewhere m cs) all.0 (each_elsewhere cs all.1)

-- no cell is lost with a chunk of another term
other_cells : (m : PureTerm) (cs : List PureChunk) (i : ℕ) (d : PureChunk) → slice_get cs i ≡ Some d → same_term d.loc m ≡ false → cells_at m (remove_at cs i) ≡ cells_at m cs
other_cells m [] i d there other = not_none there
other_cells m (c ∷ cs) zero d there other = no_cell (same_term c.loc m) (ap (λ (e : PureChunk). same_term e.loc m) (same_some there) ∙ other)
  where
    no_cell : (t : Bool) → t ≡ false → cells_at m cs ≡ (if t && is_cell c.sub then suc (cells_at m cs) else cells_at m cs)
    no_cell true e = absurd (true≢false e)
    no_cell false e = refl
other_cells m (c ∷ cs) (suc i) d there other = ap (λ k. if is_cell_at m c then suc k else k) (other_cells m cs i d there other)

-- ---- keys that differ

added_distinct : (j : ℕ) (os : List ℕ) → list_any (nat_eq j) os ≡ false → IsDistinct nat_eq os → IsDistinct nat_eq (j ∷ os)
added_distinct j os none distinct = IsDistinct-cons nat_eq j os (apart os none) distinct
  where
    first_false : (b c : Bool) → (b || c) ≡ false → b ≡ false
    first_false true c e = absurd (true≢false e)
    first_false false c e = refl

    second_false : (b c : Bool) → (b || c) ≡ false → c ≡ false
    second_false true c e = absurd (true≢false e)
    second_false false c e = e

    apart : (ps : List ℕ) → list_any (nat_eq j) ps ≡ false → AllByRecursion (λ p. nat_eq j p ≡ false) ps
    apart [] e = tt
    apart (p ∷ ps) e = (first_false (nat_eq j p) (list_any (nat_eq j) ps) e, apart ps (second_false (nat_eq j p) (list_any (nat_eq j) ps) e))

none_distinct : IsDistinct nat_eq []
unfolding IsDistinct
none_distinct = tt

left_out : (g : Heap) (k : Key) → ¬ HasKey (remove g k) k
left_out g k has = let (w, holds) = value_at (remove g k) k has in left_is_other g k k w holds refl

-- two chunks of a union that stand for one key are one chunk
one_place : (v : List PureValue) (cs : List PureChunk) (h : Heap) → IsUnion v cs h → (i j : ℕ) (c d : PureChunk) → slice_get cs i ≡ Some c → slice_get cs j ≡ Some d → (k : Key) (w u : PureValue) → IsEntry v c k w → IsEntry v d k u → c ≡ d
one_place v [] h union i j c d at_i at_j k w u first second = not_none at_i
one_place v (e ∷ cs) h union zero zero c d at_i at_j k w u first second = same_some (sym at_i ∙ at_j)
one_place v (e ∷ cs) h (q, (x, (entry, holds, rest))) zero (suc j) c d at_i at_j k w u first second =
    absurd (left_is_other h k q u (holds_entry v cs (remove h q) j d k u rest at_j second)
    (same_entry v c k q w x first (subst (λ y. IsEntry v y q x) (same_some at_i) entry)).0)
one_place v (e ∷ cs) h (q, (x, (entry, holds, rest))) (suc i) zero c d at_i at_j k w u first second =
    absurd (left_is_other h k q w (holds_entry v cs (remove h q) i c k w rest at_i first)
    (same_entry v d k q u x second (subst (λ y. IsEntry v y q x) (same_some at_j) entry)).0)
one_place v (e ∷ cs) h (q, (x, (entry, holds, rest))) (suc i) (suc j) c d at_i at_j k w u first second =
    one_place v cs (remove h q) rest i j c d at_i at_j k w u first second

module _ (v : List PureValue) (h : Heap) (is_heap : IsHeapOf Block h) (m : PureTerm) (b : ℕ) (is_m : value v m ≡ Some (symbol b)) (n : ℤ) (held : Holds h (key b Bound) (integer n)) where
  loc_is : (d : PureChunk) (k : Key) (w : PureValue) → IsEntry v d k w → same_term d.loc m ≡ true → k.loc ≡ b
  loc_is d k w entry same = same_symbols (same_some (sym (loc_value v d.loc d.sub k entry.at) ∙ ap (value v) (same_term-same d.loc m same) ∙ is_m))

  cell_sub : (d : PureChunk) (k : Key) (w : PureValue) → IsEntry v d k w → (s : PureSub) → d.sub ≡ s → is_cell s ≡ true → (i : ℤ) × (k.sub ≡ At i)
  cell_sub d k w entry (cell o) is told = let (i, (has, e)) = cell_from v (value v o) k.sub (ap (sub_value v) (sym is) ∙ sub_of_entry v d k w entry) in (i, e)
  cell_sub d k w entry (named p) is told = no_truth told
  cell_sub d k w entry shape is told = no_truth told
  cell_sub d k w entry bound is told = no_truth told
  cell_sub d k w entry dom is told = no_truth told
  cell_sub d k w entry proto is told = no_truth told
  cell_sub d k w entry gone is told = no_truth told

  -- a cell at the term has one of so many offsets
  cell_key : (d : PureChunk) (k : Key) (w : PureValue) → IsEntry v d k w → HasKey h k → is_cell_at m d ≡ true → (j : ℕ) × ((k ≡ key b (At (pos j))) × (j < count_of (integer n)))
  cell_key d k w entry has is =
      let parts = and_parts (same_term d.loc m) (is_cell d.sub) is in
      let (i, at_i) = cell_sub d k w entry d.sub refl parts.1 in
      let is_k : k ≡ key b (At i) = keys_equal k b (At i) (loc_is d k w entry parts.0) at_i in
      let within = is_heap.well_formed.cells_in_bound b n i held (subst (HasKey h) is_k has) in
      let (j, (is_j, below)) = inside_count i n within.0 within.1 in
      (j, (is_k ∙ ap (λ o. key b (At o)) is_j, below))

  -- the offsets of the cells at the term, in a part of the heap
  record Offsets (ds : List PureChunk) (g : Heap) : Type 0 where
    offsets : List ℕ
    many : length offsets ≡ cells_at m ds
    distinct : IsDistinct nat_eq offsets
    below : (q : ℕ) → list_any (nat_eq q) offsets ≡ true → q < count_of (integer n)
    there : (q : ℕ) → list_any (nat_eq q) offsets ≡ true → HasKey g (key b (At (pos q)))

  among_first : (P : ℕ → Type 0) (j : ℕ) (os : List ℕ) → P j → ((q : ℕ) → list_any (nat_eq q) os ≡ true → P q) → (q : ℕ) → list_any (nat_eq q) (j ∷ os) ≡ true → P q
  among_first P j os first later q among = ⊎_elim (λ here. subst P (sym ((Decides-eqb q j).0 here)) first) (later q) (or_cases (nat_eq q j) (list_any (nat_eq q) os) among)

  with_chunk : (c : PureChunk) (ds : List PureChunk) (g : Heap) (k : Key) (w : PureValue) → IsEntry v c k w → Holds g k w → HasKey h k → Offsets ds (remove g k) → (t : Bool) → is_cell_at m c ≡ t → Offsets (c ∷ ds) g
  with_chunk c ds g k w entry holds has later true is =
      let (j, (e, below)) = cell_key c k w entry has is in
      record {
        offsets = j ∷ later.offsets;
        many = ap suc later.many ∙ sym (ap (λ t. if t then suc (cells_at m ds) else cells_at m ds) is);
        distinct = added_distinct j later.offsets (not_true (list_any (nat_eq j) later.offsets) (λ again. left_out g k (subst (HasKey (remove g k)) (sym e) (later.there j again)))) later.distinct;
        below = among_first (λ q. q < count_of (integer n)) j later.offsets below later.below;
        there = among_first (λ q. HasKey g (key b (At (pos q)))) j later.offsets (subst (HasKey g) e (has_key g k w holds)) (λ q among. has_before g k (key b (At (pos q))) (later.there q among));
      }
  with_chunk c ds g k w entry holds has later false is = record {
    offsets = later.offsets;
    many = later.many ∙ sym (ap (λ t. if t then suc (cells_at m ds) else cells_at m ds) is);
    distinct = later.distinct;
    below = later.below;
    there = λ q among. has_before g k (key b (At (pos q))) (later.there q among);
  }

  offsets_of : (ds : List PureChunk) (g : Heap) → ((q : Key) → HasKey g q → HasKey h q) → IsUnion v ds g → Offsets ds g
  offsets_of [] g part union = record { offsets = []; many = refl; distinct = none_distinct; below = λ q e. no_truth e; there = λ q e. no_truth e }
  offsets_of (c ∷ ds) g part (k, (w, (entry, holds, rest))) =
      with_chunk c ds g k w entry holds (part k (has_key g k w holds)) (offsets_of ds (remove g k) (λ q has. part q (has_before g k q has)) rest) (is_cell_at m c) refl

  -- where there are as many cells as the bound says, none is lacking
  none_lacks : (ds : List PureChunk) (g : Heap) → ((q : Key) → HasKey g q → HasKey h q) → IsUnion v ds g → count_of (integer n) ≤ cells_at m ds → (j : ℕ) → j < count_of (integer n) → ¬ HasKey g (key b (At (pos j))) → ⊥
  none_lacks ds g part union enough j below lacks =
      let o = offsets_of ds g part union in
      let apart = not_true (list_any (nat_eq j) o.offsets) (λ again. lacks (o.there j again)) in
      let within : suc (length o.offsets) ≤ count_of (integer n) =
      length-le_from_distinct_below (j ∷ o.offsets) (count_of (integer n)) (added_distinct j o.offsets apart o.distinct) (among_first (λ q. q < count_of (integer n)) j o.offsets below o.below) in
      omega (arith, within, enough, o.many)

  some_of : (o : Option PureValue) → (¬ IsSome o → ⊥) → IsSome o
  some_of (Some w) not_lacking = refl
  some_of None not_lacking = absurd (not_lacking (λ e. true≢false (sym e)))

  module _ (cs : List PureChunk) (union : IsUnion v cs h) (enough : count_of (integer n) ≤ cells_at m cs) where
    pub cell_there : (j : ℕ) → j < count_of (integer n) → HasKey h (key b (At (pos j)))
    cell_there j below = some_of (get h (key b (At (pos j)))) (none_lacks cs h (λ q has. has) union enough j below)

    cells_there : (k i : ℕ) → i + k ≤ count_of (integer n) → first_missing h (cells_from b i k) ≡ None
    cells_there zero i within = refl
    cells_there (suc k) i within =
        ap (λ t. cond (not t) (Some (key b (At (pos i)))) (first_missing h (cells_from b (i + 1) k))) (cell_there i (omega (arith, within)))
        ∙ cells_there k (i + 1) (omega (arith, within))

    pub no_cell_missing : first_missing h (cell_keys b (count_of (integer n))) ≡ None
    no_cell_missing = cells_there (count_of (integer n)) 0 (omega arith)

    -- ---- no chunk of another term is one of the location's

    module _ (at_bound : ℕ) (c : PureChunk) (c_there : slice_get cs at_bound ≡ Some c) (c_loc : c.loc ≡ m) (c_entry : IsEntry v c (key b Bound) (integer n)) where
      other_place : (i : ℕ) (d : PureChunk) → slice_get cs i ≡ Some d → (k : Key) (w : PureValue) → IsEntry v d k w → same_term d.loc m ≡ false → ¬ (k.loc ≡ b)
      other_place i d there k w entry other at_b =
          let has : HasKey h k = has_key h k w (holds_entry v cs h i d k w union there entry) in
          let is_k : key b k.sub ≡ k = ap (λ l. key l k.sub) (sym at_b) in
          let among = (block_whole h b (integer n) is_heap held).all_keys k.sub (subst (HasKey h) (sym is_k) has) in
          ⊎_elim
          (λ is_bound.
          let is_b : k ≡ key b Bound = sym is_k ∙ same_key (key b k.sub) (key b Bound) is_bound in
          let one : d ≡ c = one_place v cs h union i at_bound d c there c_there (key b Bound) w (integer n) (subst (λ q. IsEntry v d q w) is_b entry) c_entry in
          true≢false (sym (same_term-refl m) ∙ ap (λ t. same_term t m) (sym c_loc) ∙ ap (λ (e : PureChunk). same_term e.loc m) (sym one) ∙ other))
          (λ is_cell_key.
          let (j, is_j, low, high) = cell_among b (count_of (integer n)) 0 (key b k.sub) is_cell_key in
          none_lacks (remove_at cs i) (remove h k) (λ q left. has_before h k q left) (taken_out v cs h i d k w union there entry)
          (subst (λ x. count_of (integer n) ≤ x) (sym (other_cells m cs i d there other)) enough) j (omega (arith, high))
          (λ left. left_out h k (subst (HasKey (remove h k)) (sym (sym is_k ∙ is_j)) left)))
          (or_of (key_eq (key b k.sub) (key b Bound)) (is_among (key b k.sub) (cell_keys b (count_of (integer n)))) among)

      -- the heap without the location
      absorbed : (s t : Bool) (o : Option PureValue) → (t ≡ true → s ≡ true) → cond s None (cond t None o) ≡ cond s None o
      absorbed s true o is = ap (λ x. cond x None None) (is refl) ∙ sym (ap (λ x. cond x None o) (is refl))
      absorbed s false o is = refl

      none_twice : (s t : Bool) (o : Option PureValue) → cond s None (cond t None o) ≡ cond t None (cond s None o)
      none_twice true true o = refl
      none_twice true false o = refl
      none_twice false t o = refl

      taken_there : (g : Heap) (k : Key) → k.loc ≡ b → without_location b (remove g k) ≡ without_location b g
      taken_there g k at_b = same_heap _ _ (λ q.
          get-without_location b (remove g k) q
          ∙ ap (cond (nat_eq q.loc b) None) (get-remove key_cmp-total g k q)
          ∙ absorbed (nat_eq q.loc b) (key_eq q k) (get g q) (λ e. (Decides-eqb q.loc b).1 (ap (λ (x : Key). x.loc) (same_key q k e) ∙ at_b))
          ∙ sym (get-without_location b g q))

      taken_elsewhere : (g : Heap) (k : Key) → without_location b (remove g k) ≡ remove (without_location b g) k
      taken_elsewhere g k = same_heap _ _ (λ q.
          get-without_location b (remove g k) q
          ∙ ap (cond (nat_eq q.loc b) None) (get-remove key_cmp-total g k q)
          ∙ none_twice (nat_eq q.loc b) (key_eq q k) (get g q)
          ∙ ap (cond (key_eq q k) None) (sym (get-without_location b g q))
          ∙ sym (get-remove key_cmp-total (without_location b g) k q))

      still_holds : (g : Heap) (k : Key) (w : PureValue) → ¬ (k.loc ≡ b) → Holds g k w → Holds (without_location b g) k w
      still_holds g k w away holds = get-without_location b g k ∙ ap (λ t. cond t None (get g k)) (not_true (nat_eq k.loc b) (λ e. away ((Decides-eqb k.loc b).0 e))) ∙ holds

      abbrev Away : List PureChunk → Type 0
      Away ds = (i : ℕ) (d : PureChunk) → slice_get ds i ≡ Some d → (k : Key) (w : PureValue) → IsEntry v d k w → same_term d.loc m ≡ false → ¬ (k.loc ≡ b)

      union_step : (d : PureChunk) (ds : List PureChunk) (g : Heap) (k : Key) (w : PureValue) → IsEntry v d k w → Holds g k w → (same_term d.loc m ≡ false → ¬ (k.loc ≡ b)) → IsUnion v (elsewhere m ds) (without_location b (remove g k)) → (t : Bool) → same_term d.loc m ≡ t → IsUnion v (if t then elsewhere m ds else d ∷ elsewhere m ds) (without_location b g)
      union_step d ds g k w entry holds away rest true is = subst (IsUnion v (elsewhere m ds)) (taken_there g k (loc_is d k w entry is)) rest
      union_step d ds g k w entry holds away rest false is = (k, (w, (entry, still_holds g k w (away is) holds, subst (IsUnion v (elsewhere m ds)) (taken_elsewhere g k) rest)))

      union_elsewhere : (ds : List PureChunk) (g : Heap) → Away ds → IsUnion v ds g → IsUnion v (elsewhere m ds) (without_location b g)
      union_elsewhere [] g away union_ds = no_heap
        where
          nothing : (t : Bool) (o : Option PureValue) → o ≡ None → cond t None o ≡ o
          nothing true o none = sym none
          nothing false o none = refl

          no_key : (q : Key) → get (without_location b g) q ≡ get g q
          no_key q = get-without_location b g q ∙ nothing (nat_eq q.loc b) (get g q) (ap (λ x. get x q) union_ds ∙ get-empty key_cmp q)

          no_heap : IsUnion v [] (without_location b g)
          no_heap = same_heap _ _ no_key ∙ union_ds
      union_elsewhere (d ∷ ds) g away (k, (w, (entry, holds, rest))) =
          union_step d ds g k w entry holds (away 0 d refl k w entry) (union_elsewhere ds (remove g k) (λ i e at. away (suc i) e at) rest) (same_term d.loc m) refl

      pub whole_union : IsUnion v (elsewhere m cs) (without_location b h)
      whole_union = union_elsewhere cs h other_place union
