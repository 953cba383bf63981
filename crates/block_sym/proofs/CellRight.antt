-- The branches of `load` and `store` at a location and an offset are right.
use Rattle.std.proofs.Common.{◌≡◌, ◌⊎◌, ⊎_elim, inl, inr, ℕ, ◌+◌, ℤ, pos, ◌≤ℤ◌, ◌<ℤ◌, List, [], ◌∷◌, ◌++◌, Option, Some, None, IsSome, IsTrue, Bool, true, false, ◌||◌, if◌then◌else◌, is_some, slice_get, refl, sym, ap, subst, ◌∙◌, true≢false, arith}
use Rattle.std.specs.FinMap.{get, insert}
use Rattle.std.specs.Int.Signed.{lt_z, le_z}
use Rattle.std.proofs.lemmas.Bool.{or_cases}
use Rattle.std.proofs.lemmas.Int.{ints}
use Rattle.gil_values.specs.Pure.{PureValue, integer, symbol}
use Rattle.gil_values.proofs.OperatorSymbols.{none_contained}
use Rattle.mem_model.specs.declared.failures.Failure.{Failure}
use Rattle.mem_model.specs.declared.keys.Key.{Key}
use Rattle.mem_model.specs.declared.keys.Sub.{Sub}
use Rattle.mem_model.specs.declared.keys.Sub.TheVariants.{At, Bound, Gone}
use Rattle.mem_model.specs.declared.keys.MemoryName.TheVariants.{Block}
use Rattle.mem_model.specs.Actions.{ActionResult}
use Rattle.mem_model.specs.Heaps.{Heap, Holds, HasKey, IsHeapOf}
use Rattle.mem_model.specs.Keys.{key}
use Rattle.mem_model.specs.KeyOrder.{variant_number}
use Rattle.mem_model.specs.Tables.{does, fails, misses, at}
use Rattle.mem_model.proofs.Joins.{has_key, value_at}
use Rattle.block_heap.specs.Table.{is_outside, bounded}
use Rattle.block_sym.specs.Table.{is_whole, lacks_there, lacks, past_there, past, gone_case, cell_cases}
use Rattle.pure_terms.specs.declared.literals.Literal.{Literal}
use Rattle.pure_terms.specs.declared.variables.Sort.{Sort}
use Rattle.pure_terms.specs.Meaning.{value, all_true, IsProper, IsOver}
use Rattle.pure_terms.specs.Pure.{PureTerm, literal}
use Rattle.sym_chunks.specs.ByPlace.{all_by_place, any_at}
use Rattle.sym_chunks.specs.Cases.{failure, case_of, PureAccess, accessed, given_back, found}
use Rattle.sym_chunks.specs.Keys.{other_sub, at_key}
use Rattle.sym_chunks.specs.Laws.{IsLocation, IsKeyOf}
use Rattle.sym_chunks.specs.Ordering.{less, at_most, outside, inside}
use Rattle.sym_model.specs.Alternatives.{Alternatives, Hold, both, any, same}
use Rattle.sym_model.specs.ConditionLaws.{HaveBoth}
use Rattle.sym_model.proofs.Combined.{both_from, both_parts, always_true}
use Rattle.sym_model.specs.Chunks.{StandFor}
use Rattle.sym_model.specs.Cores.{zero_term}
use Rattle.sym_model.specs.Lists.{Each, OneOf}
use Rattle.sym_model.specs.Meaning.{location_of, cell_of, sub_value, key_of}
use Rattle.sym_model.specs.Pure.{PureSub, named, cell, shape, bound, dom, proto, gone, PureChunk, missed}
use Rattle.sym_model.proofs.ChunkMeaning.{ChunkTerms, chunk_val}
use Rattle.sym_model.proofs.ListLaws.{same_some, each_append, one_left, one_right, one_parts, one_with, one_flat, one_flattened, one_at}
use Rattle.sym_chunks.proofs.CaseLaws.{IsFor, IsExactCase, made_exact, made_comes}
use Rattle.sym_chunks.proofs.Facts.{Fact, each_fact, fact_loc, fact_sub, fact_number, kind_number, keys_equal, loc_tells, sub_tells, same_integers}
use Rattle.sym_chunks.proofs.FoundLaws.{none_of_option, at_chunk, held_at, by_place_parts, by_place_from, any_key, key_any, found_exact, found_comes}
use Rattle.sym_chunks.proofs.OrderLaws.{less_tells, at_most_tells}
use Rattle.block_sym.proofs.Arguments.{at_some, at_none, if_true, if_false}
use Rattle.block_sym.proofs.WholeBlocks.{whole_number, inside_count, cell_there}

lt_to : (m n : ℤ) → lt_z m n ≡ true → m <ℤ n
lt_to m n e = grind (arith, ints)

lt_from : (m n : ℤ) → m <ℤ n → lt_z m n ≡ true
lt_from m n h = grind (arith, ints)

le_to : (m n : ℤ) → le_z m n ≡ true → m ≤ℤ n
le_to m n e = grind (arith, ints)

le_from : (m n : ℤ) → m ≤ℤ n → le_z m n ≡ true
le_from m n h = grind (arith, ints)

or_true : (b c : Bool) → (b ≡ true) ⊎ (c ≡ true) → (b || c) ≡ true
or_true true c is = refl
or_true false c is = ⊎_elim (λ e. absurd (true≢false (sym e))) (λ e. e) is

or_false : (b c : Bool) → ¬ (b ≡ true) → ¬ (c ≡ true) → (b || c) ≡ false
or_false true c first second = absurd (first refl)
or_false false true first second = absurd (second refl)
or_false false false first second = refl

-- inside a bound, or outside it
inside_or_not : (m n : ℤ) → ((pos 0 ≤ℤ n) × (n <ℤ m)) ⊎ (is_outside (integer m) n ≡ true)
inside_or_not m n = by (lt_z n (pos 0)) (le_z m n) refl refl
  where
    by : (b c : Bool) → lt_z n (pos 0) ≡ b → le_z m n ≡ c → ((pos 0 ≤ℤ n) × (n <ℤ m)) ⊎ (is_outside (integer m) n ≡ true)
    by true c is_b is_c = inr (or_true (lt_z n (pos 0)) (le_z m n) (inl is_b))
    by false true is_b is_c = inr (or_true (lt_z n (pos 0)) (le_z m n) (inr is_c))
    by false false is_b is_c = inl (grind (arith, ints), grind (arith, ints))

not_outside : (m n : ℤ) → pos 0 ≤ℤ n → n <ℤ m → is_outside (integer m) n ≡ false
not_outside m n low high = or_false (lt_z n (pos 0)) (le_z m n) (λ e. let below = lt_to n (pos 0) e in absurd (omega (arith, ints, low, below))) (λ e. let above = le_to m n e in absurd (omega (arith, ints, high, above)))

other_variants : (s t : Sub) → s ≡ t → variant_number s ≡ variant_number t
other_variants s t e = ap variant_number e

module _ (vars : List Sort) (v : List PureValue) (h : Heap) (cs : List PureChunk) (proper : IsProper vars v) (over : Each (ChunkTerms (IsOver vars)) cs) (stands : StandFor Block cs v h) where
  pub facts : Each (Fact vars v h) cs
  facts = each_fact vars v h cs stands.union over

  -- the chunk of a location's descriptor
  pub descriptor_key : (c : PureChunk) (f : Fact vars v h c) (a : ℕ) (s : PureSub) (t : Sub) → c.sub ≡ s → sub_value v s ≡ Some t → f.k.loc ≡ a → f.k ≡ key a t
  descriptor_key c f a s t is has e = keys_equal f.k a t e (same_some (sym (fact_sub vars v h c f) ∙ ap (sub_value v) is ∙ has))

  module _ (l : PureTerm) (a : ℕ) (asked : IsLocation vars v l a) where
    gone_asked : IsKeyOf vars v l gone (key a Gone)
    gone_asked = record { over_loc = asked.over; over_sub = tt; is = ap (λ o. key_of (location_of o) (Some Gone)) asked.is }

    pub bound_asked : IsKeyOf vars v l bound (key a Bound)
    bound_asked = record { over_loc = asked.over; over_sub = tt; is = ap (λ o. key_of (location_of o) (Some Bound)) asked.is }

    pub gone_holds : Hold v (any (at_key l gone) cs) → (w : PureValue) × Holds h (key a Gone) w
    gone_holds holds = any_key vars v h proper cs stands.union facts l gone (key a Gone) gone_asked holds

    -- the case in which the location is gone
    pub gone_exact : (r : ActionResult) → ((w : PureValue) → Holds h (key a Gone) w → r ≡ fails Failure.Gone h) → Each (IsExactCase Block v r) (gone_case l cs)
    gone_exact r is =
        made_exact Block v r (any (at_key l gone) cs) cs (failure Failure.Gone)
        (inr (λ holds. let (w, held) = gone_holds holds in subst (λ x. IsFor Block v x cs (failure Failure.Gone)) (sym (is w held)) (refl, stands)))

    pub gone_comes : (w : PureValue) → Holds h (key a Gone) w → OneOf (λ d. Hold v d.when) (gone_case l cs)
    gone_comes w held = made_comes v (any (at_key l gone) cs) cs (failure Failure.Gone) (key_any vars v h proper cs stands.union facts l gone (key a Gone) gone_asked w held)

    pub no_gone_beside : (s : Sub) → ¬ (variant_number s ≡ 6) → HasKey h (key a s) → get h (key a Gone) ≡ None
    no_gone_beside s differ has = none_of_option (get h (key a Gone)) (λ has_gone. differ (other_variants s Gone (stands.is_heap.well_formed.gone_alone a s has_gone has)))

    -- ---- the cell at an offset

    module _ (i : PureTerm) (n : ℤ) (over_i : IsOver vars i) (is_i : value v i ≡ Some (integer n)) (F : PureValue → ActionResult) where
      abbrev pub cell_result : ActionResult
      cell_result = at h (key a Gone) (λ _. fails Failure.Gone h) (bounded h a n (at h (key a (At n)) F (misses (key a (At n)) h)))

      pub cell_asked : IsKeyOf vars v l (cell i) (key a (At n))
      cell_asked = record { over_loc = asked.over; over_sub = (over_i, tt); is = (λ j. key_of (location_of (asked.is j)) (cell_of (is_i j))) }

      within : (d : PureValue) → Holds h (key a Bound) d → HasKey h (key a (At n)) → is_outside d n ≡ false
      within d held has =
          let (m, e) = stands.is_heap.well_formed.bound_is_number a d held in
          let inside_it = stands.is_heap.well_formed.cells_in_bound a m n (subst (Holds h (key a Bound)) e held) has in
          ap (λ x. is_outside x n) e ∙ not_outside m n inside_it.0 inside_it.1

      bounded_by : (o : Option PureValue) → get h (key a Bound) ≡ o → (x : ActionResult) → ((d : PureValue) → Holds h (key a Bound) d → is_outside d n ≡ false) → bounded h a n x ≡ x
      bounded_by None is x inside_it = at_none h (key a Bound) _ _ is
      bounded_by (Some d) is x inside_it = at_some h (key a Bound) d _ _ is ∙ if_false (is_outside d n) (fails Failure.Bound h) x (inside_it d is)

      pub found_result : (w : PureValue) → Holds h (key a (At n)) w → cell_result ≡ F w
      found_result w held =
          let has = has_key h (key a (At n)) w held in
          at_none h (key a Gone) _ _ (no_gone_beside (At n) (λ e. absurd (omega (arith, e))) has)
          ∙ bounded_by (get h (key a Bound)) refl _ (λ d at_bound. within d at_bound has)
          ∙ at_some h (key a (At n)) w _ _ held

      gone_result : (w : PureValue) → Holds h (key a Gone) w → cell_result ≡ fails Failure.Gone h
      gone_result w held = at_some h (key a Gone) w _ _ held

      past_result : (d : PureValue) → Holds h (key a Bound) d → is_outside d n ≡ true → cell_result ≡ fails Failure.Bound h
      past_result d held out =
          at_none h (key a Gone) _ _ (no_gone_beside Bound (λ e. absurd (omega (arith, e))) (has_key h (key a Bound) d held))
          ∙ at_some h (key a Bound) d _ _ held ∙ if_true (is_outside d n) (fails Failure.Bound h) _ out

      missed_result : get h (key a Gone) ≡ None → get h (key a (At n)) ≡ None → ((d : PureValue) → Holds h (key a Bound) d → is_outside d n ≡ false) → cell_result ≡ misses (key a (At n)) h
      missed_result no_gone no_cell inside_it =
          at_none h (key a Gone) _ _ no_gone ∙ bounded_by (get h (key a Bound)) refl _ inside_it ∙ at_none h (key a (At n)) _ _ no_cell

      -- numbers at a bound
      module _ (c : PureChunk) (f : Fact vars v h c) (m : ℤ) (is_m : f.w ≡ integer m) where
        val_is : value v c.val ≡ Some (integer m)
        val_is = f.entry.holds ∙ ap Some is_m

        over_val : IsOver vars c.val
        over_val = chunk_val (IsOver vars) c f.over

        over_zero : IsOver vars zero_term
        over_zero x has = absurd (none_contained x has)

        offset_zero : HaveBoth vars v i zero_term (integer n) (integer (pos 0))
        offset_zero = record { proper = proper; first_over = over_i; second_over = over_zero; first = is_i; second = refl }

        zero_offset : HaveBoth vars v zero_term i (integer (pos 0)) (integer n)
        zero_offset = record { proper = proper; first_over = over_zero; second_over = over_i; first = refl; second = is_i }

        offset_bound : HaveBoth vars v i c.val (integer n) (integer m)
        offset_bound = record { proper = proper; first_over = over_i; second_over = over_val; first = is_i; second = val_is }

        bound_offset : HaveBoth vars v c.val i (integer m) (integer n)
        bound_offset = record { proper = proper; first_over = over_val; second_over = over_i; first = val_is; second = is_i }

        outside_parts : Hold v (outside i c.val) → is_outside (integer m) n ≡ true
        outside_parts holds =
            or_true (lt_z n (pos 0)) (le_z m n)
            (⊎_elim (λ below. inl (lt_from n (pos 0) ((less_tells vars v i zero_term n (pos 0) offset_zero).0 below)))
            (λ above. inr (le_from m n ((at_most_tells vars v c.val i m n bound_offset).0 above)))
            (one_parts (λ conds. IsTrue (all_true v conds)) (less i zero_term) (at_most c.val i) holds))

        outside_from : is_outside (integer m) n ≡ true → Hold v (outside i c.val)
        outside_from out =
            ⊎_elim
            (λ below. one_left (λ conds. IsTrue (all_true v conds)) (less i zero_term) (at_most c.val i) ((less_tells vars v i zero_term n (pos 0) offset_zero).1 (lt_to n (pos 0) below)))
            (λ above. one_right (λ conds. IsTrue (all_true v conds)) (less i zero_term) (at_most c.val i) ((at_most_tells vars v c.val i m n bound_offset).1 (le_to m n above)))
            (or_cases (lt_z n (pos 0)) (le_z m n) out)

        inside_parts : Hold v (inside i c.val) → is_outside (integer m) n ≡ false
        inside_parts holds =
            let parts = both_parts v (at_most zero_term i) (less i c.val) holds in
            not_outside m n ((at_most_tells vars v zero_term i (pos 0) n zero_offset).0 parts.0) ((less_tells vars v i c.val n m offset_bound).0 parts.1)

        inside_from : pos 0 ≤ℤ n → n <ℤ m → Hold v (inside i c.val)
        inside_from low high =
            both_from v (at_most zero_term i) (less i c.val) ((at_most_tells vars v zero_term i (pos 0) n zero_offset).1 low) ((less_tells vars v i c.val n m offset_bound).1 high)

      -- ---- outside the bound

      past_by : (c : PureChunk) (f : Fact vars v h c) (s : PureSub) → c.sub ≡ s → f.k.loc ≡ a → Hold v (past_there i s c.val) → Holds h (key a Bound) f.w × (is_outside f.w n ≡ true)
      past_by c f bound is e holds =
          let held = held_at vars v h proper cs stands.union facts c f (key a Bound) (descriptor_key c f a bound Bound is refl e) in
          let (m, is_m) = stands.is_heap.well_formed.bound_is_number a f.w held in
          (held, ap (λ x. is_outside x n) is_m ∙ outside_parts c f m is_m holds)
      past_by c f s is e holds = absurd holds

      past_for : Hold v (any_at l (past i) cs) → IsFor Block v cell_result cs (failure Failure.Bound)
      past_for holds =
          one_with (Fact vars v h) (λ c. Hold v (both (same l c.loc) (past i c))) cs facts
          (one_flattened (λ conds. IsTrue (all_true v conds)) (λ c. both (same l c.loc) (past i c)) cs holds)
          (λ c f here.
          let parts = both_parts v (same l c.loc) (past i c) here in
          let there = past_by c f c.sub refl ((loc_tells vars v h proper c f l a asked).0 parts.0) parts.1 in
          subst (λ x. IsFor Block v x cs (failure Failure.Bound)) (sym (past_result f.w there.0 there.1)) (refl, stands))

      past_holds : (d : PureValue) → Holds h (key a Bound) d → is_outside d n ≡ true → Hold v (any_at l (past i) cs)
      past_holds d held out = at_chunk vars v h proper cs stands.union facts (key a Bound) d held (λ j c f there e is.
          let at_a : f.k.loc ≡ a = ap (λ (q : Key). q.loc) e in
          let (m, is_m) = stands.is_heap.well_formed.bound_is_number a d held in
          one_flat (λ conds. IsTrue (all_true v conds)) (λ c. both (same l c.loc) (past i c)) cs
          (one_at (λ b. Hold v (both (same l b.loc) (past i b))) cs j c there
          (both_from v (same l c.loc) (past i c) ((loc_tells vars v h proper c f l a asked).1 at_a) (by_bound c f m (is ∙ is_m) c.sub refl (ap (λ (q : Key). variant_number q.sub) e) (sym (ap (λ x. is_outside x n) is_m) ∙ out)))))
        where
          by_bound : (c : PureChunk) (f : Fact vars v h c) (m : ℤ) → f.w ≡ integer m → (s : PureSub) → c.sub ≡ s → variant_number f.k.sub ≡ 3 → is_outside (integer m) n ≡ true → Hold v (past_there i s c.val)
          by_bound c f m is_m bound is number outside_it = outside_from c f m is_m outside_it
          by_bound c f m is_m (cell o) is number outside_it = absurd (omega (arith, number, fact_number vars v h c f, ap kind_number is))
          by_bound c f m is_m (named o) is number outside_it = absurd (omega (arith, number, fact_number vars v h c f, ap kind_number is))
          by_bound c f m is_m shape is number outside_it = absurd (omega (arith, number, fact_number vars v h c f, ap kind_number is))
          by_bound c f m is_m dom is number outside_it = absurd (omega (arith, number, fact_number vars v h c f, ap kind_number is))
          by_bound c f m is_m proto is number outside_it = absurd (omega (arith, number, fact_number vars v h c f, ap kind_number is))
          by_bound c f m is_m gone is number outside_it = absurd (omega (arith, number, fact_number vars v h c f, ap kind_number is))

      -- ---- no chunk tells of the cell

      -- what a chunk of the location that doesn't tell of the cell is
      pub record Away (c : PureChunk) (f : Fact vars v h c) : Type 0 where
        pub not_cell : ¬ (f.k ≡ key a (At n))
        pub not_gone : ¬ (f.k ≡ key a Gone)
        pub inside_it : f.k ≡ key a Bound → is_outside f.w n ≡ false

      not_variant : (c : PureChunk) (f : Fact vars v h c) (s : PureSub) → c.sub ≡ s → (t : Sub) → ¬ (variant_number t ≡ kind_number s) → ¬ (f.k ≡ key a t)
      not_variant c f s is t differ e = differ (sym (ap (λ (q : Key). variant_number q.sub) e) ∙ fact_number vars v h c f ∙ ap kind_number is)

      other_away : (c : PureChunk) (f : Fact vars v h c) (s : PureSub) → c.sub ≡ s → ¬ (1 ≡ kind_number s) → ¬ (3 ≡ kind_number s) → ¬ (6 ≡ kind_number s) → Away c f
      other_away c f s is no_cell no_bound no_gone = record { not_cell = not_variant c f s is (At n) no_cell; not_gone = not_variant c f s is Gone no_gone; inside_it = λ e. absurd (not_variant c f s is Bound no_bound e) }

      unless_whole : (t : Bool) (y : Alternatives) → Hold v (if t then [] else y) → Hold v y
      unless_whole true y holds = absurd holds
      unless_whole false y holds = holds

      away_by : (c : PureChunk) (f : Fact vars v h c) (s : PureSub) → c.sub ≡ s → Hold v (lacks_there cs c.loc i s c.val) → Away c f
      away_by c f (cell o) is holds = record {
        not_cell = λ e. (sub_tells vars v h proper c f l (cell i) (key a (At n)) cell_asked).0 (subst (λ s. Hold v (other_sub (cell i) s)) (sym is) holds) (ap (λ (q : Key). q.sub) e);
        not_gone = not_variant c f (cell o) is Gone (λ e. absurd (omega (arith, e)));
        inside_it = λ e. absurd (not_variant c f (cell o) is Bound (λ x. absurd (omega (arith, x))) e);
      }
      away_by c f bound is holds = record {
        not_cell = not_variant c f bound is (At n) (λ e. absurd (omega (arith, e)));
        not_gone = not_variant c f bound is Gone (λ e. absurd (omega (arith, e)));
        inside_it = λ e.
            let (m, is_m) = stands.is_heap.well_formed.bound_is_number a f.w (held_at vars v h proper cs stands.union facts c f (key a Bound) e) in
            ap (λ x. is_outside x n) is_m ∙ inside_parts c f m is_m (unless_whole (is_whole c.loc c.val cs) (inside i c.val) holds);
      }
      away_by c f gone is holds = absurd holds
      away_by c f (named p) is holds = other_away c f (named p) is (λ e. absurd (omega (arith, e))) (λ e. absurd (omega (arith, e))) (λ e. absurd (omega (arith, e)))
      away_by c f shape is holds = other_away c f shape is (λ e. absurd (omega (arith, e))) (λ e. absurd (omega (arith, e))) (λ e. absurd (omega (arith, e)))
      away_by c f dom is holds = other_away c f dom is (λ e. absurd (omega (arith, e))) (λ e. absurd (omega (arith, e))) (λ e. absurd (omega (arith, e)))
      away_by c f proto is holds = other_away c f proto is (λ e. absurd (omega (arith, e))) (λ e. absurd (omega (arith, e))) (λ e. absurd (omega (arith, e)))

      missed_for : Hold v (all_by_place l (lacks cs i) cs) → IsFor Block v cell_result cs (missed (record { loc = l; sub = cell i }))
      missed_for holds =
          let away : (j : ℕ) (c : PureChunk) (f : Fact vars v h c) → slice_get cs j ≡ Some c → f.k.loc ≡ a → Away c f = (λ j c f there e. away_by c f c.sub refl (by_place_parts vars v h proper cs stands.union facts l a asked (lacks cs i) holds j c f there e)) in
          let loc_of : (k : Key) (t : Sub) → k ≡ key a t → k.loc ≡ a = (λ k t e. ap (λ (q : Key). q.loc) e) in
          let no_cell : get h (key a (At n)) ≡ None = none_of_option (get h (key a (At n))) (λ has. let (w, held) = value_at h (key a (At n)) has in at_chunk vars v h proper cs stands.union facts (key a (At n)) w held (λ j c f there e is. (away j c f there (loc_of f.k (At n) e)).not_cell e)) in
          let no_gone : get h (key a Gone) ≡ None = none_of_option (get h (key a Gone)) (λ has. let (w, held) = value_at h (key a Gone) has in at_chunk vars v h proper cs stands.union facts (key a Gone) w held (λ j c f there e is. (away j c f there (loc_of f.k Gone e)).not_gone e)) in
          subst (λ x. IsFor Block v x cs (missed (record { loc = l; sub = cell i })))
          (sym (missed_result no_gone no_cell (λ d held. at_chunk vars v h proper cs stands.union facts (key a Bound) d held (λ j c f there e is. ap (λ x. is_outside x n) (sym is) ∙ (away j c f there (loc_of f.k Bound e)).inside_it e))))
          (cell_asked.is, stands)

      -- a cell that is inside the bound of a whole block isn't lacking
      none_lacks : (c : PureChunk) (f : Fact vars v h c) (m : ℤ) → f.w ≡ integer m → Holds h (key f.k.loc Bound) f.w → get h (key f.k.loc (At n)) ≡ None → pos 0 ≤ℤ n → n <ℤ m → (t : Bool) → is_whole c.loc c.val cs ≡ t → Hold v (if t then [] else inside i c.val)
      none_lacks c f m is_m held none low high false is = inside_from c f m is_m low high
      none_lacks c f m is_m held none low high true is =
          let (k, (is_k, enough)) = whole_number c.loc c.val cs is in
          let same : m ≡ k = same_integers (sym is_m ∙ same_some (sym f.entry.holds ∙ ap (value v) is_k)) in
          let (j, (is_j, below)) = inside_count n k low (subst (λ x. n <ℤ x) same high) in
          let there = cell_there v h stands.is_heap c.loc f.k.loc (fact_loc vars v h c f).is k (subst (Holds h (key f.k.loc Bound)) (is_m ∙ ap integer same) held) cs stands.union enough j below in
          absurd (true≢false (sym there ∙ ap (λ o. is_some (get h (key f.k.loc (At o)))) (sym is_j) ∙ ap is_some none))

      lacks_by : (c : PureChunk) (f : Fact vars v h c) (s : PureSub) → c.sub ≡ s → f.k.loc ≡ a → get h (key a (At n)) ≡ None → get h (key a Gone) ≡ None → ((m : ℤ) → Holds h (key a Bound) (integer m) → (pos 0 ≤ℤ n) × (n <ℤ m)) → Hold v (lacks_there cs c.loc i s c.val)
      lacks_by c f (cell o) is e no_cell no_gone inside_it =
          subst (λ s. Hold v (other_sub (cell i) s)) is
          ((sub_tells vars v h proper c f l (cell i) (key a (At n)) cell_asked).1 (λ sub. true≢false (sym (ap is_some (held_at vars v h proper cs stands.union facts c f (key a (At n)) (keys_equal f.k a (At n) e sub))) ∙ ap is_some no_cell)))
      lacks_by c f gone is e no_cell no_gone inside_it = absurd (true≢false (sym (ap is_some (held_at vars v h proper cs stands.union facts c f (key a Gone) (descriptor_key c f a gone Gone is refl e))) ∙ ap is_some no_gone))
      lacks_by c f bound is e no_cell no_gone inside_it =
          let held = held_at vars v h proper cs stands.union facts c f (key a Bound) (descriptor_key c f a bound Bound is refl e) in
          let (m, is_m) = stands.is_heap.well_formed.bound_is_number a f.w held in
          let parts = inside_it m (subst (Holds h (key a Bound)) is_m held) in
          none_lacks c f m is_m (subst (λ x. Holds h (key x Bound) f.w) (sym e) held) (ap (λ x. get h (key x (At n))) e ∙ no_cell) parts.0 parts.1 (is_whole c.loc c.val cs) refl
      lacks_by c f (named p) is e no_cell no_gone inside_it = always_true v
      lacks_by c f shape is e no_cell no_gone inside_it = always_true v
      lacks_by c f dom is e no_cell no_gone inside_it = always_true v
      lacks_by c f proto is e no_cell no_gone inside_it = always_true v

      missed_holds : get h (key a (At n)) ≡ None → get h (key a Gone) ≡ None → ((m : ℤ) → Holds h (key a Bound) (integer m) → (pos 0 ≤ℤ n) × (n <ℤ m)) → Hold v (all_by_place l (lacks cs i) cs)
      missed_holds no_cell no_gone inside_it = by_place_from vars v h proper cs stands.union facts l a asked (lacks cs i) (λ j c f there e. lacks_by c f c.sub refl e no_cell no_gone inside_it)

      -- ---- the cases

      module _ (x : PureAccess) (is_found : (j : ℕ) (c : PureChunk) (f : Fact vars v h c) → slice_get cs j ≡ Some c → f.k ≡ key a (At n) → IsFor Block v (F f.w) (accessed x cs j) (given_back x c)) where
        pub cell_exact : Each (IsExactCase Block v cell_result) (cell_cases x l i cs)
        cell_exact =
            each_append (IsExactCase Block v cell_result) (found x l (cell i) cs) _
            (found_exact vars v h proper cs stands.union facts l (cell i) (key a (At n)) cell_asked Block cell_result x
            (λ j c f there e. subst (λ r. IsFor Block v r (accessed x cs j) (given_back x c)) (sym (found_result f.w (held_at vars v h proper cs stands.union facts c f (key a (At n)) e))) (is_found j c f there e)))
            (each_append (IsExactCase Block v cell_result) (gone_case l cs) _ (gone_exact cell_result gone_result)
            (each_append (IsExactCase Block v cell_result) (case_of (any_at l (past i) cs) cs (failure Failure.Bound)) _
            (made_exact Block v cell_result (any_at l (past i) cs) cs (failure Failure.Bound) (inr past_for))
            (made_exact Block v cell_result (all_by_place l (lacks cs i) cs) cs (missed (record { loc = l; sub = cell i })) (inr missed_for))))

      abbrev Comes : PureAccess → Type 0
      Comes x = OneOf (λ d. Hold v d.when) (cell_cases x l i cs)

      after_found : (x : PureAccess) → OneOf (λ d. Hold v d.when) (gone_case l cs ++ (case_of (any_at l (past i) cs) cs (failure Failure.Bound) ++ case_of (all_by_place l (lacks cs i) cs) cs (missed (record { loc = l; sub = cell i })))) → Comes x
      after_found x one = one_right (λ d. Hold v d.when) (found x l (cell i) cs) _ one

      after_gone : (x : PureAccess) → OneOf (λ d. Hold v d.when) (case_of (any_at l (past i) cs) cs (failure Failure.Bound) ++ case_of (all_by_place l (lacks cs i) cs) cs (missed (record { loc = l; sub = cell i }))) → Comes x
      after_gone x one = after_found x (one_right (λ d. Hold v d.when) (gone_case l cs) _ one)

      missed_comes : (x : PureAccess) → Hold v (all_by_place l (lacks cs i) cs) → Comes x
      missed_comes x holds = after_gone x (one_right (λ d. Hold v d.when) (case_of (any_at l (past i) cs) cs (failure Failure.Bound)) _ (made_comes v (all_by_place l (lacks cs i) cs) cs (missed (record { loc = l; sub = cell i })) holds))

      by_bound : (x : PureAccess) → get h (key a Gone) ≡ None → get h (key a (At n)) ≡ None → (o : Option PureValue) → get h (key a Bound) ≡ o → Comes x
      by_bound x no_gone no_cell None is = missed_comes x (missed_holds no_cell no_gone (λ m held. absurd (true≢false (sym (ap is_some held) ∙ ap is_some is))))
      by_bound x no_gone no_cell (Some d) is =
          let (m, is_m) = stands.is_heap.well_formed.bound_is_number a d is in
          ⊎_elim
          (λ within_it. missed_comes x (missed_holds no_cell no_gone (λ k held. let e : m ≡ k = same_integers (sym is_m ∙ same_some (sym is ∙ held)) in subst (λ q. (pos 0 ≤ℤ n) × (n <ℤ q)) e within_it)))
          (λ out. after_gone x (one_left (λ d. Hold v d.when) (case_of (any_at l (past i) cs) cs (failure Failure.Bound)) _ (made_comes v (any_at l (past i) cs) cs (failure Failure.Bound) (past_holds d is (ap (λ y. is_outside y n) is_m ∙ out)))))
          (inside_or_not m n)

      by_cell : (x : PureAccess) → get h (key a Gone) ≡ None → (o : Option PureValue) → get h (key a (At n)) ≡ o → Comes x
      by_cell x no_gone (Some w) is = one_left (λ d. Hold v d.when) (found x l (cell i) cs) _ (found_comes vars v h proper cs stands.union facts l (cell i) (key a (At n)) cell_asked x w is)
      by_cell x no_gone None is = by_bound x no_gone is (get h (key a Bound)) refl

      by_gone : (x : PureAccess) → (o : Option PureValue) → get h (key a Gone) ≡ o → Comes x
      by_gone x (Some w) is = after_found x (one_left (λ d. Hold v d.when) (gone_case l cs) _ (gone_comes w is))
      by_gone x None is = by_cell x is (get h (key a (At n))) refl

      pub cell_comes : (x : PureAccess) → Comes x
      cell_comes x = by_gone x (get h (key a Gone)) refl
