-- The branches of `free` at a location and an offset are right.
use Rattle.std.proofs.Common.{◌≡◌, ◌⊎◌, ⊎_elim, inl, inr, ℕ, zero, suc, ◌+◌, ◌≤◌, ℤ, pos, List, [], ◌∷◌, ◌++◌, Option, Some, None, IsSome, IsTrue, Bool, true, false, ◌||◌, if◌then◌else◌, is_some, slice_get, refl, sym, ap, subst, ◌∙◌, true≢false, arith}
use Rattle.std.specs.FinMap.{get, remove}
use Rattle.std.specs.List.{remove as remove_at}
use Rattle.std.specs.Ordering.{int_eq}
use Rattle.std.specs.Prelude.{⊤}
use Rattle.std.proofs.lemmas.Int.{ints}
use Rattle.std.specs.Option.{option_map}
use Rattle.gil_values.specs.Pure.{PureValue, integer, boolean, list, from_list as list_values}
use Rattle.gil_values.proofs.OperatorSymbols.{none_contained}
use Rattle.mem_model.specs.declared.failures.Failure.{Failure}
use Rattle.mem_model.specs.declared.keys.Key.{Key}
use Rattle.mem_model.specs.declared.keys.Sub.{Sub}
use Rattle.mem_model.specs.declared.keys.Sub.TheVariants.{At, Bound, Gone}
use Rattle.mem_model.specs.declared.keys.MemoryName.TheVariants.{Block}
use Rattle.mem_model.specs.Actions.{ActionResult}
use Rattle.mem_model.specs.Heaps.{Heap, Holds, HasKey, IsHeapOf}
use Rattle.mem_model.specs.Keys.{key}
use Rattle.mem_model.specs.KeyOrder.{key_eq, variant_number}
use Rattle.mem_model.specs.Tables.{does, fails, misses, at, is_among, disposed, first_missing, missed_or, dispose_whole}
use Rattle.mem_model.proofs.Joins.{has_key, value_at}
use Rattle.mem_model.proofs.Holding.{same_key, itself}
use Rattle.mem_model.proofs.NameKeys.{or_of}
use Rattle.block_heap.specs.Cells.{cell_among, block_whole}
use Rattle.block_heap.specs.Table.{cells_from, cell_keys, count_of, free}
use Rattle.block_sym.specs.Table.{number, gone_case, unbounded_there, unbounded, cell_subs, cells_at, is_whole, elsewhere, taken_whole, taken_by_bound, bounded_there, bounded_from, free_cases, frees, act_there}
use Rattle.pure_terms.specs.declared.literals.Literal.{Literal}
use Rattle.pure_terms.specs.declared.variables.Sort.{Sort}
use Rattle.pure_terms.specs.Meaning.{value, values, IsProper, IsOver}
use Rattle.pure_terms.specs.Pure.{PureTerm, literal, variable, list_of, unary_of, binary_of}
use Rattle.sym_chunks.specs.ByPlace.{all_by_place}
use Rattle.sym_chunks.specs.Cases.{failure, true_term, PureCase, case_of, branches_of, choose}
use Rattle.sym_chunks.specs.Forms.{form_of}
use Rattle.sym_chunks.specs.Laws.{IsLocation, IsKeyOf}
use Rattle.sym_chunks.specs.Walking.{PureWay, way_of, walk}
use Rattle.sym_model.specs.Alternatives.{Alternatives, Hold, both, same, other}
use Rattle.sym_model.specs.ConditionLaws.{HaveBoth}
use Rattle.sym_model.proofs.Combined.{both_from, both_parts, always_true}
use Rattle.sym_model.proofs.Telling.{same_tells, other_tells}
use Rattle.sym_model.specs.Chunks.{IsEntry, IsUnion, StandFor}
use Rattle.sym_model.specs.Cores.{zero_term}
use Rattle.sym_model.specs.Lists.{Each, OneOf}
use Rattle.sym_model.specs.Meaning.{location_of, key_of}
use Rattle.sym_model.specs.Pure.{PureSub, named, cell, shape, bound, dom, proto, gone, PureChunk, done, missed}
use Rattle.sym_model.proofs.ChunkMeaning.{ChunkTerms}
use Rattle.sym_model.proofs.ListLaws.{same_some, not_none, each_append, each_at, one_left, one_right}
use Rattle.sym_model.proofs.Unions.{taken_out}
use Rattle.sym_chunks.proofs.CaseLaws.{IsFor, IsExactCase, IsRight, IsTaken, Exact, exact_cases, taken_case, chosen_exact, chosen_taken, made_exact, made_comes, needed_open, form_holds}
use Rattle.sym_chunks.proofs.Facts.{Fact, fact_loc, fact_number, kind_number, loc_tells, same_integers}
use Rattle.sym_chunks.proofs.FoundLaws.{none_of_option, at_chunk, held_at, by_place_parts, by_place_from}
use Rattle.sym_chunks.proofs.WalkLaws.{disposed_stands, AreDistinctKeys, AreKeysOf, Left, IsRightWay, right_way, way_so, each_removed, no_key_taken, one_more_taken, walk_exact, walk_comes}
use Rattle.block_sym.proofs.Arguments.{at_some, at_none, if_true, if_false}
use Rattle.block_sym.proofs.CellRight.{facts, descriptor_key, gone_exact, gone_comes, no_gone_beside, bound_asked}
use Rattle.block_sym.proofs.WholeBlocks.{le_of, no_cell_missing, whole_union}

-- ---- the keys of cells

no_sooner : (b i n : ℕ) (k : ℕ) → k ≡ i → is_among (key b (At (pos k))) (cells_from b (i + 1) n) ≡ false
no_sooner b i n k e = by (is_among (key b (At (pos k))) (cells_from b (i + 1) n)) refl
  where
    same_offset : (m j : ℕ) → key b (At (pos m)) ≡ key b (At (pos j)) → m ≡ j
    same_offset m j same = let subs : ◌≡◌ {A = Sub} (At (pos m)) (At (pos j)) = ap (λ (q : Key). q.sub) same in cc

    by : (t : Bool) → is_among (key b (At (pos k))) (cells_from b (i + 1) n) ≡ t → t ≡ false
    by true among = let c = cell_among b n (i + 1) (key b (At (pos k))) among in let e' = same_offset k c.0 c.1 in absurd (omega (arith, e, e', c.2))
    by false among = refl

cells_distinct : (b n i : ℕ) → AreDistinctKeys (cells_from b i n)
cells_distinct b zero i = tt
cells_distinct b (suc n) i = (no_sooner b i n i refl, cells_distinct b n (i + 1))

cells_are_keys : (vars : List Sort) (v : List PureValue) (m : PureTerm) (b : ℕ) → IsLocation vars v m b → (n i : ℕ) → AreKeysOf vars v m b (cell_subs i n) (cells_from b i n)
cells_are_keys vars v m b there zero i = tt
cells_are_keys vars v m b there (suc n) i = (
  (
    record {
      over_loc = there.over;
      over_sub = ((λ x has. absurd (none_contained x has)), tt);
      is = ap (λ o. key_of (location_of o) (Some (At (pos i)))) there.is;
    },
    refl,
  ),
  cells_are_keys vars v m b there n (i + 1),
)

module _ (vars : List Sort) (v : List PureValue) (h : Heap) (cs : List PureChunk) (proper : IsProper vars v) (over : Each (ChunkTerms (IsOver vars)) cs) (stands : StandFor Block cs v h) (l : PureTerm) (a : ℕ) (asked : IsLocation vars v l a) (r : ActionResult) (is_r : r ≡ free a (pos 0) h) (keeps : IsHeapOf Block r.heap) where
  all_facts : Each (Fact vars v h) cs
  all_facts = facts vars v h cs proper over stands

  gone_result : (w : PureValue) → Holds h (key a Gone) w → r ≡ fails Failure.Gone h
  gone_result w held = is_r ∙ at_some h (key a Gone) w _ _ held

  -- ---- a bound that is a literal

  module _ (i : ℕ) (c : PureChunk) (f : Fact vars v h c) (there : slice_get cs i ≡ Some c) (is_bound : c.sub ≡ bound) (n : ℤ) (is_n : c.val ≡ number n) where
    own : IsLocation vars v c.loc f.k.loc
    own = fact_loc vars v h c f

    bound_at : f.k ≡ key f.k.loc Bound
    bound_at = descriptor_key vars v h cs proper over stands c f f.k.loc bound Bound is_bound refl refl

    held : Holds h (key f.k.loc Bound) f.w
    held = held_at vars v h proper cs stands.union all_facts c f (key f.k.loc Bound) bound_at

    val_is : f.w ≡ integer n
    val_is = same_some (sym f.entry.holds ∙ ap (value v) is_n)

    has : HasKey h (key f.k.loc Bound)
    has = has_key h (key f.k.loc Bound) f.w held

    no_gone : get h (key f.k.loc Gone) ≡ None
    no_gone = no_gone_beside vars v h cs proper over stands c.loc f.k.loc own Bound (λ e. absurd (omega (arith, e))) has

    result_here : f.k.loc ≡ a → r ≡ missed_or (first_missing h (cell_keys f.k.loc (count_of (integer n)))) h (does (boolean true) (disposed f.k.loc h))
    result_here e =
        is_r ∙ ap (λ b. free b (pos 0) h) (sym e) ∙ at_none h (key f.k.loc Gone) _ _ no_gone ∙ at_some h (key f.k.loc Bound) f.w _ _ held
        ∙ ap (λ w. dispose_whole f.k.loc (cell_keys f.k.loc (count_of w)) h) val_is

    or_false_of : (x : Bool) → x ≡ false → (x || false) ≡ false
    or_false_of true e = e
    or_false_of false e = refl

    or_nothing : (x : Bool) → (x || false) ≡ true → x ≡ true
    or_nothing true e = refl
    or_nothing false e = e

    or_true_of : (x : Bool) → x ≡ true → (x || false) ≡ true
    or_true_of true e = refl
    or_true_of false e = e

    not_true : (x : Bool) → ¬ (x ≡ true) → x ≡ false
    not_true true differ = absurd (differ refl)
    not_true false differ = refl

    first_left : Hold v (same l c.loc) → Left Block vars v h cs stands proper c.loc f.k.loc own no_gone r keeps (cell_keys f.k.loc (count_of (integer n))) (remove_at cs i)
    first_left holds =
        let k = key f.k.loc Bound in
        let is_key : (q : Key) → IsTrue (is_among q (k ∷ [])) → q ≡ k = (λ q among. same_key q k (or_nothing (key_eq q k) among)) in
        record {
          taken = k ∷ [];
          union = subst (IsUnion v (remove_at cs i)) (ap (remove h) bound_at ∙ ap (λ g. remove g k) (no_key_taken h) ∙ one_more_taken k [] h) (taken_out v cs h i c f.k f.w stands.union there f.entry);
          of_location = λ q among. ap (λ (m : Key). m.loc) (is_key q among);
          whole = λ s there_is. ⊎_elim
              (λ here. inl (or_true_of (key_eq (key f.k.loc s) k) here))
              (λ later. inr (subst (λ w. IsTrue (is_among (key f.k.loc s) (cell_keys f.k.loc (count_of w)))) val_is later))
              (or_of (key_eq (key f.k.loc s) k) (is_among (key f.k.loc s) (cell_keys f.k.loc (count_of f.w))) ((block_whole h f.k.loc f.w stands.is_heap held).all_keys s there_is));
          untaken = λ q among. or_false_of (key_eq q k) (not_true (key_eq q k) (λ same_as.
              let cell_is = cell_among f.k.loc (count_of (integer n)) 0 q among in
              let subs : ◌≡◌ {A = Sub} (At (pos cell_is.0)) Bound = ap (λ (m : Key). m.sub) (sym cell_is.1 ∙ same_key q k same_as) in
              absurd (omega (arith, ap variant_number subs))));
          distinct = cells_distinct f.k.loc (count_of (integer n)) 0;
          result = result_here ((loc_tells vars v h proper c f l a asked).0 holds);
        }

    first_right : Each (IsRightWay Block vars v h cs stands proper c.loc f.k.loc own no_gone r keeps (cell_keys f.k.loc (count_of (integer n)))) (way_of (same l c.loc) (remove_at cs i))
    first_right = right_way Block vars v h cs stands proper c.loc f.k.loc own no_gone r keeps (cell_keys f.k.loc (count_of (integer n))) (same l c.loc) (remove_at cs i) (each_removed (ChunkTerms (IsOver vars)) cs i over) first_left

    taken_exact : Each (IsExactCase Block v r) (walk cs c.loc (cell_subs 0 (count_of (integer n))) (way_of (same l c.loc) (remove_at cs i)))
    taken_exact =
        walk_exact Block vars v h cs stands proper c.loc f.k.loc own no_gone r keeps (cell_subs 0 (count_of (integer n))) (cell_keys f.k.loc (count_of (integer n)))
        (cells_are_keys vars v c.loc f.k.loc own (count_of (integer n)) 0) (way_of (same l c.loc) (remove_at cs i)) first_right

    taken_comes : f.k.loc ≡ a → OneOf (λ d. Hold v d.when) (walk cs c.loc (cell_subs 0 (count_of (integer n))) (way_of (same l c.loc) (remove_at cs i)))
    taken_comes e =
        walk_comes Block vars v h cs stands proper c.loc f.k.loc own no_gone r keeps (cell_subs 0 (count_of (integer n))) (cell_keys f.k.loc (count_of (integer n)))
        (cells_are_keys vars v c.loc f.k.loc own (count_of (integer n)) 0) (way_of (same l c.loc) (remove_at cs i)) first_right
        (way_so Block vars v h cs stands proper c.loc f.k.loc own no_gone r keeps (same l c.loc) (remove_at cs i) ((loc_tells vars v h proper c f l a asked).1 e))

    -- ---- all cells are there

    held_number : Holds h (key f.k.loc Bound) (integer n)
    held_number = subst (Holds h (key f.k.loc Bound)) val_is held

    bound_entry : IsEntry v c (key f.k.loc Bound) (integer n)
    bound_entry = record { at = f.entry.at ∙ ap Some bound_at; holds = f.entry.holds ∙ ap Some val_is }

    module _ (enough : count_of (integer n) ≤ cells_at c.loc cs) where
      whole_result : f.k.loc ≡ a → r ≡ does (boolean true) (disposed f.k.loc h)
      whole_result e = result_here e ∙ ap (λ o. missed_or o h (does (boolean true) (disposed f.k.loc h))) (no_cell_missing v h stands.is_heap c.loc f.k.loc own.is n held_number cs stands.union enough)

      whole_exact : Each (IsExactCase Block v r) (taken_whole l c.loc cs)
      whole_exact =
          made_exact Block v r (same l c.loc) (elsewhere c.loc cs ++ record { loc = c.loc; sub = gone; val = true_term } ∷ []) (done true_term)
          (inr (λ holds. disposed_stands Block vars v h cs stands proper c.loc f.k.loc own no_gone r keeps (elsewhere c.loc cs)
          (whole_union v h stands.is_heap c.loc f.k.loc own.is n held_number cs stands.union enough i c there refl bound_entry)
          (whole_result ((loc_tells vars v h proper c f l a asked).0 holds))))

    whole_comes : f.k.loc ≡ a → OneOf (λ d. Hold v d.when) (taken_whole l c.loc cs)
    whole_comes e = made_comes v (same l c.loc) (elsewhere c.loc cs ++ record { loc = c.loc; sub = gone; val = true_term } ∷ []) (done true_term) ((loc_tells vars v h proper c f l a asked).1 e)

    enough_of : is_whole c.loc (number n) cs ≡ true → count_of (integer n) ≤ cells_at c.loc cs
    enough_of is = le_of (count_of (integer n)) (cells_at c.loc cs) is

    literal_exact : (t : Bool) → is_whole c.loc (number n) cs ≡ t → Each (IsExactCase Block v r) (taken_by_bound t l cs i c.loc n)
    literal_exact true is = whole_exact (enough_of is)
    literal_exact false is = taken_exact

    literal_comes : f.k.loc ≡ a → (t : Bool) → OneOf (λ d. Hold v d.when) (taken_by_bound t l cs i c.loc n)
    literal_comes e true = whole_comes e
    literal_comes e false = taken_comes e

  -- ---- every chunk that may be the bound

  open_exact : (n : PureTerm) (x : Alternatives) → Each (IsExactCase Block v r) (case_of (form_of n x) cs (done true_term))
  open_exact n x = made_exact Block v r (form_of n x) cs (done true_term) (inl (needed_open v n x))

  there_exact : (i : ℕ) (c : PureChunk) → slice_get cs i ≡ Some c → (s : PureSub) → c.sub ≡ s → (n : PureTerm) → c.val ≡ n → Each (IsExactCase Block v r) (bounded_there l cs i c.loc s n)
  there_exact i c there bound is (literal (Literal.Int n)) val = literal_exact i c (each_at (Fact vars v h) cs i c all_facts there) there is n val (is_whole c.loc (number n) cs) refl
  there_exact i c there bound is (literal (Literal.Bool n)) val = tt
  there_exact i c there bound is (literal (Literal.Str n)) val = tt
  there_exact i c there bound is (literal (Literal.Kind n)) val = tt
  there_exact i c there bound is (literal (Literal.Proc n)) val = tt
  there_exact i c there bound is (list_of ts) val = tt
  there_exact i c there bound is (variable x) val = open_exact (variable x) (same l c.loc)
  there_exact i c there bound is (unary_of op t) val = open_exact (unary_of op t) (same l c.loc)
  there_exact i c there bound is (binary_of op t u) val = open_exact (binary_of op t u) (same l c.loc)
  there_exact i c there (named p) is n val = tt
  there_exact i c there (cell p) is n val = tt
  there_exact i c there shape is n val = tt
  there_exact i c there dom is n val = tt
  there_exact i c there proto is n val = tt
  there_exact i c there gone is n val = tt

  from_exact : (i : ℕ) (ds : List PureChunk) → ((j : ℕ) (c : PureChunk) → slice_get ds j ≡ Some c → slice_get cs (i + j) ≡ Some c) → Each (IsExactCase Block v r) (bounded_from l cs i ds)
  from_exact i [] places = tt
  from_exact i (c ∷ ds) places =
      each_append (IsExactCase Block v r) (bounded_there l cs i c.loc c.sub c.val) (bounded_from l cs (i + 1) ds)
      (there_exact i c (ap (slice_get cs) (omega arith) ∙ places 0 c refl) c.sub refl c.val refl)
      (from_exact (i + 1) ds (λ j d at_j. ap (slice_get cs) (omega arith) ∙ places (suc j) d at_j))

  -- ---- no chunk is the bound

  unbounded_by : (c : PureChunk) (f : Fact vars v h c) (s : PureSub) → c.sub ≡ s → Hold v (unbounded_there s) → (¬ (variant_number f.k.sub ≡ 3)) × (¬ (variant_number f.k.sub ≡ 6))
  unbounded_by c f bound is holds = absurd holds
  unbounded_by c f gone is holds = absurd holds
  unbounded_by c f (cell o) is holds = let e = fact_number vars v h c f ∙ ap kind_number is in ((λ x. absurd (omega (arith, e, x))), (λ x. absurd (omega (arith, e, x))))
  unbounded_by c f (named o) is holds = let e = fact_number vars v h c f ∙ ap kind_number is in ((λ x. absurd (omega (arith, e, x))), (λ x. absurd (omega (arith, e, x))))
  unbounded_by c f shape is holds = let e = fact_number vars v h c f ∙ ap kind_number is in ((λ x. absurd (omega (arith, e, x))), (λ x. absurd (omega (arith, e, x))))
  unbounded_by c f dom is holds = let e = fact_number vars v h c f ∙ ap kind_number is in ((λ x. absurd (omega (arith, e, x))), (λ x. absurd (omega (arith, e, x))))
  unbounded_by c f proto is holds = let e = fact_number vars v h c f ∙ ap kind_number is in ((λ x. absurd (omega (arith, e, x))), (λ x. absurd (omega (arith, e, x))))

  number_at : (k : Key) (t : Sub) → k ≡ key a t → variant_number k.sub ≡ variant_number t
  number_at k t e = ap (λ (q : Key). variant_number q.sub) e

  loc_at : (k : Key) (t : Sub) → k ≡ key a t → k.loc ≡ a
  loc_at k t e = ap (λ (q : Key). q.loc) e

  missed_for : Hold v (all_by_place l unbounded cs) → IsFor Block v r cs (missed (record { loc = l; sub = bound }))
  missed_for holds =
      let away : (j : ℕ) (c : PureChunk) (f : Fact vars v h c) → slice_get cs j ≡ Some c → f.k.loc ≡ a → (¬ (variant_number f.k.sub ≡ 3)) × (¬ (variant_number f.k.sub ≡ 6)) = (λ j c f there e. unbounded_by c f c.sub refl (by_place_parts vars v h proper cs stands.union all_facts l a asked unbounded holds j c f there e)) in
      let no_bound : get h (key a Bound) ≡ None = none_of_option (get h (key a Bound)) (λ has_it. let (w, at_w) = value_at h (key a Bound) has_it in at_chunk vars v h proper cs stands.union all_facts (key a Bound) w at_w (λ j c f there e is. (away j c f there (loc_at f.k Bound e)).0 (number_at f.k Bound e))) in
      let none_gone : get h (key a Gone) ≡ None = none_of_option (get h (key a Gone)) (λ has_it. let (w, at_w) = value_at h (key a Gone) has_it in at_chunk vars v h proper cs stands.union all_facts (key a Gone) w at_w (λ j c f there e is. (away j c f there (loc_at f.k Gone e)).1 (number_at f.k Gone e))) in
      let e : r ≡ misses (key a Bound) h = is_r ∙ at_none h (key a Gone) _ _ none_gone ∙ at_none h (key a Bound) _ _ no_bound in
      subst (λ x. IsFor Block v x cs (missed (record { loc = l; sub = bound }))) (sym e) ((bound_asked vars v h cs proper over stands l a asked).is, stands)

  by_unbounded : (c : PureChunk) (f : Fact vars v h c) (s : PureSub) → c.sub ≡ s → f.k.loc ≡ a → get h (key a Bound) ≡ None → get h (key a Gone) ≡ None → Hold v (unbounded_there s)
  by_unbounded c f bound is e no_bound none_gone = absurd (true≢false (sym (ap is_some (held_at vars v h proper cs stands.union all_facts c f (key a Bound) (descriptor_key vars v h cs proper over stands c f a bound Bound is refl e))) ∙ ap is_some no_bound))
  by_unbounded c f gone is e no_bound none_gone = absurd (true≢false (sym (ap is_some (held_at vars v h proper cs stands.union all_facts c f (key a Gone) (descriptor_key vars v h cs proper over stands c f a gone Gone is refl e))) ∙ ap is_some none_gone))
  by_unbounded c f (cell o) is e no_bound none_gone = always_true v
  by_unbounded c f (named o) is e no_bound none_gone = always_true v
  by_unbounded c f shape is e no_bound none_gone = always_true v
  by_unbounded c f dom is e no_bound none_gone = always_true v
  by_unbounded c f proto is e no_bound none_gone = always_true v

  -- ---- the cases

  pub free_exact : Each (IsExactCase Block v r) (free_cases l cs)
  free_exact =
      each_append (IsExactCase Block v r) (gone_case l cs) _ (gone_exact vars v h cs proper over stands l a asked r gone_result)
      (each_append (IsExactCase Block v r) (bounded_from l cs 0 cs) _ (from_exact 0 cs (λ j c at_j. ap (slice_get cs) (omega arith) ∙ at_j))
      (made_exact Block v r (all_by_place l unbounded cs) cs (missed (record { loc = l; sub = bound })) (inr missed_for)))

  abbrev Comes : Type 0
  Comes = OneOf (λ d. Hold v d.when) (free_cases l cs)

  after_gone : OneOf (λ d. Hold v d.when) (bounded_from l cs 0 cs ++ case_of (all_by_place l unbounded cs) cs (missed (record { loc = l; sub = bound }))) → Comes
  after_gone one = one_right (λ d. Hold v d.when) (gone_case l cs) _ one

  from_comes : (i : ℕ) (ds : List PureChunk) (j : ℕ) (c : PureChunk) → slice_get ds j ≡ Some c → OneOf (λ d. Hold v d.when) (bounded_there l cs (i + j) c.loc c.sub c.val) → OneOf (λ d. Hold v d.when) (bounded_from l cs i ds)
  from_comes i [] j c there one = not_none there
  from_comes i (d ∷ ds) zero c there one =
      one_left (λ d. Hold v d.when) (bounded_there l cs i d.loc d.sub d.val) (bounded_from l cs (i + 1) ds)
      (subst (λ (e : PureChunk). OneOf (λ d. Hold v d.when) (bounded_there l cs i e.loc e.sub e.val)) (sym (same_some there))
      (subst (λ k. OneOf (λ d. Hold v d.when) (bounded_there l cs k c.loc c.sub c.val)) (omega arith) one))
  from_comes i (d ∷ ds) (suc j) c there one =
      one_right (λ d. Hold v d.when) (bounded_there l cs i d.loc d.sub d.val) (bounded_from l cs (i + 1) ds)
      (from_comes (i + 1) ds j c there (subst (λ k. OneOf (λ d. Hold v d.when) (bounded_there l cs k c.loc c.sub c.val)) (omega arith) one))

  not_number : {X : Type 0} (k : Literal) (m : ℤ) → value v (literal k) ≡ Some (integer m) → ((n : ℤ) → k ≡ Literal.Int n → X) → X
  not_number (Literal.Int n) m is use_it = use_it n refl
  not_number (Literal.Bool b) m is use_it = let e = same_some is in absurd (cc)
  not_number (Literal.Str b) m is use_it = let e = same_some is in absurd (cc)
  not_number (Literal.Kind b) m is use_it = let e = same_some is in absurd (cc)
  not_number (Literal.Proc b) m is use_it = let e = same_some is in absurd (cc)

  no_list_number : {X : Type 0} (o : Option (List PureValue)) (m : ℤ) → option_map (λ ws. list (list_values ws)) o ≡ Some (integer m) → X
  no_list_number (Some ws) m is = let e = same_some is in absurd (cc)
  no_list_number None m is = not_none is

  open_comes : (c : PureChunk) (f : Fact vars v h c) → f.k.loc ≡ a → (n : PureTerm) → c.val ≡ n → Hold v (form_of n (same l c.loc)) → OneOf (λ d. Hold v d.when) (case_of (form_of n (same l c.loc)) cs (done true_term))
  open_comes c f e n val holds = made_comes v (form_of n (same l c.loc)) cs (done true_term) holds

  there_comes : (i : ℕ) (c : PureChunk) (f : Fact vars v h c) → slice_get cs i ≡ Some c → f.k ≡ key a Bound → (m : ℤ) → f.w ≡ integer m → (s : PureSub) → c.sub ≡ s → (n : PureTerm) → c.val ≡ n → OneOf (λ d. Hold v d.when) (bounded_there l cs i c.loc s n)
  there_comes i c f there e m is_m bound is (literal k) val =
      not_number k m (ap (value v) (sym val) ∙ f.entry.holds ∙ ap Some is_m)
      (λ n is_n. subst (λ j. OneOf (λ d. Hold v d.when) (bounded_there l cs i c.loc bound (literal j))) (sym is_n) (literal_comes i c f there is n (val ∙ ap literal is_n) (loc_at f.k Bound e) (is_whole c.loc (number n) cs)))
  there_comes i c f there e m is_m bound is (list_of ts) val = no_list_number (values v ts) m (ap (value v) (sym val) ∙ f.entry.holds ∙ ap Some is_m)
  there_comes i c f there e m is_m bound is (variable x) val = open_comes c f (loc_at f.k Bound e) (variable x) val (form_holds v (variable x) (integer m) (same l c.loc) (ap (value v) (sym val) ∙ f.entry.holds ∙ ap Some is_m) ((loc_tells vars v h proper c f l a asked).1 (loc_at f.k Bound e)))
  there_comes i c f there e m is_m bound is (unary_of op t) val = open_comes c f (loc_at f.k Bound e) (unary_of op t) val (form_holds v (unary_of op t) (integer m) (same l c.loc) (ap (value v) (sym val) ∙ f.entry.holds ∙ ap Some is_m) ((loc_tells vars v h proper c f l a asked).1 (loc_at f.k Bound e)))
  there_comes i c f there e m is_m bound is (binary_of op t u) val = open_comes c f (loc_at f.k Bound e) (binary_of op t u) val (form_holds v (binary_of op t u) (integer m) (same l c.loc) (ap (value v) (sym val) ∙ f.entry.holds ∙ ap Some is_m) ((loc_tells vars v h proper c f l a asked).1 (loc_at f.k Bound e)))
  there_comes i c f there e m is_m (cell o) is n val = absurd (omega (arith, number_at f.k Bound e, fact_number vars v h c f, ap kind_number is))
  there_comes i c f there e m is_m (named o) is n val = absurd (omega (arith, number_at f.k Bound e, fact_number vars v h c f, ap kind_number is))
  there_comes i c f there e m is_m shape is n val = absurd (omega (arith, number_at f.k Bound e, fact_number vars v h c f, ap kind_number is))
  there_comes i c f there e m is_m dom is n val = absurd (omega (arith, number_at f.k Bound e, fact_number vars v h c f, ap kind_number is))
  there_comes i c f there e m is_m proto is n val = absurd (omega (arith, number_at f.k Bound e, fact_number vars v h c f, ap kind_number is))
  there_comes i c f there e m is_m gone is n val = absurd (omega (arith, number_at f.k Bound e, fact_number vars v h c f, ap kind_number is))

  by_bound : get h (key a Gone) ≡ None → (o : Option PureValue) → get h (key a Bound) ≡ o → Comes
  by_bound none_gone (Some d) is = at_chunk vars v h proper cs stands.union all_facts (key a Bound) d is (λ i c f there e at_d.
      let (m, is_m) = stands.is_heap.well_formed.bound_is_number a d is in
      after_gone (one_left (λ d. Hold v d.when) (bounded_from l cs 0 cs) _ (from_comes 0 cs i c there
      (subst (λ k. OneOf (λ d. Hold v d.when) (bounded_there l cs k c.loc c.sub c.val)) (omega arith) (there_comes i c f there e m (at_d ∙ is_m) c.sub refl c.val refl)))))
  by_bound none_gone None is =
      after_gone (one_right (λ d. Hold v d.when) (bounded_from l cs 0 cs) _ (made_comes v (all_by_place l unbounded cs) cs (missed (record { loc = l; sub = bound }))
      (by_place_from vars v h proper cs stands.union all_facts l a asked unbounded (λ i c f there e. by_unbounded c f c.sub refl e is none_gone))))

  by_gone : (o : Option PureValue) → get h (key a Gone) ≡ o → Comes
  by_gone (Some w) is = one_left (λ d. Hold v d.when) (gone_case l cs) _ (gone_comes vars v h cs proper over stands l a asked w is)
  by_gone None is = by_bound is (get h (key a Bound)) refl

  pub free_comes : Comes
  free_comes = by_gone (get h (key a Gone)) refl
