-- The cases of `dispose` are right.
use Rattle.std.proofs.Common.{◌≡◌, ⊎_elim, inl, inr, ℕ, zero, suc, ◌+◌, List, [], ◌∷◌, ◌++◌, map, Bool, true, false, ◌||◌, Option, Some, None, IsTrue, slice_get, refl, sym, ap, subst, ◌∙◌, true≢false, arith}
use Rattle.std.specs.FinMap.{get, remove}
use Rattle.std.specs.List.{list_any, remove as remove_at}
use Rattle.gil_values.specs.Equality.{same_value}
use Rattle.gil_values.specs.Pure.{PureValue, boolean, text, list, from_list as list_values, to_list-from_list as values_back}
use Rattle.mem_model.specs.declared.failures.Failure.{Failure}
use Rattle.mem_model.specs.declared.keys.Key.{Key}
use Rattle.mem_model.specs.declared.keys.Sub.{Sub}
use Rattle.mem_model.specs.declared.keys.Sub.TheVariants.{Name, Shape, Gone}
use Rattle.mem_model.specs.declared.keys.MemoryName.TheVariants.{Record}
use Rattle.mem_model.specs.Actions.{ActionResult}
use Rattle.mem_model.specs.Heaps.{Heap, Holds, HasKey, IsHeapOf}
use Rattle.mem_model.specs.Keys.{key}
use Rattle.mem_model.specs.KeyOrder.{key_eq, variant_number}
use Rattle.mem_model.specs.Names.{is_text, are_distinct_texts, is_name_list}
use Rattle.mem_model.specs.Tables.{does, fails, misses, names_of, texts_of, name_keys, is_among, disposed, first_missing, missed_or, dispose_whole}
use Rattle.mem_model.proofs.Joins.{has_key, value_at}
use Rattle.mem_model.proofs.Holding.{same_key}
use Rattle.mem_model.proofs.NameKeys.{or_of, listed_among}
use Rattle.pure_terms.specs.declared.variables.Sort.{Sort}
use Rattle.pure_terms.specs.Meaning.{value, values, IsProper, IsOver}
use Rattle.pure_terms.specs.Pure.{PureTerm, literal, variable, list_of, unary_of, binary_of, PureTerms, no_terms, term_and, to_list}
use Rattle.record_heap.specs.Records.{record_whole, names_of_list}
use Rattle.record_heap.specs.Table.{dispose}
use Rattle.record_sym.specs.Places.{undescribed_there, undescribed}
use Rattle.record_sym.specs.Table.{disposed_there, disposed_from, dispose_cases}
use Rattle.sym_chunks.specs.ByPlace.{all_by_place}
use Rattle.sym_chunks.specs.Cases.{PureCase, case_of, gone_case, missed_key, true_term}
use Rattle.sym_chunks.specs.Forms.{form_of}
use Rattle.sym_chunks.specs.Laws.{IsLocation}
use Rattle.sym_chunks.specs.Walking.{way_of, walk}
use Rattle.sym_model.specs.Alternatives.{Hold, same}
use Rattle.sym_model.proofs.Combined.{always_true}
use Rattle.sym_model.specs.Chunks.{IsUnion, StandFor}
use Rattle.sym_model.specs.Lists.{Each, OneOf}
use Rattle.sym_model.specs.Meaning.{location_of, name_of, key_of}
use Rattle.sym_model.specs.Pure.{PureSub, named, cell, shape, bound, dom, proto, gone, PureChunk, done}
use Rattle.sym_model.specs.Terms.{is_list_term}
use Rattle.sym_model.proofs.Asking.{both_parts as value_parts}
use Rattle.sym_model.proofs.ChunkMeaning.{ChunkTerms, chunk_val}
use Rattle.sym_model.proofs.ListLaws.{same_some, not_none, each_append, each_at, one_left, one_right}
use Rattle.sym_model.proofs.Unions.{taken_out}
use Rattle.sym_chunks.proofs.CaseLaws.{IsFor, IsExactCase, made_exact, made_comes, needed_open}
use Rattle.sym_chunks.proofs.ChunkFacts.{key_at, key_number}
use Rattle.sym_chunks.proofs.Facts.{Fact, fact_loc, loc_tells, same_names}
use Rattle.sym_chunks.proofs.FoundLaws.{at_chunk, held_at, by_place_parts, by_place_from}
use Rattle.sym_chunks.proofs.GoneLaws.{gone_exact, gone_comes, no_gone_beside}
use Rattle.sym_chunks.proofs.HeapFacts.{none_from, not_both, at_some, at_none}
use Rattle.sym_chunks.proofs.NameLists.{elements_over, list_value, names_in, distinct_parts}
use Rattle.sym_chunks.proofs.NamesHeld.{form_is_needed}
use Rattle.sym_chunks.proofs.WalkLaws.{AreDistinctKeys, AreKeysOf, Left, IsRightWay, right_way, way_so, each_removed, no_key_taken, one_more_taken, walk_exact, walk_comes}
use Rattle.record_sym.proofs.NewLaws.{text_value}
use Rattle.record_sym.proofs.PropertyLaws.{shape_asked, shape_of}

-- ---- the keys of names

module _ (b : ℕ) where
  not_among_by : (us : List PureValue) (p : List ℕ) → list_any (same_value (text p)) us ≡ false → (t : Bool) → is_among (key b (Name p)) (name_keys b (texts_of us)) ≡ t → t ≡ false
  not_among_by us p unnamed false is = refl
  not_among_by us p unnamed true is =
      let found = listed_among b (list (list_values us)) (key b (Name p)) (subst (λ ps. IsTrue (is_among (key b (Name p)) (name_keys b ps))) (sym (names_of_list us)) is) in
      let q = found.0 in
      let alike : p ≡ q = same_names (ap (λ (k : Key). k.sub) found.1) in
      absurd (true≢false (sym found.2 ∙ names_in us q ∙ ap (λ m. list_any (same_value (text m)) us) (sym alike) ∙ unnamed))

  not_among : (us : List PureValue) (p : List ℕ) → list_any (same_value (text p)) us ≡ false → is_among (key b (Name p)) (name_keys b (texts_of us)) ≡ false
  not_among us p unnamed = not_among_by us p unnamed (is_among (key b (Name p)) (name_keys b (texts_of us))) refl

  module _ (vars : List Sort) (v : List PureValue) (proper : IsProper vars v) (m : PureTerm) (there : IsLocation vars v m b) where
    -- the names of a list stand for distinct keys of the location
    abbrev AreNames : List PureTerm → List PureValue → Type 0
    AreNames ds ws = AreDistinctKeys (name_keys b (texts_of ws)) × AreKeysOf vars v m b (map named ds) (name_keys b (texts_of ws))

    one_name : (d : PureTerm) (ds : List PureTerm) (p : List ℕ) (us : List PureValue) → IsOver vars d → value v d ≡ Some (text p) → list_any (same_value (text p)) us ≡ false → AreNames ds us → AreNames (d ∷ ds) (text p ∷ us)
    one_name d ds p us over_d is_d unnamed rest = (
      (not_among us p unnamed, rest.0),
      ((record { over_loc = there.over; over_sub = (over_d, tt); is = λ i. key_of (location_of (there.is i)) (name_of (is_d i)) }, refl), rest.1),
    )

    pub are_names : (ts : PureTerms) (ws : List PureValue) → values v ts ≡ Some ws → Each (IsOver vars) (to_list ts) → are_distinct_texts ws ≡ true → AreNames (to_list ts) ws
    are_names no_terms ws have over distinct = subst (AreNames []) (same_some have) (tt, tt)
    are_names (term_and d ts) ws have over distinct =
        let (w, (us, (first, rest, whole))) = value_parts (value v d) (values v ts) ws have in
        let parts = distinct_parts vars v proper (is_text w) (list_any (same_value w) us) (are_distinct_texts us) (sym (ap are_distinct_texts whole) ∙ distinct) in
        let (p, is_p) = text_value w parts.0 in
        subst (AreNames (d ∷ to_list ts)) (sym (whole ∙ (λ i. is_p i ∷ us)))
        (one_name d (to_list ts) p us over.0 (first ∙ ap Some is_p) (sym (ap (λ z. list_any (same_value z) us) is_p) ∙ parts.1) (are_names ts us rest over.1 parts.2))

module _ (vars : List Sort) (v : List PureValue) (h : Heap) (cs : List PureChunk) (proper : IsProper vars v) (over : Each (ChunkTerms (IsOver vars)) cs) (stands : StandFor Record cs v h) (facts : Each (Fact vars v h) cs) (l : PureTerm) (a : ℕ) (asked : IsLocation vars v l a) (r : ActionResult) (is_r : r ≡ dispose a h) (keeps : IsHeapOf Record r.heap) where
  gone_result : (w : PureValue) → Holds h (key a Gone) w → r ≡ fails Failure.Gone h
  gone_result w held = is_r ∙ at_some h (key a Gone) w _ _ held

  -- ---- a chunk that lists names

  module _ (i : ℕ) (c : PureChunk) (f : Fact vars v h c) (there : slice_get cs i ≡ Some c) (is_shape : c.sub ≡ shape) (ts : PureTerms) (is_list : c.val ≡ list_of ts) where
    own : IsLocation vars v c.loc f.k.loc
    own = fact_loc vars v h c f

    shape_at : f.k ≡ key f.k.loc Shape
    shape_at = key_at vars v h proper c.loc f.k.loc own c f shape Shape is_shape refl refl

    held : Holds h (key f.k.loc Shape) f.w
    held = held_at vars v h proper cs stands.union facts c f (key f.k.loc Shape) shape_at

    has : HasKey h (key f.k.loc Shape)
    has = has_key h (key f.k.loc Shape) f.w held

    no_gone : get h (key f.k.loc Gone) ≡ None
    no_gone = no_gone_beside Record vars v h proper cs stands facts c.loc f.k.loc own Shape (λ e. absurd (omega (arith, e))) has

    elements : (ws : List PureValue) × ((values v ts ≡ Some ws) × (f.w ≡ list (list_values ws)))
    elements = list_value v ts f.w (ap (value v) (sym is_list) ∙ f.entry.holds)

    names : names_of f.w ≡ texts_of elements.0
    names = ap names_of elements.1.1 ∙ ap texts_of (values_back elements.0)

    distinct : are_distinct_texts elements.0 ≡ true
    distinct = sym (ap is_name_list elements.1.1 ∙ ap are_distinct_texts (values_back elements.0)) ∙ stands.is_heap.well_formed.name_lists f.k.loc Shape f.w tt held

    abbrev keys : List Key
    keys = name_keys f.k.loc (texts_of elements.0)

    are_all : AreDistinctKeys keys × AreKeysOf vars v c.loc f.k.loc (map named (to_list ts)) keys
    are_all = are_names f.k.loc vars v proper c.loc own ts elements.0 elements.1.0 (elements_over vars ts (subst (IsOver vars) is_list (chunk_val (IsOver vars) c f.over))) distinct

    result_here : f.k.loc ≡ a → r ≡ missed_or (first_missing h keys) h (does (boolean true) (disposed f.k.loc h))
    result_here e =
        is_r ∙ ap (λ b. dispose b h) (sym e) ∙ at_none h (key f.k.loc Gone) _ _ no_gone ∙ at_some h (key f.k.loc Shape) f.w _ _ held
        ∙ ap (λ ns. dispose_whole f.k.loc (name_keys f.k.loc ns) h) names

    or_false_of : (x : Bool) → x ≡ false → (x || false) ≡ false
    or_false_of true e = e
    or_false_of false e = refl

    or_nothing : (x : Bool) → (x || false) ≡ true → x ≡ true
    or_nothing true e = refl
    or_nothing false e = e

    or_true_of : (x : Bool) → x ≡ true → (x || false) ≡ true
    or_true_of true e = refl
    or_true_of false e = e

    not_true : (x : Bool) → ¬ (x ≡ true) → x ≡ false
    not_true true differ = absurd (differ refl)
    not_true false differ = refl

    first_left : Hold v (same l c.loc) → Left Record vars v h cs stands proper c.loc f.k.loc own no_gone r keeps keys (remove_at cs i)
    first_left holds =
        let k = key f.k.loc Shape in
        let is_key : (q : Key) → IsTrue (is_among q (k ∷ [])) → q ≡ k = (λ q among. same_key q k (or_nothing (key_eq q k) among)) in
        record {
          taken = k ∷ [];
          union = subst (IsUnion v (remove_at cs i)) (ap (remove h) shape_at ∙ ap (λ g. remove g k) (no_key_taken h) ∙ one_more_taken k [] h) (taken_out v cs h i c f.k f.w stands.union there f.entry);
          of_location = λ q among. ap (λ (m : Key). m.loc) (is_key q among);
          whole = λ s there_is. ⊎_elim
              (λ here. inl (or_true_of (key_eq (key f.k.loc s) k) here))
              (λ later. inr (subst (λ ns. IsTrue (is_among (key f.k.loc s) (name_keys f.k.loc ns))) names later))
              (or_of (key_eq (key f.k.loc s) k) (is_among (key f.k.loc s) (name_keys f.k.loc (names_of f.w))) ((record_whole h f.k.loc f.w stands.is_heap held).all_keys s there_is));
          untaken = λ q among. or_false_of (key_eq q k) (not_true (key_eq q k) (λ same_as.
              let name_is = listed_among f.k.loc f.w q (subst (λ ns. IsTrue (is_among q (name_keys f.k.loc ns))) (sym names) among) in
              let subs : ◌≡◌ {A = Sub} (Name name_is.0) Shape = ap (λ (m : Key). m.sub) (sym name_is.1 ∙ same_key q k same_as) in
              absurd (omega (arith, ap variant_number subs))));
          distinct = are_all.0;
          result = result_here ((loc_tells vars v h proper c f l a asked).0 holds);
        }

    first_right : Each (IsRightWay Record vars v h cs stands proper c.loc f.k.loc own no_gone r keeps keys) (way_of (same l c.loc) (remove_at cs i))
    first_right = right_way Record vars v h cs stands proper c.loc f.k.loc own no_gone r keeps keys (same l c.loc) (remove_at cs i) (each_removed (ChunkTerms (IsOver vars)) cs i over) first_left

    taken_exact : Each (IsExactCase Record v r) (walk cs c.loc (map named (to_list ts)) (way_of (same l c.loc) (remove_at cs i)))
    taken_exact = walk_exact Record vars v h cs stands proper c.loc f.k.loc own no_gone r keeps (map named (to_list ts)) keys are_all.1 (way_of (same l c.loc) (remove_at cs i)) first_right

    taken_comes : f.k.loc ≡ a → OneOf (λ d. Hold v d.when) (walk cs c.loc (map named (to_list ts)) (way_of (same l c.loc) (remove_at cs i)))
    taken_comes e =
        walk_comes Record vars v h cs stands proper c.loc f.k.loc own no_gone r keeps (map named (to_list ts)) keys are_all.1 (way_of (same l c.loc) (remove_at cs i)) first_right
        (way_so Record vars v h cs stands proper c.loc f.k.loc own no_gone r keeps (same l c.loc) (remove_at cs i) ((loc_tells vars v h proper c f l a asked).1 e))

  -- ---- every chunk that may have the names

  open_exact : (t : PureTerm) (loc : PureTerm) → Each (IsExactCase Record v r) (case_of (form_of t (same l loc)) cs (done true_term))
  open_exact t loc = made_exact Record v r (form_of t (same l loc)) cs (done true_term) (inl (needed_open v t (same l loc)))

  there_exact : (i : ℕ) (c : PureChunk) → slice_get cs i ≡ Some c → (s : PureSub) → c.sub ≡ s → (t : PureTerm) → c.val ≡ t → Each (IsExactCase Record v r) (disposed_there l cs i c.loc s t)
  there_exact i c there shape is (list_of ts) val = taken_exact i c (each_at (Fact vars v h) cs i c facts there) there is ts val
  there_exact i c there shape is (literal k) val = tt
  there_exact i c there shape is (variable x) val = open_exact (variable x) c.loc
  there_exact i c there shape is (unary_of op t) val = open_exact (unary_of op t) c.loc
  there_exact i c there shape is (binary_of op t u) val = open_exact (binary_of op t u) c.loc
  there_exact i c there (named p) is t val = tt
  there_exact i c there (cell p) is t val = tt
  there_exact i c there bound is t val = tt
  there_exact i c there dom is t val = tt
  there_exact i c there proto is t val = tt
  there_exact i c there gone is t val = tt

  from_exact : (i : ℕ) (ds : List PureChunk) → ((j : ℕ) (c : PureChunk) → slice_get ds j ≡ Some c → slice_get cs (i + j) ≡ Some c) → Each (IsExactCase Record v r) (disposed_from l cs i ds)
  from_exact i [] places = tt
  from_exact i (c ∷ ds) places =
      each_append (IsExactCase Record v r) (disposed_there l cs i c.loc c.sub c.val) (disposed_from l cs (i + 1) ds)
      (there_exact i c (ap (slice_get cs) (omega arith) ∙ places 0 c refl) c.sub refl c.val refl)
      (from_exact (i + 1) ds (λ j d at_j. ap (slice_get cs) (omega arith) ∙ places (suc j) d at_j))

  -- ---- no chunk has the names

  undescribed_by : (c : PureChunk) (f : Fact vars v h c) (s : PureSub) → c.sub ≡ s → Hold v (undescribed_there s) → (¬ (f.k ≡ key a Shape)) × (¬ (f.k ≡ key a Gone))
  undescribed_by c f shape is holds = absurd holds
  undescribed_by c f gone is holds = absurd holds
  undescribed_by c f (named q) is holds = ((λ e. absurd (omega (arith, key_number vars v h c f (named q) a Shape is e))), (λ e. absurd (omega (arith, key_number vars v h c f (named q) a Gone is e))))
  undescribed_by c f (cell q) is holds = ((λ e. absurd (omega (arith, key_number vars v h c f (cell q) a Shape is e))), (λ e. absurd (omega (arith, key_number vars v h c f (cell q) a Gone is e))))
  undescribed_by c f bound is holds = ((λ e. absurd (omega (arith, key_number vars v h c f bound a Shape is e))), (λ e. absurd (omega (arith, key_number vars v h c f bound a Gone is e))))
  undescribed_by c f dom is holds = ((λ e. absurd (omega (arith, key_number vars v h c f dom a Shape is e))), (λ e. absurd (omega (arith, key_number vars v h c f dom a Gone is e))))
  undescribed_by c f proto is holds = ((λ e. absurd (omega (arith, key_number vars v h c f proto a Shape is e))), (λ e. absurd (omega (arith, key_number vars v h c f proto a Gone is e))))

  at_loc : (k : Key) (t : Sub) → k ≡ key a t → k.loc ≡ a
  at_loc k t e = ap (λ (q : Key). q.loc) e

  missed_for : Hold v (all_by_place l undescribed cs) → IsFor Record v r cs (missed_key l shape)
  missed_for holds =
      let away : (j : ℕ) (c : PureChunk) (f : Fact vars v h c) → slice_get cs j ≡ Some c → f.k.loc ≡ a → (¬ (f.k ≡ key a Shape)) × (¬ (f.k ≡ key a Gone)) = (λ j c f there e. undescribed_by c f c.sub refl (by_place_parts vars v h proper cs stands.union facts l a asked undescribed holds j c f there e)) in
      let no_shape : get h (key a Shape) ≡ None = none_from (get h (key a Shape)) (λ has_it. let (w, at_w) = value_at h (key a Shape) has_it in at_chunk vars v h proper cs stands.union facts (key a Shape) w at_w (λ j c f there e is. (away j c f there (at_loc f.k Shape e)).0 e)) in
      let none_gone : get h (key a Gone) ≡ None = none_from (get h (key a Gone)) (λ has_it. let (w, at_w) = value_at h (key a Gone) has_it in at_chunk vars v h proper cs stands.union facts (key a Gone) w at_w (λ j c f there e is. (away j c f there (at_loc f.k Gone e)).1 e)) in
      let e : r ≡ misses (key a Shape) h = is_r ∙ at_none h (key a Gone) _ _ none_gone ∙ at_none h (key a Shape) _ _ no_shape in
      subst (λ x. IsFor Record v x cs (missed_key l shape)) (sym e) ((shape_asked vars v h proper cs stands.union facts stands.is_heap l a asked).is, stands)

  by_undescribed : (c : PureChunk) (f : Fact vars v h c) (s : PureSub) → c.sub ≡ s → f.k.loc ≡ a → get h (key a Shape) ≡ None → get h (key a Gone) ≡ None → Hold v (undescribed_there s)
  by_undescribed c f shape is e no_shape none_gone = absurd (not_both (get h (key a Shape)) no_shape (held_at vars v h proper cs stands.union facts c f (key a Shape) (key_at vars v h proper l a asked c f shape Shape is refl e)))
  by_undescribed c f gone is e no_shape none_gone = absurd (not_both (get h (key a Gone)) none_gone (held_at vars v h proper cs stands.union facts c f (key a Gone) (key_at vars v h proper l a asked c f gone Gone is refl e)))
  by_undescribed c f (named q) is e no_shape none_gone = always_true v
  by_undescribed c f (cell q) is e no_shape none_gone = always_true v
  by_undescribed c f bound is e no_shape none_gone = always_true v
  by_undescribed c f dom is e no_shape none_gone = always_true v
  by_undescribed c f proto is e no_shape none_gone = always_true v

  -- ---- the cases

  pub dispose_exact : Each (IsExactCase Record v r) (dispose_cases l cs)
  dispose_exact =
      each_append (IsExactCase Record v r) (gone_case l cs) _ (gone_exact Record vars v h proper cs stands facts l a asked r gone_result)
      (each_append (IsExactCase Record v r) (disposed_from l cs 0 cs) _ (from_exact 0 cs (λ j c at_j. ap (slice_get cs) (omega arith) ∙ at_j))
      (made_exact Record v r (all_by_place l undescribed cs) cs (missed_key l shape) (inr missed_for)))

  abbrev Comes : List PureCase → Type 0
  Comes cases = OneOf (λ d. Hold v d.when) cases

  after_gone : Comes (disposed_from l cs 0 cs ++ case_of (all_by_place l undescribed cs) cs (missed_key l shape)) → Comes (dispose_cases l cs)
  after_gone one = one_right (λ d. Hold v d.when) (gone_case l cs) _ one

  from_comes : (i : ℕ) (ds : List PureChunk) (j : ℕ) (c : PureChunk) → slice_get ds j ≡ Some c → Comes (disposed_there l cs (i + j) c.loc c.sub c.val) → Comes (disposed_from l cs i ds)
  from_comes i [] j c there one = not_none there
  from_comes i (d ∷ ds) zero c there one =
      one_left (λ d. Hold v d.when) (disposed_there l cs i d.loc d.sub d.val) (disposed_from l cs (i + 1) ds)
      (subst (λ (e : PureChunk). Comes (disposed_there l cs i e.loc e.sub e.val)) (sym (same_some there))
      (subst (λ k. Comes (disposed_there l cs k c.loc c.sub c.val)) (omega arith) one))
  from_comes i (d ∷ ds) (suc j) c there one =
      one_right (λ d. Hold v d.when) (disposed_there l cs i d.loc d.sub d.val) (disposed_from l cs (i + 1) ds)
      (from_comes (i + 1) ds j c there (subst (λ k. Comes (disposed_there l cs k c.loc c.sub c.val)) (omega arith) one))

  module _ (i : ℕ) (c : PureChunk) (f : Fact vars v h c) (there : slice_get cs i ≡ Some c) (e : f.k ≡ key a Shape) (is : c.sub ≡ shape) where
    is_name_list_here : is_name_list f.w ≡ true
    is_name_list_here = stands.is_heap.well_formed.name_lists a Shape f.w tt (held_at vars v h proper cs stands.union facts c f (key a Shape) e)

    needed : (t : PureTerm) → c.val ≡ t → is_list_term t ≡ false → Hold v (form_of t (same l c.loc))
    needed t val no_list = form_is_needed v t f.w (same l c.loc) no_list (ap (value v) (sym val) ∙ f.entry.holds) is_name_list_here ((loc_tells vars v h proper c f l a asked).1 (at_loc f.k Shape e))

    open_comes : (t : PureTerm) → c.val ≡ t → is_list_term t ≡ false → Comes (case_of (form_of t (same l c.loc)) cs (done true_term))
    open_comes t val no_list = made_comes v (form_of t (same l c.loc)) cs (done true_term) (needed t val no_list)

    there_comes : (t : PureTerm) → c.val ≡ t → Comes (disposed_there l cs i c.loc shape t)
    there_comes (list_of ts) val = taken_comes i c f there is ts val (at_loc f.k Shape e)
    there_comes (literal k) val = absurd (needed (literal k) val refl)
    there_comes (variable x) val = open_comes (variable x) val refl
    there_comes (unary_of op t) val = open_comes (unary_of op t) val refl
    there_comes (binary_of op t u) val = open_comes (binary_of op t u) val refl

    pub here_comes : Comes (disposed_there l cs i c.loc c.sub c.val)
    here_comes = subst (λ s. Comes (disposed_there l cs i c.loc s c.val)) (sym is) (there_comes c.val refl)

  by_shape : get h (key a Gone) ≡ None → (o : Option PureValue) → get h (key a Shape) ≡ o → Comes (dispose_cases l cs)
  by_shape none_gone (Some d) is = at_chunk vars v h proper cs stands.union facts (key a Shape) d is (λ i c f there e at_d.
      after_gone (one_left (λ d. Hold v d.when) (disposed_from l cs 0 cs) _ (from_comes 0 cs i c there
      (subst (λ k. Comes (disposed_there l cs k c.loc c.sub c.val)) (omega arith) (here_comes i c f there e (shape_of vars v h proper c f a e))))))
  by_shape none_gone None is =
      after_gone (one_right (λ d. Hold v d.when) (disposed_from l cs 0 cs) _ (made_comes v (all_by_place l undescribed cs) cs (missed_key l shape)
      (by_place_from vars v h proper cs stands.union facts l a asked undescribed (λ i c f there e. by_undescribed c f c.sub refl e is none_gone))))

  by_gone : (o : Option PureValue) → get h (key a Gone) ≡ o → Comes (dispose_cases l cs)
  by_gone (Some w) is = one_left (λ d. Hold v d.when) (gone_case l cs) _ (gone_comes Record vars v h proper cs stands facts l a asked w is)
  by_gone None is = by_shape is (get h (key a Shape)) refl

  pub dispose_comes : Comes (dispose_cases l cs)
  dispose_comes = by_gone (get h (key a Gone)) refl
