-- The cases of `delete` are right.
use Rattle.std.proofs.Common.{◌≡◌, ⊎_elim, inl, inr, ℕ, zero, suc, ◌+◌, List, [], ◌∷◌, ◌++◌, Bool, true, false, Option, Some, None, IsTrue, slice_get, refl, sym, ap, subst, ◌∙◌, arith}
use Rattle.std.specs.FinMap.{get, insert, remove}
use Rattle.std.specs.List.{remove as remove_at}
use Rattle.std.proofs.lemmas.List.{append_assoc}
use Rattle.gil_values.specs.Pure.{PureValue, text, boolean, list, from_list as list_values}
use Rattle.mem_model.specs.declared.keys.Key.{Key}
use Rattle.mem_model.specs.declared.keys.Sub.TheVariants.{Name, Dom}
use Rattle.mem_model.specs.declared.keys.MemoryName.TheVariants.{Object}
use Rattle.mem_model.specs.Actions.{ActionResult}
use Rattle.mem_model.specs.Heaps.{Heap, Holds, IsHeapOf}
use Rattle.mem_model.specs.Keys.{key}
use Rattle.mem_model.specs.Names.{is_name_list, lists_name}
use Rattle.mem_model.specs.Tables.{does, misses}
use Rattle.object_heap.specs.Table.{without_name, delete_property}
use Rattle.object_sym.specs.Table.{taken_from, taken, relisted, taken_each, deleted_there, deleted_from, delete_cases}
use Rattle.pure_terms.specs.declared.variables.Sort.{Sort}
use Rattle.pure_terms.specs.Meaning.{value, values, all_true, IsProper, IsOver}
use Rattle.pure_terms.specs.Pure.{PureTerm, literal, variable, list_of, unary_of, binary_of, PureTerms, to_list, from_list}
use Rattle.sym_chunks.specs.ByPlace.{all_by_place}
use Rattle.sym_chunks.specs.Cases.{PureCase, case_of, true_term, missed_key, missed_name}
use Rattle.sym_chunks.specs.Forms.{form_of}
use Rattle.sym_chunks.specs.Keys.{other_sub, at_key}
use Rattle.sym_chunks.specs.Laws.{IsLocation, IsKeyOf}
use Rattle.sym_chunks.specs.NameTerms.{unlisted}
use Rattle.sym_model.specs.Alternatives.{Alternatives, Hold, both, any, same}
use Rattle.sym_model.proofs.Combined.{both_from, both_parts}
use Rattle.sym_model.proofs.Telling.{same_tells}
use Rattle.sym_model.specs.Chunks.{IsEntry, IsUnion, StandFor}
use Rattle.sym_model.specs.Lists.{Each, OneOf}
use Rattle.sym_model.specs.Meaning.{location_of, name_of, key_of}
use Rattle.sym_model.specs.Pure.{PureSub, named, cell, shape, bound, dom, proto, gone, PureChunk, done}
use Rattle.sym_model.specs.Terms.{is_list_term}
use Rattle.sym_model.proofs.Asking.{both_parts as value_parts}
use Rattle.sym_model.proofs.ListLaws.{same_some, not_none, each_append, each_at, each_right, one_left, one_right, one_flat, one_flattened}
use Rattle.sym_model.proofs.Unions.{held_changes, taken_out, remove-insert_other, same_entry}
use Rattle.sym_chunks.proofs.CaseLaws.{IsFor, IsExactCase, made_exact, made_comes, needed_open}
use Rattle.sym_chunks.proofs.Facts.{Fact, key_tells, loc_tells}
use Rattle.sym_chunks.proofs.FoundLaws.{at_chunk, lacks_key, key_lacks}
use Rattle.sym_chunks.proofs.ChunkFacts.{lies_at, val_over, val_is}
use Rattle.sym_chunks.proofs.NameLists.{elements_over, list_value, listed_holds, holds_listed, unlisted_holds, holds_unlisted}
use Rattle.sym_chunks.proofs.NamesHeld.{form_is_needed}
use Rattle.object_sym.proofs.HeapLaws.{delete_absent, delete_taken, delete_missed, delete_nowhere}
use Rattle.object_sym.proofs.ListValues.{values_append, values_split, list_is, given_values, without_is, held_elsewhere}
use Rattle.object_sym.proofs.PropertyLaws.{Comes, dom_of, stands_now, dom_asked, dom_at, holds_at, names_at, name_asked}
use Rattle.object_sym.proofs.SetLaws.{name_is_no_list}

module _ (vars : List Sort) (v : List PureValue) (h : Heap) (proper : IsProper vars v) (cs : List PureChunk) (union : IsUnion v cs h) (facts : Each (Fact vars v h) cs) (is_heap : IsHeapOf Object h)
    (l : PureTerm) (a : ℕ) (asked : IsLocation vars v l a) (p : PureTerm) (n : List ℕ) (over_p : IsOver vars p) (is_p : value v p ≡ Some (text n))
    (keeps : IsHeapOf Object (delete_property a n h).heap) where
  abbrev r : ActionResult
  r = delete_property a n h

  abbrev Right : PureCase → Type 0
  Right = IsExactCase Object v r

  stands : StandFor Object cs v h
  stands = stands_now vars v h proper cs union facts is_heap l a asked

  done_for : r ≡ does (boolean true) h → IsFor Object v r cs (done true_term)
  done_for e = subst (λ x. IsFor Object v x cs (done true_term)) (sym e) (refl, stands)

  missed_for : r ≡ misses (key a (Name n)) h → IsFor Object v r cs (missed_name l p)
  missed_for e = subst (λ x. IsFor Object v x cs (missed_name l p)) (sym e) ((name_asked vars v h proper cs union facts is_heap l a asked p n over_p is_p).is, stands)

  -- ---- an element of the list at a place

  module _ (i : ℕ) (c : PureChunk) (f : Fact vars v h c) (there : slice_get cs i ≡ Some c) (before : List PureTerm) (e : PureTerm) (es : List PureTerm)
      (over_all : Each (IsOver vars) (before ++ e ∷ es)) (us ws : List PureValue) (w : PureValue)
      (have_before : values v (from_list before) ≡ Some us) (have_e : value v e ≡ Some w) (have_after : values v (from_list es) ≡ Some ws) (whole : f.w ≡ list (list_values (us ++ w ∷ ws))) where
    over_e : IsOver vars e
    over_e = (each_right (IsOver vars) before (e ∷ es) over_all).0

    abbrev rest_names : PureTerm
    rest_names = list_of (from_list (before ++ es))

    abbrev rest_value : PureValue
    rest_value = list (list_values (us ++ ws))

    abbrev less : List PureChunk
    less = relisted cs i (before ++ es)

    abbrev when : Alternatives
    when = both (same l c.loc) (same p e)

    -- the location and the name are these
    here_parts : Hold v when → (f.k.loc ≡ a) × (w ≡ text n)
    here_parts holds =
        let parts = both_parts v (same l c.loc) (same p e) holds in (
          (loc_tells vars v h proper c f l a asked).0 parts.0,
          sym ((same_tells vars v p e (text n) w (record { proper = proper; first_over = over_p; second_over = over_e; first = is_p; second = have_e })).0 parts.1),
        )

    module _ (dom_here : f.k ≡ key a Dom) (is_n : w ≡ text n) where
      abbrev g : Heap
      g = insert h (key a Dom) rest_value

      less_union : IsUnion v less g
      less_union =
          subst (λ q. IsUnion v less (insert h q rest_value)) dom_here
          (held_changes v cs h i c f.k f.w rest_names rest_value union there f.entry (list_is v (before ++ es) (us ++ ws) (values_append v before es us ws have_before have_after)))

      e_asked : IsKeyOf vars v c.loc (named e) (key a (Name n))
      e_asked = record {
        over_loc = f.over.places.0;
        over_sub = (over_e, tt);
        is = λ j. key_of (location_of (lies_at vars v h proper l a asked c f (ap (λ (q : Key). q.loc) dom_here) j)) (name_of ((have_e ∙ ap Some is_n) j));
      }

      held_dom : Holds h (key a Dom) f.w
      held_dom = holds_at vars v h proper cs union facts is_heap l a asked c f (key a Dom) dom_here

      is_list_of_names : is_name_list f.w ≡ true
      is_list_of_names = names_at vars v h proper cs union facts is_heap l a asked c f dom_here

      shorter : rest_value ≡ without_name f.w n
      shorter =
          let with_n : f.w ≡ list (list_values (us ++ text n ∷ ws)) = whole ∙ ap (λ x. list (list_values (us ++ x ∷ ws))) is_n in
          without_is n us ws (ap is_name_list (sym with_n) ∙ is_list_of_names) ∙ ap (λ d. without_name d n) (sym with_n)

      -- the chunk of the name stays where the list changes
      other_place : (k : ℕ) (d : PureChunk) → slice_get cs k ≡ Some d → (q : Fact vars v h d) → q.k ≡ key a (Name n) → ¬ (k ≡ i)
      other_place k d at q at_name same = name_is_no_list a n (sym at_name ∙ (same_entry v d q.k f.k q.w f.w q.entry (subst (λ x. IsEntry v x f.k f.w) (same_some (sym there ∙ ap (slice_get cs) (sym same) ∙ at)) f.entry)).0 ∙ dom_here)

      taken_for : lists_name f.w n ≡ true → (k : ℕ) (d : PureChunk) → slice_get cs k ≡ Some d → (q : Fact vars v h d) → q.k ≡ key a (Name n) → IsFor Object v r (remove_at less k) (done true_term)
      taken_for is_named k d at q at_name =
          let held : Holds h (key a (Name n)) q.w = holds_at vars v h proper cs union facts is_heap l a asked d q (key a (Name n)) at_name in
          let is_r = delete_taken a h n f.w q.w held_dom is_named held in
          let still : slice_get less k ≡ Some d = held_elsewhere cs i k rest_names (other_place k d at q at_name) ∙ at in
          let out : IsUnion v (remove_at less k) (remove g (key a (Name n))) = subst (λ x. IsUnion v (remove_at less k) (remove g x)) at_name (taken_out v less g k d q.k q.w less_union still q.entry) in
          let same_heap : remove g (key a (Name n)) ≡ insert (remove h (key a (Name n))) (key a Dom) (without_name f.w n) =
          remove-insert_other h (key a Dom) (key a (Name n)) rest_value (λ same. name_is_no_list a n (sym same)) ∙ ap (insert (remove h (key a (Name n))) (key a Dom)) shorter in
          subst (λ x. IsFor Object v x (remove_at less k) (done true_term)) (sym is_r) (
            refl,
            record { union = subst (IsUnion v (remove_at less k)) same_heap out; is_heap = subst (λ (x : ActionResult). IsHeapOf Object x.heap) is_r keeps },
          )

      missing_for : lists_name f.w n ≡ true → Hold v (all_by_place c.loc (λ d. other_sub (named e) d.sub) cs) → IsFor Object v r cs (missed_name l p)
      missing_for is_named holds =
          missed_for (delete_missed a h n f.w held_dom is_named (lacks_key vars v h proper cs union facts c.loc (named e) (key a (Name n)) e_asked holds))

    module _ (is_dom : c.sub ≡ dom) (named_where : w ≡ text n → lists_name f.w n ≡ true) where
      -- where `when` holds, P of what is known then
      where_here : {X : Type 0} → Hold v when → ((dom_here : f.k ≡ key a Dom) (is_n : w ≡ text n) → X) → X
      where_here holds use_it = let parts = here_parts holds in use_it (dom_at vars v h proper cs union facts is_heap l a asked c f is_dom parts.0) parts.1

      taken_exact : (y : Alternatives) → (Hold v y → Hold v when) → (k : ℕ) (ds : List PureChunk) → ((j : ℕ) (d : PureChunk) → slice_get ds j ≡ Some d → slice_get cs (k + j) ≡ Some d) → Each Right (taken_from y c.loc (named e) less k ds)
      taken_exact y gives k [] places = tt
      taken_exact y gives k (d ∷ ds) places =
          let at : slice_get cs k ≡ Some d = ap (slice_get cs) (omega arith) ∙ places 0 d refl in
          each_append Right (case_of (both y (at_key c.loc (named e) d)) (remove_at less k) (done true_term)) (taken_from y c.loc (named e) less (k + 1) ds)
          (made_exact Object v r (both y (at_key c.loc (named e) d)) (remove_at less k) (done true_term) (inr (λ holds.
          let parts = both_parts v y (at_key c.loc (named e) d) holds in
          where_here (gives parts.0) (λ dom_here is_n.
          let q = each_at (Fact vars v h) cs k d facts at in
          taken_for dom_here is_n (named_where is_n) k d at q ((key_tells vars v h proper d q c.loc (named e) (key a (Name n)) (e_asked dom_here is_n)).0 parts.1)))))
          (taken_exact y gives (k + 1) ds (λ j x at_x. ap (slice_get cs) (omega arith) ∙ places (suc j) x at_x))

      element_by : (y : Alternatives) → (Hold v y → Hold v when) → Each Right (taken y l p cs less c.loc e)
      element_by [] gives = tt
      element_by (conds ∷ y) gives =
          each_append Right (taken_from (conds ∷ y) c.loc (named e) less 0 cs) (case_of (both (conds ∷ y) (all_by_place c.loc (λ d. other_sub (named e) d.sub) cs)) cs (missed_name l p))
          (taken_exact (conds ∷ y) gives 0 cs (λ j d at. ap (slice_get cs) (omega arith) ∙ at))
          (made_exact Object v r (both (conds ∷ y) (all_by_place c.loc (λ d. other_sub (named e) d.sub) cs)) cs (missed_name l p) (inr (λ holds.
          let parts = both_parts v (conds ∷ y) (all_by_place c.loc (λ d. other_sub (named e) d.sub) cs) holds in
          where_here (gives parts.0) (λ dom_here is_n. missing_for dom_here is_n (named_where is_n) parts.1))))

      pub element_exact : Each Right (taken when l p cs less c.loc e)
      element_exact = element_by when (λ holds. holds)

      taken_comes : (y : Alternatives) → Hold v y → (k : ℕ) (ds : List PureChunk) (j : ℕ) (d : PureChunk) → slice_get ds j ≡ Some d → Hold v (at_key c.loc (named e) d) → OneOf (Comes v) (taken_from y c.loc (named e) less k ds)
      taken_comes y holds_y k [] j d at holds = not_none at
      taken_comes y holds_y k (x ∷ ds) zero d at holds =
          one_left (Comes v) (case_of (both y (at_key c.loc (named e) x)) (remove_at less k) (done true_term)) (taken_from y c.loc (named e) less (k + 1) ds)
          (made_comes v (both y (at_key c.loc (named e) x)) (remove_at less k) (done true_term)
          (both_from v y (at_key c.loc (named e) x) holds_y (subst (λ z. Hold v (at_key c.loc (named e) z)) (sym (same_some at)) holds)))
      taken_comes y holds_y k (x ∷ ds) (suc j) d at holds =
          one_right (Comes v) (case_of (both y (at_key c.loc (named e) x)) (remove_at less k) (done true_term)) (taken_from y c.loc (named e) less (k + 1) ds) (taken_comes y holds_y (k + 1) ds j d at holds)

      comes_by : (y : Alternatives) → Hold v y → Hold v when → (o : Option PureValue) → get h (key a (Name n)) ≡ o → OneOf (Comes v) (taken y l p cs less c.loc e)
      comes_by [] holds_y holds o is = absurd holds_y
      comes_by (conds ∷ y) holds_y holds (Some x) is =
          one_left (Comes v) (taken_from (conds ∷ y) c.loc (named e) less 0 cs) (case_of (both (conds ∷ y) (all_by_place c.loc (λ d. other_sub (named e) d.sub) cs)) cs (missed_name l p))
          (where_here holds (λ dom_here is_n. at_chunk vars v h proper cs union facts (key a (Name n)) x is (λ k d q at at_name same.
          taken_comes (conds ∷ y) holds_y 0 cs k d at ((key_tells vars v h proper d q c.loc (named e) (key a (Name n)) (e_asked dom_here is_n)).1 at_name))))
      comes_by (conds ∷ y) holds_y holds None is =
          one_right (Comes v) (taken_from (conds ∷ y) c.loc (named e) less 0 cs) (case_of (both (conds ∷ y) (all_by_place c.loc (λ d. other_sub (named e) d.sub) cs)) cs (missed_name l p))
          (made_comes v (both (conds ∷ y) (all_by_place c.loc (λ d. other_sub (named e) d.sub) cs)) cs (missed_name l p)
          (both_from v (conds ∷ y) (all_by_place c.loc (λ d. other_sub (named e) d.sub) cs) holds_y (where_here holds (λ dom_here is_n. key_lacks vars v h proper cs union facts c.loc (named e) (key a (Name n)) (e_asked dom_here is_n) is))))

      pub element_comes : Hold v when → OneOf (Comes v) (taken when l p cs less c.loc e)
      element_comes holds = comes_by when holds holds (get h (key a (Name n))) refl

  -- ---- the elements of the list at a place

  module _ (i : ℕ) (c : PureChunk) (f : Fact vars v h c) (there : slice_get cs i ≡ Some c) (is_dom : c.sub ≡ dom) (ts : PureTerms) (is_list : c.val ≡ list_of ts) where
    over_list : IsOver vars (list_of ts)
    over_list = val_over vars v h c f (list_of ts) is_list

    -- what is known of the elements before one, of it, and of those after it
    with_values : {X : Type 0} (before : List PureTerm) (e : PureTerm) (es : List PureTerm) → before ++ e ∷ es ≡ to_list ts
        → ((us ws : List PureValue) (w : PureValue) → values v (from_list before) ≡ Some us → value v e ≡ Some w → values v (from_list es) ≡ Some ws → f.w ≡ list (list_values (us ++ w ∷ ws)) → X) → X
    with_values before e es split use_it =
        let (zs, (have, whole)) = list_value v ts f.w (val_is vars v h c f (list_of ts) is_list) in
        let (us, (more, (first, second, parts))) = values_split v before (e ∷ es) zs (ap (λ xs. values v (from_list xs)) split ∙ given_values v ts zs have) in
        let (w, (ws, (at_e, after, joined))) = value_parts (value v e) (values v (from_list es)) more second in
        use_it us ws w first at_e after (whole ∙ ap (λ ks. list (list_values ks)) (parts ∙ ap (λ k. us ++ k) joined))

    over_elements : (before : List PureTerm) (e : PureTerm) (es : List PureTerm) → before ++ e ∷ es ≡ to_list ts → Each (IsOver vars) (before ++ e ∷ es)
    over_elements before e es split = subst (Each (IsOver vars)) (sym split) (elements_over vars ts over_list)

    -- an element with the name is one of the list
    element_named : (before : List PureTerm) (e : PureTerm) (es : List PureTerm) → before ++ e ∷ es ≡ to_list ts → (w : PureValue) → value v e ≡ Some w → w ≡ text n → lists_name f.w n ≡ true
    element_named before e es split w have is_n =
        listed_holds vars v proper p n over_p is_p ts f.w over_list (val_is vars v h c f (list_of ts) is_list)
        (subst (λ xs. Hold v (any (same p) xs)) split
        (one_flat (λ conds. IsTrue (all_true v conds)) (same p) (before ++ e ∷ es)
        (one_right (λ x. Hold v (same p x)) before (e ∷ es)
        (inl ((same_tells vars v p e (text n) w (record { proper = proper; first_over = over_p; second_over = (each_right (IsOver vars) before (e ∷ es) (over_elements before e es split)).0; first = is_p; second = have })).1 (sym is_n))))))

    next_split : (before : List PureTerm) (e : PureTerm) (es : List PureTerm) → before ++ e ∷ es ≡ to_list ts → (before ++ e ∷ []) ++ es ≡ to_list ts
    next_split before e es split = append_assoc before (e ∷ []) es ∙ split

    each_exact : (before es : List PureTerm) → before ++ es ≡ to_list ts → Each Right (taken_each l p cs i c.loc before es)
    each_exact before [] split = tt
    each_exact before (e ∷ es) split =
        each_append Right (taken (both (same l c.loc) (same p e)) l p cs (relisted cs i (before ++ es)) c.loc e) (taken_each l p cs i c.loc (before ++ e ∷ []) es)
        (with_values before e es split (λ us ws w first at_e after whole.
        element_exact i c f there before e es (over_elements before e es split) us ws w first at_e after whole is_dom (element_named before e es split w at_e)))
        (each_exact (before ++ e ∷ []) es (next_split before e es split))

    each_comes : Hold v (same l c.loc) → (before es : List PureTerm) → before ++ es ≡ to_list ts → OneOf (λ e. Hold v (same p e)) es → OneOf (Comes v) (taken_each l p cs i c.loc before es)
    each_comes here before [] split one = absurd one
    each_comes here before (e ∷ es) split one =
        ⊎_elim
        (λ is. one_left (Comes v) (taken (both (same l c.loc) (same p e)) l p cs (relisted cs i (before ++ es)) c.loc e) (taken_each l p cs i c.loc (before ++ e ∷ []) es)
        (with_values before e es split (λ us ws w first at_e after whole.
        element_comes i c f there before e es (over_elements before e es split) us ws w first at_e after whole is_dom (element_named before e es split w at_e) (both_from v (same l c.loc) (same p e) here is))))
        (λ later. one_right (Comes v) (taken (both (same l c.loc) (same p e)) l p cs (relisted cs i (before ++ es)) c.loc e) (taken_each l p cs i c.loc (before ++ e ∷ []) es)
        (each_comes here (before ++ e ∷ []) es (next_split before e es split) later))
        one

    listed_exact : Each Right (deleted_there l p cs i c.loc dom (list_of ts))
    listed_exact =
        each_append Right (case_of (both (same l c.loc) (unlisted p (list_of ts))) cs (done true_term)) (taken_each l p cs i c.loc [] (to_list ts))
        (made_exact Object v r (both (same l c.loc) (unlisted p (list_of ts))) cs (done true_term) (inr (λ holds.
        let parts = both_parts v (same l c.loc) (unlisted p (list_of ts)) holds in
        let dom_here = dom_at vars v h proper cs union facts is_heap l a asked c f is_dom ((loc_tells vars v h proper c f l a asked).0 parts.0) in
        done_for (delete_absent a h n f.w (holds_at vars v h proper cs union facts is_heap l a asked c f (key a Dom) dom_here)
        (unlisted_holds vars v proper p n over_p is_p ts f.w over_list (val_is vars v h c f (list_of ts) is_list) parts.1)))))
        (each_exact [] (to_list ts) refl)

    listed_by : Hold v (same l c.loc) → (b : Bool) → lists_name f.w n ≡ b → OneOf (Comes v) (deleted_there l p cs i c.loc dom (list_of ts))
    listed_by here false unnamed =
        one_left (Comes v) (case_of (both (same l c.loc) (unlisted p (list_of ts))) cs (done true_term)) (taken_each l p cs i c.loc [] (to_list ts))
        (made_comes v (both (same l c.loc) (unlisted p (list_of ts))) cs (done true_term)
        (both_from v (same l c.loc) (unlisted p (list_of ts)) here (holds_unlisted vars v proper p n over_p is_p ts f.w over_list (val_is vars v h c f (list_of ts) is_list) unnamed)))
    listed_by here true is_named =
        one_right (Comes v) (case_of (both (same l c.loc) (unlisted p (list_of ts))) cs (done true_term)) (taken_each l p cs i c.loc [] (to_list ts))
        (each_comes here [] (to_list ts) refl
        (one_flattened (λ conds. IsTrue (all_true v conds)) (same p) (to_list ts) (holds_listed vars v proper p n over_p is_p ts f.w over_list (val_is vars v h c f (list_of ts) is_list) is_named)))

  -- ---- a chunk at a place

  module _ (i : ℕ) (c : PureChunk) (f : Fact vars v h c) (there : slice_get cs i ≡ Some c) where
    needed_exact : (t : PureTerm) → Each Right (case_of (form_of t (same l c.loc)) cs (done true_term))
    needed_exact t = made_exact Object v r (form_of t (same l c.loc)) cs (done true_term) (inl (needed_open v t (same l c.loc)))

    there_exact : (s : PureSub) → c.sub ≡ s → (t : PureTerm) → c.val ≡ t → Each Right (deleted_there l p cs i c.loc s t)
    there_exact dom is (list_of ts) is_t = listed_exact i c f there is ts is_t
    there_exact dom is (literal k) is_t = needed_exact (literal k)
    there_exact dom is (variable y) is_t = needed_exact (variable y)
    there_exact dom is (unary_of op t) is_t = needed_exact (unary_of op t)
    there_exact dom is (binary_of op t u) is_t = needed_exact (binary_of op t u)
    there_exact (named q) is t is_t = tt
    there_exact (cell q) is t is_t = tt
    there_exact shape is t is_t = tt
    there_exact bound is t is_t = tt
    there_exact proto is t is_t = tt
    there_exact gone is t is_t = tt

    module _ (dom_here : f.k ≡ key a Dom) where
      here : Hold v (same l c.loc)
      here = (loc_tells vars v h proper c f l a asked).1 (ap (λ (q : Key). q.loc) dom_here)

      needed_comes : (t : PureTerm) → c.val ≡ t → is_list_term t ≡ false → OneOf (Comes v) (case_of (form_of t (same l c.loc)) cs (done true_term))
      needed_comes t is_t no_list =
          made_comes v (form_of t (same l c.loc)) cs (done true_term)
          (form_is_needed v t f.w (same l c.loc) no_list (val_is vars v h c f t is_t) (names_at vars v h proper cs union facts is_heap l a asked c f dom_here) here)

      names_come : c.sub ≡ dom → (t : PureTerm) → c.val ≡ t → OneOf (Comes v) (deleted_there l p cs i c.loc dom t)
      names_come is (list_of ts) is_t = listed_by i c f there is ts is_t here (lists_name f.w n) refl
      names_come is (literal k) is_t = needed_comes (literal k) is_t refl
      names_come is (variable y) is_t = needed_comes (variable y) is_t refl
      names_come is (unary_of op t) is_t = needed_comes (unary_of op t) is_t refl
      names_come is (binary_of op t u) is_t = needed_comes (binary_of op t u) is_t refl

      there_comes : OneOf (Comes v) (deleted_there l p cs i c.loc c.sub c.val)
      there_comes = let is = dom_of vars v h proper c f a dom_here in subst (λ s. OneOf (Comes v) (deleted_there l p cs i c.loc s c.val)) (sym is) (names_come is c.val refl)

  -- ---- all chunks

  from_exact : (i : ℕ) (ds : List PureChunk) → ((j : ℕ) (c : PureChunk) → slice_get ds j ≡ Some c → slice_get cs (i + j) ≡ Some c) → Each Right (deleted_from l p cs i ds)
  from_exact i [] places = tt
  from_exact i (c ∷ ds) places =
      let there : slice_get cs i ≡ Some c = ap (slice_get cs) (omega arith) ∙ places 0 c refl in
      each_append Right (deleted_there l p cs i c.loc c.sub c.val) (deleted_from l p cs (i + 1) ds)
      (there_exact i c (each_at (Fact vars v h) cs i c facts there) there c.sub refl c.val refl)
      (from_exact (i + 1) ds (λ j d at. ap (slice_get cs) (omega arith) ∙ places (suc j) d at))

  -- the cases of a chunk at a place are among all
  comes_at : (i k : ℕ) (ds : List PureChunk) (j : ℕ) (c : PureChunk) → slice_get ds j ≡ Some c → k ≡ i + j → OneOf (Comes v) (deleted_there l p cs k c.loc c.sub c.val) → OneOf (Comes v) (deleted_from l p cs i ds)
  comes_at i k [] j c there is one = not_none there
  comes_at i k (d ∷ ds) zero c there is one =
      let e : k ≡ i = is ∙ omega arith in
      one_left (Comes v) (deleted_there l p cs i d.loc d.sub d.val) (deleted_from l p cs (i + 1) ds)
      (subst (λ (x : PureChunk). OneOf (Comes v) (deleted_there l p cs i x.loc x.sub x.val)) (sym (same_some there)) (subst (λ m. OneOf (Comes v) (deleted_there l p cs m c.loc c.sub c.val)) e one))
  comes_at i k (d ∷ ds) (suc j) c there is one =
      one_right (Comes v) (deleted_there l p cs i d.loc d.sub d.val) (deleted_from l p cs (i + 1) ds) (comes_at (i + 1) k ds j c there (is ∙ omega arith) one)

  list_asked : IsKeyOf vars v l dom (key a Dom)
  list_asked = dom_asked vars v h proper cs union facts is_heap l a asked

  nowhere_for : Hold v (all_by_place l (λ c. other_sub dom c.sub) cs) → IsFor Object v r cs (missed_key l dom)
  nowhere_for holds =
      subst (λ x. IsFor Object v x cs (missed_key l dom)) (sym (delete_nowhere a h n (lacks_key vars v h proper cs union facts l dom (key a Dom) list_asked holds))) (list_asked.is, stands)

  pub delete_exact : Each Right (delete_cases l p cs)
  delete_exact =
      each_append Right (deleted_from l p cs 0 cs) (case_of (all_by_place l (λ c. other_sub dom c.sub) cs) cs (missed_key l dom))
      (from_exact 0 cs (λ j c at. ap (slice_get cs) (omega arith) ∙ at))
      (made_exact Object v r (all_by_place l (λ c. other_sub dom c.sub) cs) cs (missed_key l dom) (inr nowhere_for))

  by_list : (o : Option PureValue) → get h (key a Dom) ≡ o → OneOf (Comes v) (delete_cases l p cs)
  by_list None is =
      one_right (Comes v) (deleted_from l p cs 0 cs) (case_of (all_by_place l (λ c. other_sub dom c.sub) cs) cs (missed_key l dom))
      (made_comes v (all_by_place l (λ c. other_sub dom c.sub) cs) cs (missed_key l dom) (key_lacks vars v h proper cs union facts l dom (key a Dom) list_asked is))
  by_list (Some d) is =
      one_left (Comes v) (deleted_from l p cs 0 cs) (case_of (all_by_place l (λ c. other_sub dom c.sub) cs) cs (missed_key l dom))
      (at_chunk vars v h proper cs union facts (key a Dom) d is (λ i c f there e same. comes_at 0 i cs i c there (omega arith) (there_comes i c f there e)))

  pub delete_comes : OneOf (Comes v) (delete_cases l p cs)
  delete_comes = by_list (get h (key a Dom)) refl
