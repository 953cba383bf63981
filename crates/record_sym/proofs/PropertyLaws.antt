-- What the conditions of an action on a name of a location say of the heap.
use Rattle.std.proofs.Common.{◌≡◌, ◌⊎◌, ⊎_elim, inl, inr, ℕ, List, [], ◌∷◌, ◌++◌, Bool, true, false, Option, Some, None, IsTrue, slice_get, refl, sym, ap, subst, ◌∙◌, true≢false, arith}
use Rattle.std.specs.FinMap.{get}
use Rattle.gil_values.specs.Pure.{PureValue, text}
use Rattle.mem_model.specs.declared.failures.Failure.{Failure}
use Rattle.mem_model.specs.declared.keys.Key.{Key}
use Rattle.mem_model.specs.declared.keys.Sub.{Sub}
use Rattle.mem_model.specs.declared.keys.Sub.TheVariants.{Name, Shape, Gone}
use Rattle.mem_model.specs.declared.keys.MemoryName.TheVariants.{Record}
use Rattle.mem_model.specs.Actions.{ActionResult}
use Rattle.mem_model.specs.Heaps.{Heap, Holds, HasKey, IsHeapOf}
use Rattle.mem_model.specs.Keys.{key}
use Rattle.mem_model.specs.KeyOrder.{variant_number}
use Rattle.mem_model.specs.Names.{is_name_list, lists_name}
use Rattle.mem_model.specs.Tables.{fails, misses}
use Rattle.mem_model.proofs.Joins.{has_key, value_at}
use Rattle.pure_terms.specs.declared.variables.Sort.{Sort}
use Rattle.pure_terms.specs.Meaning.{value, all_true, IsProper, IsOver}
use Rattle.pure_terms.specs.Pure.{PureTerm, list_of}
use Rattle.record_heap.specs.Table.{no_property}
use Rattle.record_sym.specs.Places.{unlisted_there, lists_not, opened_there, opened_at, opened, tells_not, lacks}
use Rattle.record_sym.specs.Table.{without_name}
use Rattle.sym_chunks.specs.ByPlace.{all_by_place, any_at}
use Rattle.sym_chunks.specs.Cases.{PureCase, case_of, gone_case, failure, missed_name}
use Rattle.sym_chunks.specs.Keys.{other_sub}
use Rattle.sym_chunks.specs.Laws.{IsLocation, IsKeyOf}
use Rattle.sym_model.specs.Alternatives.{Hold, any, same}
use Rattle.sym_model.proofs.Combined.{both_from, always_true}
use Rattle.sym_model.specs.Chunks.{IsUnion, StandFor}
use Rattle.sym_model.specs.Lists.{Each, OneOf}
use Rattle.sym_model.specs.Meaning.{location_of, key_of}
use Rattle.sym_model.specs.Pure.{PureSub, named, cell, shape, bound, dom, proto, gone, PureChunk}
use Rattle.sym_model.specs.Terms.{is_list_term}
use Rattle.sym_model.proofs.ListLaws.{same_some, each_append, each_at, one_left, one_right, one_flat}
use Rattle.sym_model.proofs.Unions.{same_entry}
use Rattle.sym_chunks.proofs.CaseLaws.{AreOpen, IsFor, IsExactCase, made_exact, made_comes, needed_open, both_open, any_open}
use Rattle.sym_chunks.proofs.ChunkFacts.{key_at, somewhere_parts, somewhere_from, val_over, val_is, key_number}
use Rattle.sym_chunks.proofs.Facts.{Fact, kind_number, keys_equal, sub_tells, loc_tells}
use Rattle.sym_chunks.proofs.FoundLaws.{at_chunk, held_at, by_place_parts, by_place_from, key_lacks}
use Rattle.sym_chunks.proofs.GoneLaws.{gone_exact, gone_comes, no_gone_beside}
use Rattle.sym_chunks.proofs.HeapFacts.{none_from, not_both, key_or_not}
use Rattle.sym_chunks.proofs.NameLists.{unlisted_holds, holds_unlisted}
use Rattle.sym_chunks.proofs.NamesHeld.{form_is_needed, name_asked, unheld_by, by_unheld}
use Rattle.record_sym.proofs.HeapLaws.{IsListedHere, gone_result, absent_result, missed_result}

-- the key isn't that of the name, not gone, and where it lists the names of the location, the name is among them
record Away (a : ℕ) (n : List ℕ) (k : Key) (w : PureValue) : Type 0 where
  not_name : ¬ (k ≡ key a (Name n))
  not_gone : ¬ (k ≡ key a Gone)
  lists : k ≡ key a Shape → lists_name w n ≡ true

-- ---- forms

opened_by : (v : List PureValue) (l loc : PureTerm) (s : PureSub) (t : PureTerm) → AreOpen (opened_there l loc s t)
opened_by v l loc shape t = needed_open v t (same l loc)
opened_by v l loc (named q) t = tt
opened_by v l loc (cell q) t = tt
opened_by v l loc dom t = tt
opened_by v l loc bound t = tt
opened_by v l loc proto t = tt
opened_by v l loc gone t = tt

pub opened_needs : (v : List PureValue) (l p : PureTerm) (cs : List PureChunk) → AreOpen (opened l p cs)
opened_needs v l p cs = both_open v (any (opened_at l) cs) (all_by_place l (λ c. other_sub (named p) c.sub) cs) (any_open v (opened_at l) cs (λ c. opened_by v l c.loc c.sub c.val))

-- ---- chunks of lists of names

pub is_shape : (s : PureSub) → 2 ≡ kind_number s → s ≡ shape
is_shape shape is = refl
is_shape (named q) is = absurd (omega (arith, is))
is_shape (cell q) is = absurd (omega (arith, is))
is_shape dom is = absurd (omega (arith, is))
is_shape bound is = absurd (omega (arith, is))
is_shape proto is = absurd (omega (arith, is))
is_shape gone is = absurd (omega (arith, is))

module _ (vars : List Sort) (v : List PureValue) (h : Heap) (proper : IsProper vars v) (c : PureChunk) (f : Fact vars v h c) where
  pub shape_of : (a : ℕ) → f.k ≡ key a Shape → c.sub ≡ shape
  shape_of a e = is_shape c.sub (key_number vars v h c f c.sub a Shape refl e)

  module _ (p : PureTerm) (n : List ℕ) (over_p : IsOver vars p) (is_p : value v p ≡ Some (text n)) where
    lists_not_by : (s : PureSub) → c.sub ≡ s → (t : PureTerm) → c.val ≡ t → Hold v (unlisted_there p s t) → (c.sub ≡ shape) × (lists_name f.w n ≡ false)
    lists_not_by shape is (list_of ts) is_t holds = (is, unlisted_holds vars v proper p n over_p is_p ts f.w (val_over vars v h c f (list_of ts) is_t) (val_is vars v h c f (list_of ts) is_t) holds)
    lists_not_by shape is t is_t holds = absurd holds
    lists_not_by s is t is_t holds = absurd holds

    pub lists_not_tells : Hold v (lists_not p c) → (c.sub ≡ shape) × (lists_name f.w n ≡ false)
    lists_not_tells holds = lists_not_by c.sub refl c.val refl holds

    unnamed_by : (t : PureTerm) → c.val ≡ t → is_list_term t ≡ true → lists_name f.w n ≡ false → Hold v (unlisted_there p shape t)
    unnamed_by (list_of ts) is_t is_list unnamed = holds_unlisted vars v proper p n over_p is_p ts f.w (val_over vars v h c f (list_of ts) is_t) (val_is vars v h c f (list_of ts) is_t) unnamed
    unnamed_by t is_t is_list unnamed = absurd (true≢false (sym is_list))

    pub tells_lists_not : c.sub ≡ shape → is_list_term c.val ≡ true → lists_name f.w n ≡ false → Hold v (lists_not p c)
    tells_lists_not is is_list unnamed = subst (λ s. Hold v (unlisted_there p s c.val)) (sym is) (unnamed_by c.val refl is_list unnamed)

module _ (vars : List Sort) (v : List PureValue) (h : Heap) (proper : IsProper vars v) (cs : List PureChunk) (union : IsUnion v cs h) (facts : Each (Fact vars v h) cs) (is_heap : IsHeapOf Record h)
    (l : PureTerm) (a : ℕ) (asked : IsLocation vars v l a) where
  pub stands_now : StandFor Record cs v h
  stands_now = record { union = union; is_heap = is_heap }

  pub shape_asked : IsKeyOf vars v l shape (key a Shape)
  shape_asked = record { over_loc = asked.over; over_sub = tt; is = ap (λ o. key_of (location_of o) (Some Shape)) asked.is }

  pub shape_at : (c : PureChunk) (f : Fact vars v h c) → c.sub ≡ shape → f.k.loc ≡ a → f.k ≡ key a Shape
  shape_at c f is e = key_at vars v h proper l a asked c f shape Shape is refl e

  at_loc : (c : PureChunk) (f : Fact vars v h c) (t : Sub) → f.k ≡ key a t → f.k.loc ≡ a
  at_loc c f t e = ap (λ (q : Key). q.loc) e

  pub holds_at : (c : PureChunk) (f : Fact vars v h c) (k : Key) → f.k ≡ k → Holds h k f.w
  holds_at c f k e = held_at vars v h proper cs union facts c f k e

  pub names_at : (c : PureChunk) (f : Fact vars v h c) → f.k ≡ key a Shape → is_name_list f.w ≡ true
  names_at c f e = is_heap.well_formed.name_lists a Shape f.w tt (holds_at c f (key a Shape) e)

  pub opened_here : (c : PureChunk) (f : Fact vars v h c) → f.k ≡ key a Shape → is_list_term c.val ≡ false → Hold v (opened_at l c)
  opened_here c f e no_list =
      subst (λ s. Hold v (opened_there l c.loc s c.val)) (sym (shape_of vars v h proper c f a e))
      (form_is_needed v c.val f.w (same l c.loc) no_list f.entry.holds (names_at c f e) ((loc_tells vars v h proper c f l a asked).1 (at_loc c f Shape e)))

  -- the names of the location are given by list terms, or some aren't
  abbrev pub Closed : PureChunk → Type 0
  Closed c = (f : Fact vars v h c) → f.k ≡ key a Shape → is_list_term c.val ≡ true

  closed_by : (c : PureChunk) (f : Fact vars v h c) (b : Bool) → is_list_term c.val ≡ b → (Closed c) ⊎ Hold v (opened_at l c)
  closed_by c f true is = inl (λ g e. is)
  closed_by c f false is = ⊎_elim (λ e. inr (opened_here c f e is)) (λ differ. inl (λ g e. absurd (differ ((same_entry v c f.k g.k f.w g.w f.entry g.entry).0 ∙ e)))) (key_or_not f.k (key a Shape))

  pub each_closed : (ds : List PureChunk) → Each (Fact vars v h) ds → Each Closed ds ⊎ OneOf (λ c. Hold v (opened_at l c)) ds
  each_closed [] all_facts = inl tt
  each_closed (c ∷ ds) all_facts =
      ⊎_elim (λ here. ⊎_elim (λ rest. inl (here, rest)) (λ later. inr (inr later)) (each_closed ds all_facts.1)) (λ here. inr (inl here)) (closed_by c all_facts.0 (is_list_term c.val) refl)

  module _ (p : PureTerm) (n : List ℕ) (over_p : IsOver vars p) (is_p : value v p ≡ Some (text n)) where
    asked_name : IsKeyOf vars v l (named p) (key a (Name n))
    asked_name = name_asked vars v h proper cs facts l a asked p n over_p is_p

    pub no_name_if : (d : PureValue) → Holds h (key a Shape) d → lists_name d n ≡ false → get h (key a (Name n)) ≡ None
    no_name_if d held unnamed = none_from (get h (key a (Name n))) (λ has. true≢false (sym (is_heap.well_formed.names_listed a Shape d tt held n has) ∙ unnamed))

    module _ (c : PureChunk) (f : Fact vars v h c) (here : f.k.loc ≡ a) where
      -- ---- a chunk that doesn't tell of the name

      lacks_by : (s : PureSub) → c.sub ≡ s → Hold v (tells_not p cs c.loc s c.val) → Away a n f.k f.w
      lacks_by (named q) is holds = record {
        not_name = λ e. (sub_tells vars v h proper c f l (named p) (key a (Name n)) asked_name).0 (subst (λ s. Hold v (other_sub (named p) s)) (sym is) holds) (ap (λ (q : Key). q.sub) e);
        not_gone = λ e. absurd (omega (arith, key_number vars v h c f (named q) a Gone is e));
        lists = λ e. absurd (omega (arith, key_number vars v h c f (named q) a Shape is e));
      }
      lacks_by shape is holds = record {
        not_name = λ e. absurd (omega (arith, key_number vars v h c f shape a (Name n) is e));
        not_gone = λ e. absurd (omega (arith, key_number vars v h c f shape a Gone is e));
        lists = λ e. unheld_by vars v h proper cs facts l a asked p n over_p is_p c f here c.val refl holds;
      }
      lacks_by gone is holds = absurd holds
      lacks_by (cell q) is holds = record {
        not_name = λ e. absurd (omega (arith, key_number vars v h c f (cell q) a (Name n) is e));
        not_gone = λ e. absurd (omega (arith, key_number vars v h c f (cell q) a Gone is e));
        lists = λ e. absurd (omega (arith, key_number vars v h c f (cell q) a Shape is e));
      }
      lacks_by bound is holds = record {
        not_name = λ e. absurd (omega (arith, key_number vars v h c f bound a (Name n) is e));
        not_gone = λ e. absurd (omega (arith, key_number vars v h c f bound a Gone is e));
        lists = λ e. absurd (omega (arith, key_number vars v h c f bound a Shape is e));
      }
      lacks_by dom is holds = record {
        not_name = λ e. absurd (omega (arith, key_number vars v h c f dom a (Name n) is e));
        not_gone = λ e. absurd (omega (arith, key_number vars v h c f dom a Gone is e));
        lists = λ e. absurd (omega (arith, key_number vars v h c f dom a Shape is e));
      }
      lacks_by proto is holds = record {
        not_name = λ e. absurd (omega (arith, key_number vars v h c f proto a (Name n) is e));
        not_gone = λ e. absurd (omega (arith, key_number vars v h c f proto a Gone is e));
        lists = λ e. absurd (omega (arith, key_number vars v h c f proto a Shape is e));
      }

      lacks_tells : Hold v (lacks p cs c) → Away a n f.k f.w
      lacks_tells holds = lacks_by c.sub refl holds

      other_name : ¬ HasKey h (key a (Name n)) → Hold v (other_sub (named p) c.sub)
      other_name no_name = (sub_tells vars v h proper c f l (named p) (key a (Name n)) asked_name).1
          (λ subs. no_name (has_key h (key a (Name n)) f.w (holds_at c f (key a (Name n)) (keys_equal f.k a (Name n) here subs))))

      by_lacks : ¬ HasKey h (key a (Name n)) → get h (key a Gone) ≡ None → (f.k ≡ key a Shape → is_list_term c.val ≡ true) → (f.k ≡ key a Shape → lists_name f.w n ≡ true) → (s : PureSub) → c.sub ≡ s → Hold v (tells_not p cs c.loc s c.val)
      by_lacks no_name no_gone closed is_named (named q) is = subst (λ s. Hold v (other_sub (named p) s)) is (other_name no_name)
      by_lacks no_name no_gone closed is_named shape is = let e = shape_at c f is here in by_unheld vars v h proper cs facts l a asked p n over_p is_p c f here no_name (is_named e) c.val refl (closed e)
      by_lacks no_name no_gone closed is_named gone is = absurd (not_both (get h (key a Gone)) no_gone (holds_at c f (key a Gone) (key_at vars v h proper l a asked c f gone Gone is refl here)))
      by_lacks no_name no_gone closed is_named (cell q) is = always_true v
      by_lacks no_name no_gone closed is_named bound is = always_true v
      by_lacks no_name no_gone closed is_named dom is = always_true v
      by_lacks no_name no_gone closed is_named proto is = always_true v

    -- ---- all chunks

    -- where the location's names are known, the name is one of them
    abbrev Here : Type 0
    Here = IsListedHere a h n

    missing_parts : Hold v (all_by_place l (lacks p cs) cs) → (get h (key a (Name n)) ≡ None) × (get h (key a Gone) ≡ None) × Here
    missing_parts holds =
        let away : (i : ℕ) (c : PureChunk) (f : Fact vars v h c) → slice_get cs i ≡ Some c → f.k.loc ≡ a → Away a n f.k f.w =
        (λ i c f there here. lacks_tells c f here (by_place_parts vars v h proper cs union facts l a asked (lacks p cs) holds i c f there here)) in (
          none_from (get h (key a (Name n))) (λ has. let (w, held) = value_at h (key a (Name n)) has in at_chunk vars v h proper cs union facts (key a (Name n)) w held (λ i c f there e is. (away i c f there (at_loc c f (Name n) e)).not_name e)),
          none_from (get h (key a Gone)) (λ has. let (w, held) = value_at h (key a Gone) has in at_chunk vars v h proper cs union facts (key a Gone) w held (λ i c f there e is. (away i c f there (at_loc c f Gone e)).not_gone e)),
          λ d held. at_chunk vars v h proper cs union facts (key a Shape) d held (λ i c f there e is. ap (λ w. lists_name w n) (sym is) ∙ (away i c f there (at_loc c f Shape e)).lists e),
        )

    missing_from : Each Closed cs → ¬ HasKey h (key a (Name n)) → get h (key a Gone) ≡ None → Here → Hold v (all_by_place l (lacks p cs) cs)
    missing_from closed no_name no_gone listed =
        by_place_from vars v h proper cs union facts l a asked (lacks p cs)
        (λ i c f there here. by_lacks c f here no_name no_gone (each_at Closed cs i c closed there f) (λ e. listed f.w (holds_at c f (key a Shape) e)) c.sub refl)

    pub opened_from : OneOf (λ c. Hold v (opened_at l c)) cs → ¬ HasKey h (key a (Name n)) → Hold v (opened l p cs)
    opened_from one no_name =
        both_from v (any (opened_at l) cs) (all_by_place l (λ c. other_sub (named p) c.sub) cs) (one_flat (λ conds. IsTrue (all_true v conds)) (opened_at l) cs one)
        (key_lacks vars v h proper cs union facts l (named p) (key a (Name n)) asked_name (none_from (get h (key a (Name n))) no_name))

    pub absent_parts : {X : Type 0} → Hold v (any_at l (lists_not p) cs) → ((d : PureValue) → Holds h (key a Shape) d → lists_name d n ≡ false → X) → X
    absent_parts holds use_it =
        somewhere_parts vars v h proper l a asked (lists_not p) cs facts holds
        (λ c f here is. let parts = lists_not_tells vars v h proper c f p n over_p is_p is in use_it f.w (holds_at c f (key a Shape) (shape_at c f parts.0 here)) parts.1)

    pub absent_from : Each Closed cs → (d : PureValue) → Holds h (key a Shape) d → lists_name d n ≡ false → Hold v (any_at l (lists_not p) cs)
    absent_from closed d held unnamed =
        at_chunk vars v h proper cs union facts (key a Shape) d held (λ i c f there e is.
        somewhere_from vars v h proper l a asked (lists_not p) cs i c f there (at_loc c f Shape e)
        (tells_lists_not vars v h proper c f p n over_p is_p (shape_of vars v h proper c f a e) (each_at Closed cs i c closed there f e) (ap (λ w. lists_name w n) is ∙ unnamed)))

    -- ---- where no chunk is that of the name

    fails_for : (r : ActionResult) (why : Failure) → r ≡ fails why h → IsFor Record v r cs (failure why)
    fails_for r why e = subst (λ x. IsFor Record v x cs (failure why)) (sym e) (refl, stands_now)

    missed_for : (r : ActionResult) → r ≡ misses (key a (Name n)) h → IsFor Record v r cs (missed_name l p)
    missed_for r e = subst (λ x. IsFor Record v x cs (missed_name l p)) (sym e) (asked_name.is, stands_now)

    -- what an action comes to where the heap lacks the name
    module _ (r : ActionResult) (is_r : get h (key a (Name n)) ≡ None → r ≡ no_property a n h) where
      no_name_if_gone : HasKey h (key a Gone) → get h (key a (Name n)) ≡ None
      no_name_if_gone has_gone = none_from (get h (key a (Name n))) (λ has. let subs : ◌≡◌ {A = Sub} (Name n) Gone = is_heap.well_formed.gone_alone a (Name n) has_gone has in absurd (omega (arith, ap variant_number subs)))

      absent_for : Hold v (any_at l (lists_not p) cs) → IsFor Record v r cs (failure Failure.Absent)
      absent_for holds =
          absent_parts holds (λ d held unnamed.
          let no_gone = no_gone_beside Record vars v h proper cs stands_now facts l a asked Shape (λ e. absurd (omega (arith, e))) (has_key h (key a Shape) d held) in
          fails_for r Failure.Absent (is_r (no_name_if d held unnamed) ∙ absent_result a h n d no_gone held unnamed))

      pub without_exact : Each (IsExactCase Record v r) (without_name l p cs)
      without_exact =
          each_append (IsExactCase Record v r) (gone_case l cs) _ (gone_exact Record vars v h proper cs stands_now facts l a asked r (λ w held. is_r (no_name_if_gone (has_key h (key a Gone) w held)) ∙ gone_result a h n w held))
          (each_append (IsExactCase Record v r) (case_of (any_at l (lists_not p) cs) cs (failure Failure.Absent)) _
          (made_exact Record v r (any_at l (lists_not p) cs) cs (failure Failure.Absent) (inr absent_for))
          (each_append (IsExactCase Record v r) (case_of (opened l p cs) cs (missed_name l p)) (case_of (all_by_place l (lacks p cs) cs) cs (missed_name l p))
          (made_exact Record v r (opened l p cs) cs (missed_name l p) (inl (opened_needs v l p cs)))
          (made_exact Record v r (all_by_place l (lacks p cs) cs) cs (missed_name l p) (inr (λ holds. let parts = missing_parts holds in missed_for r (is_r parts.0 ∙ missed_result a h n parts.1 parts.2))))))

    -- the cases of a name that the heap lacks: one of them comes
    module _ (no_name : ¬ HasKey h (key a (Name n))) where
      abbrev Some_of : List PureCase → Type 0
      Some_of cases = OneOf (λ c. Hold v c.when) cases

      after_gone : Some_of (case_of (any_at l (lists_not p) cs) cs (failure Failure.Absent) ++ (case_of (opened l p cs) cs (missed_name l p) ++ case_of (all_by_place l (lacks p cs) cs) cs (missed_name l p))) → Some_of (without_name l p cs)
      after_gone one = one_right (λ c. Hold v c.when) (gone_case l cs) _ one

      after_absent : Some_of (case_of (opened l p cs) cs (missed_name l p) ++ case_of (all_by_place l (lacks p cs) cs) cs (missed_name l p)) → Some_of (without_name l p cs)
      after_absent one = after_gone (one_right (λ c. Hold v c.when) (case_of (any_at l (lists_not p) cs) cs (failure Failure.Absent)) _ one)

      opened_comes : OneOf (λ c. Hold v (opened_at l c)) cs → Some_of (without_name l p cs)
      opened_comes one = after_absent (one_left (λ c. Hold v c.when) (case_of (opened l p cs) cs (missed_name l p)) _ (made_comes v (opened l p cs) cs (missed_name l p) (opened_from one no_name)))

      missing_comes : Each Closed cs → get h (key a Gone) ≡ None → Here → Some_of (without_name l p cs)
      missing_comes closed no_gone listed =
          after_absent (one_right (λ c. Hold v c.when) (case_of (opened l p cs) cs (missed_name l p)) (case_of (all_by_place l (lacks p cs) cs) cs (missed_name l p))
          (made_comes v (all_by_place l (lacks p cs) cs) cs (missed_name l p) (missing_from closed no_name no_gone listed)))

      by_list : Each Closed cs → get h (key a Gone) ≡ None → (d : PureValue) → Holds h (key a Shape) d → (b : Bool) → lists_name d n ≡ b → Some_of (without_name l p cs)
      by_list closed no_gone d held false unnamed =
          after_gone (one_left (λ c. Hold v c.when) (case_of (any_at l (lists_not p) cs) cs (failure Failure.Absent)) _
          (made_comes v (any_at l (lists_not p) cs) cs (failure Failure.Absent) (absent_from closed d held unnamed)))
      by_list closed no_gone d held true is_named = missing_comes closed no_gone (λ e there. ap (λ w. lists_name w n) (same_some (sym there ∙ held)) ∙ is_named)

      by_shape : Each Closed cs → get h (key a Gone) ≡ None → (o : Option PureValue) → get h (key a Shape) ≡ o → Some_of (without_name l p cs)
      by_shape closed no_gone None is = missing_comes closed no_gone (λ d held. absurd (not_both (get h (key a Shape)) is held))
      by_shape closed no_gone (Some d) is = by_list closed no_gone d is (lists_name d n) refl

      by_gone : (o : Option PureValue) → get h (key a Gone) ≡ o → Some_of (without_name l p cs)
      by_gone (Some w) is = one_left (λ c. Hold v c.when) (gone_case l cs) _ (gone_comes Record vars v h proper cs stands_now facts l a asked w is)
      by_gone None is = ⊎_elim (λ closed. by_shape closed is (get h (key a Shape)) refl) opened_comes (each_closed cs facts)

      pub without_comes : Some_of (without_name l p cs)
      without_comes = by_gone (get h (key a Gone)) refl
