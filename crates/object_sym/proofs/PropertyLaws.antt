-- What the conditions of an action on a name of a location say of the heap.
use Rattle.std.proofs.Common.{◌≡◌, ◌⊎◌, ⊎_elim, inl, inr, ℕ, List, [], ◌∷◌, Bool, true, false, ◌&&◌, if◌then◌else◌, Option, Some, None, IsTrue, slice_get, refl, sym, ap, subst, ◌∙◌, true≢false, arith}
use Rattle.std.specs.FinMap.{get}
use Rattle.std.proofs.lemmas.Bool.{and_parts, or_cases}
use Rattle.gil_values.specs.Pure.{PureValue, symbol, text}
use Rattle.mem_model.specs.declared.keys.Key.{Key}
use Rattle.mem_model.specs.declared.keys.Sub.{Sub}
use Rattle.mem_model.specs.declared.keys.Sub.TheVariants.{Name, Dom}
use Rattle.mem_model.specs.declared.keys.MemoryName.TheVariants.{Object}
use Rattle.mem_model.specs.Actions.{ActionResult}
use Rattle.mem_model.specs.Heaps.{Heap, Holds, HasKey, IsHeapOf}
use Rattle.mem_model.specs.Keys.{key}
use Rattle.mem_model.specs.KeyOrder.{variant_number}
use Rattle.mem_model.specs.Names.{is_name_list, lists_name}
use Rattle.mem_model.specs.Tables.{misses}
use Rattle.mem_model.proofs.Joins.{has_key, value_at}
use Rattle.pure_terms.specs.declared.literals.Literal.{Literal}
use Rattle.pure_terms.specs.declared.variables.Sort.{Sort}
use Rattle.pure_terms.specs.Equality.{same_term}
use Rattle.pure_terms.specs.EqualityLaws.{same_term-same}
use Rattle.pure_terms.specs.Meaning.{literal_value, value, all_true, IsProper, IsOver}
use Rattle.pure_terms.specs.Pure.{PureTerm, literal, variable, list_of, unary_of, binary_of, to_list}
use Rattle.object_sym.specs.Places.{listed_there, lists, unlisted_there, lists_not, opened_there, opened_at, opened, tells_not, lacks}
use Rattle.object_sym.specs.Table.{without_name}
use Rattle.sym_chunks.specs.ByPlace.{all_by_place, any_at}
use Rattle.sym_chunks.specs.Cases.{PureCase, case_of, missed_name}
use Rattle.sym_chunks.specs.Forms.{form_of}
use Rattle.sym_chunks.specs.Keys.{same_sub, other_sub}
use Rattle.sym_chunks.specs.Laws.{IsLocation, IsKeyOf}
use Rattle.sym_model.specs.Alternatives.{Alternatives, Hold, never, any, same}
use Rattle.sym_model.proofs.Combined.{both_from, always_true}
use Rattle.sym_model.specs.Chunks.{IsUnion, StandFor}
use Rattle.sym_model.specs.Lists.{Each, OneOf}
use Rattle.sym_model.specs.Meaning.{location_of, name_of, key_of}
use Rattle.sym_model.specs.Pure.{PureSub, named, cell, shape, bound, dom, proto, gone, PureChunk}
use Rattle.sym_model.specs.Terms.{is_list_term}
use Rattle.sym_model.proofs.ChunkMeaning.{chunk_val}
use Rattle.sym_model.proofs.ListLaws.{same_some, each_append, each_at, one_left, one_right, one_to, one_with, one_flat, one_flattened}
use Rattle.sym_model.proofs.Unions.{same_entry}
use Rattle.sym_chunks.proofs.CaseLaws.{AreOpen, IsFor, IsExactCase, made_exact, made_comes, needed_open, both_open, any_open, form_holds}
use Rattle.sym_chunks.proofs.Facts.{Fact, kind_number, keys_equal, fact_number, key_tells, sub_tells, loc_tells}
use Rattle.sym_chunks.proofs.FoundLaws.{at_chunk, held_at, by_place_parts, by_place_from, key_lacks}
use Rattle.sym_chunks.specs.NameTerms.{is_name, holds_name, unheld_name, unheld}
use Rattle.sym_chunks.proofs.ChunkFacts.{key_at, somewhere_parts, somewhere_from, val_over, val_is, key_number}
use Rattle.sym_chunks.proofs.NamesHeld.{form_is_needed, unheld_by, by_unheld}
use Rattle.sym_chunks.proofs.NameLists.{listed_holds, holds_listed, unlisted_holds, holds_unlisted}
use Rattle.object_sym.proofs.HeapLaws.{none_from, not_both, key_or_not, IsListedHere}

abbrev pub Comes : List PureValue → PureCase → Type 0
Comes v c = Hold v c.when

-- ---- forms

opened_by : (v : List PureValue) (l loc : PureTerm) (s : PureSub) (t : PureTerm) → AreOpen (opened_there l loc s t)
opened_by v l loc dom t = needed_open v t (same l loc)
opened_by v l loc (named q) t = tt
opened_by v l loc (cell q) t = tt
opened_by v l loc shape t = tt
opened_by v l loc bound t = tt
opened_by v l loc proto t = tt
opened_by v l loc gone t = tt

pub opened_needs : (v : List PureValue) (l p : PureTerm) (cs : List PureChunk) → AreOpen (opened l p cs)
opened_needs v l p cs = both_open v (any (opened_at l) cs) (all_by_place l (λ c. other_sub (named p) c.sub) cs) (any_open v (opened_at l) cs (λ c. opened_by v l c.loc c.sub c.val))

-- ---- chunks of lists of names

pub is_dom : (s : PureSub) → 4 ≡ kind_number s → s ≡ dom
is_dom dom is = refl
is_dom (named q) is = absurd (omega (arith, is))
is_dom (cell q) is = absurd (omega (arith, is))
is_dom shape is = absurd (omega (arith, is))
is_dom bound is = absurd (omega (arith, is))
is_dom proto is = absurd (omega (arith, is))
is_dom gone is = absurd (omega (arith, is))

module _ (vars : List Sort) (v : List PureValue) (h : Heap) (proper : IsProper vars v) (c : PureChunk) (f : Fact vars v h c) where
  pub dom_of : (a : ℕ) → f.k ≡ key a Dom → c.sub ≡ dom
  dom_of a e = is_dom c.sub (key_number vars v h c f c.sub a Dom refl e)

  module _ (p : PureTerm) (n : List ℕ) (over_p : IsOver vars p) (is_p : value v p ≡ Some (text n)) where
    lists_by : (s : PureSub) → c.sub ≡ s → (t : PureTerm) → c.val ≡ t → Hold v (listed_there p s t) → (c.sub ≡ dom) × (lists_name f.w n ≡ true)
    lists_by dom is (list_of ts) is_t holds = (is, listed_holds vars v proper p n over_p is_p ts f.w (val_over vars v h c f (list_of ts) is_t) (val_is vars v h c f (list_of ts) is_t) holds)
    lists_by dom is t is_t holds = absurd holds
    lists_by s is t is_t holds = absurd holds

    pub lists_tells : Hold v (lists p c) → (c.sub ≡ dom) × (lists_name f.w n ≡ true)
    lists_tells holds = lists_by c.sub refl c.val refl holds

    named_by : (t : PureTerm) → c.val ≡ t → is_list_term t ≡ true → lists_name f.w n ≡ true → Hold v (listed_there p dom t)
    named_by (list_of ts) is_t is_list is_named = holds_listed vars v proper p n over_p is_p ts f.w (val_over vars v h c f (list_of ts) is_t) (val_is vars v h c f (list_of ts) is_t) is_named
    named_by t is_t is_list is_named = absurd (true≢false (sym is_list))

    pub tells_lists : c.sub ≡ dom → is_list_term c.val ≡ true → lists_name f.w n ≡ true → Hold v (lists p c)
    tells_lists is is_list is_named = subst (λ s. Hold v (listed_there p s c.val)) (sym is) (named_by c.val refl is_list is_named)

    lists_not_by : (s : PureSub) → c.sub ≡ s → (t : PureTerm) → c.val ≡ t → Hold v (unlisted_there p s t) → (c.sub ≡ dom) × (lists_name f.w n ≡ false)
    lists_not_by dom is (list_of ts) is_t holds = (is, unlisted_holds vars v proper p n over_p is_p ts f.w (val_over vars v h c f (list_of ts) is_t) (val_is vars v h c f (list_of ts) is_t) holds)
    lists_not_by dom is t is_t holds = absurd holds
    lists_not_by s is t is_t holds = absurd holds

    pub lists_not_tells : Hold v (lists_not p c) → (c.sub ≡ dom) × (lists_name f.w n ≡ false)
    lists_not_tells holds = lists_not_by c.sub refl c.val refl holds

    unnamed_by : (t : PureTerm) → c.val ≡ t → is_list_term t ≡ true → lists_name f.w n ≡ false → Hold v (unlisted_there p dom t)
    unnamed_by (list_of ts) is_t is_list unnamed = holds_unlisted vars v proper p n over_p is_p ts f.w (val_over vars v h c f (list_of ts) is_t) (val_is vars v h c f (list_of ts) is_t) unnamed
    unnamed_by t is_t is_list unnamed = absurd (true≢false (sym is_list))

    pub tells_lists_not : c.sub ≡ dom → is_list_term c.val ≡ true → lists_name f.w n ≡ false → Hold v (lists_not p c)
    tells_lists_not is is_list unnamed = subst (λ s. Hold v (unlisted_there p s c.val)) (sym is) (unnamed_by c.val refl is_list unnamed)

module _ (vars : List Sort) (v : List PureValue) (h : Heap) (proper : IsProper vars v) (cs : List PureChunk) (union : IsUnion v cs h) (facts : Each (Fact vars v h) cs) (is_heap : IsHeapOf Object h)
    (l : PureTerm) (a : ℕ) (asked : IsLocation vars v l a) where
  pub stands_now : StandFor Object cs v h
  stands_now = record { union = union; is_heap = is_heap }

  pub dom_asked : IsKeyOf vars v l dom (key a Dom)
  dom_asked = record { over_loc = asked.over; over_sub = tt; is = ap (λ o. key_of (location_of o) (Some Dom)) asked.is }

  pub dom_at : (c : PureChunk) (f : Fact vars v h c) → c.sub ≡ dom → f.k.loc ≡ a → f.k ≡ key a Dom
  dom_at c f is e = key_at vars v h proper l a asked c f dom Dom is refl e

  at_loc : (c : PureChunk) (f : Fact vars v h c) (t : Sub) → f.k ≡ key a t → f.k.loc ≡ a
  at_loc c f t e = ap (λ (q : Key). q.loc) e

  pub holds_at : (c : PureChunk) (f : Fact vars v h c) (k : Key) → f.k ≡ k → Holds h k f.w
  holds_at c f k e = held_at vars v h proper cs union facts c f k e

  pub names_at : (c : PureChunk) (f : Fact vars v h c) → f.k ≡ key a Dom → is_name_list f.w ≡ true
  names_at c f e = is_heap.well_formed.name_lists a Dom f.w tt (holds_at c f (key a Dom) e)

  pub opened_here : (c : PureChunk) (f : Fact vars v h c) → f.k ≡ key a Dom → is_list_term c.val ≡ false → Hold v (opened_at l c)
  opened_here c f e no_list =
      subst (λ s. Hold v (opened_there l c.loc s c.val)) (sym (dom_of vars v h proper c f a e))
      (form_is_needed v c.val f.w (same l c.loc) no_list f.entry.holds (names_at c f e) ((loc_tells vars v h proper c f l a asked).1 (at_loc c f Dom e)))

  -- the names of the location are given by list terms, or some aren't
  abbrev pub Closed : PureChunk → Type 0
  Closed c = (f : Fact vars v h c) → f.k ≡ key a Dom → is_list_term c.val ≡ true

  closed_by : (c : PureChunk) (f : Fact vars v h c) (b : Bool) → is_list_term c.val ≡ b → (Closed c) ⊎ Hold v (opened_at l c)
  closed_by c f true is = inl (λ g e. is)
  closed_by c f false is = ⊎_elim (λ e. inr (opened_here c f e is)) (λ differ. inl (λ g e. absurd (differ ((same_entry v c f.k g.k f.w g.w f.entry g.entry).0 ∙ e)))) (key_or_not f.k (key a Dom))

  pub each_closed : (ds : List PureChunk) → Each (Fact vars v h) ds → Each Closed ds ⊎ OneOf (λ c. Hold v (opened_at l c)) ds
  each_closed [] all_facts = inl tt
  each_closed (c ∷ ds) all_facts =
      ⊎_elim (λ here. ⊎_elim (λ rest. inl (here, rest)) (λ later. inr (inr later)) (each_closed ds all_facts.1)) (λ here. inr (inl here)) (closed_by c all_facts.0 (is_list_term c.val) refl)

  module _ (p : PureTerm) (n : List ℕ) (over_p : IsOver vars p) (is_p : value v p ≡ Some (text n)) where
    pub name_asked : IsKeyOf vars v l (named p) (key a (Name n))
    name_asked = record { over_loc = asked.over; over_sub = (over_p, tt); is = λ i. key_of (location_of (asked.is i)) (name_of (is_p i)) }

    pub no_name_if : (d : PureValue) → Holds h (key a Dom) d → lists_name d n ≡ false → get h (key a (Name n)) ≡ None
    no_name_if d held unnamed = none_from (get h (key a (Name n))) (λ has. true≢false (sym (is_heap.well_formed.names_listed a Dom d tt held n has) ∙ unnamed))

    pub named_if : (d w : PureValue) → Holds h (key a Dom) d → Holds h (key a (Name n)) w → lists_name d n ≡ true
    named_if d w held holds = is_heap.well_formed.names_listed a Dom d tt held n (has_key h (key a (Name n)) w holds)

    -- ---- a chunk that doesn't tell of the name

    module _ (c : PureChunk) (f : Fact vars v h c) (here : f.k.loc ≡ a) where
      lacks_by : (s : PureSub) → c.sub ≡ s → Hold v (tells_not p cs c.loc s c.val) → (¬ (f.k ≡ key a (Name n))) × (f.k ≡ key a Dom → lists_name f.w n ≡ true)
      lacks_by (named q) is holds = (
        λ e. (sub_tells vars v h proper c f l (named p) (key a (Name n)) name_asked).0 (subst (λ s. Hold v (other_sub (named p) s)) (sym is) holds) (ap (λ (q : Key). q.sub) e),
        λ e. absurd (omega (arith, key_number vars v h c f (named q) a Dom is e)),
      )
      lacks_by dom is holds = (λ e. absurd (omega (arith, key_number vars v h c f dom a (Name n) is e)), λ e. unheld_by vars v h proper cs facts l a asked p n over_p is_p c f here c.val refl holds)
      lacks_by (cell q) is holds = (λ e. absurd (omega (arith, key_number vars v h c f (cell q) a (Name n) is e)), λ e. absurd (omega (arith, key_number vars v h c f (cell q) a Dom is e)))
      lacks_by shape is holds = (λ e. absurd (omega (arith, key_number vars v h c f shape a (Name n) is e)), λ e. absurd (omega (arith, key_number vars v h c f shape a Dom is e)))
      lacks_by bound is holds = (λ e. absurd (omega (arith, key_number vars v h c f bound a (Name n) is e)), λ e. absurd (omega (arith, key_number vars v h c f bound a Dom is e)))
      lacks_by proto is holds = (λ e. absurd (omega (arith, key_number vars v h c f proto a (Name n) is e)), λ e. absurd (omega (arith, key_number vars v h c f proto a Dom is e)))
      lacks_by gone is holds = (λ e. absurd (omega (arith, key_number vars v h c f gone a (Name n) is e)), λ e. absurd (omega (arith, key_number vars v h c f gone a Dom is e)))

      lacks_tells : Hold v (lacks p cs c) → (¬ (f.k ≡ key a (Name n))) × (f.k ≡ key a Dom → lists_name f.w n ≡ true)
      lacks_tells holds = lacks_by c.sub refl holds

      pub other_name : ¬ HasKey h (key a (Name n)) → Hold v (other_sub (named p) c.sub)
      other_name no_name = (sub_tells vars v h proper c f l (named p) (key a (Name n)) name_asked).1
          (λ subs. no_name (has_key h (key a (Name n)) f.w (holds_at c f (key a (Name n)) (keys_equal f.k a (Name n) here subs))))

      by_lacks : ¬ HasKey h (key a (Name n)) → (f.k ≡ key a Dom → is_list_term c.val ≡ true) → (f.k ≡ key a Dom → lists_name f.w n ≡ true) → (s : PureSub) → c.sub ≡ s → Hold v (tells_not p cs c.loc s c.val)
      by_lacks no_name closed is_named (named q) is = subst (λ s. Hold v (other_sub (named p) s)) is (other_name no_name)
      by_lacks no_name closed is_named dom is = let e = dom_at c f is here in by_unheld vars v h proper cs facts l a asked p n over_p is_p c f here no_name (is_named e) c.val refl (closed e)
      by_lacks no_name closed is_named (cell q) is = always_true v
      by_lacks no_name closed is_named shape is = always_true v
      by_lacks no_name closed is_named bound is = always_true v
      by_lacks no_name closed is_named proto is = always_true v
      by_lacks no_name closed is_named gone is = always_true v

      tells_lacks : ¬ HasKey h (key a (Name n)) → (f.k ≡ key a Dom → is_list_term c.val ≡ true) → (f.k ≡ key a Dom → lists_name f.w n ≡ true) → Hold v (lacks p cs c)
      tells_lacks no_name closed is_named = by_lacks no_name closed is_named c.sub refl

    -- ---- all chunks

    abbrev Here : Type 0
    Here = IsListedHere a h n

    missing_parts : Hold v (all_by_place l (lacks p cs) cs) → (get h (key a (Name n)) ≡ None) × Here
    missing_parts holds =
        let away : (i : ℕ) (c : PureChunk) (f : Fact vars v h c) → slice_get cs i ≡ Some c → f.k.loc ≡ a → (¬ (f.k ≡ key a (Name n))) × (f.k ≡ key a Dom → lists_name f.w n ≡ true) =
        (λ i c f there here. lacks_tells c f here (by_place_parts vars v h proper cs union facts l a asked (lacks p cs) holds i c f there here)) in (
          none_from (get h (key a (Name n))) (λ has. let (w, held) = value_at h (key a (Name n)) has in at_chunk vars v h proper cs union facts (key a (Name n)) w held (λ i c f there e is. (away i c f there (at_loc c f (Name n) e)).0 e)),
          λ d held. at_chunk vars v h proper cs union facts (key a Dom) d held (λ i c f there e is. ap (λ w. lists_name w n) (sym is) ∙ (away i c f there (at_loc c f Dom e)).1 e),
        )

    missing_from : Each Closed cs → ¬ HasKey h (key a (Name n)) → Here → Hold v (all_by_place l (lacks p cs) cs)
    missing_from closed no_name listed =
        by_place_from vars v h proper cs union facts l a asked (lacks p cs)
        (λ i c f there here. tells_lacks c f here no_name (each_at Closed cs i c closed there f) (λ e. listed f.w (holds_at c f (key a Dom) e)))

    pub opened_from : OneOf (λ c. Hold v (opened_at l c)) cs → ¬ HasKey h (key a (Name n)) → Hold v (opened l p cs)
    opened_from one no_name =
        both_from v (any (opened_at l) cs) (all_by_place l (λ c. other_sub (named p) c.sub) cs) (one_flat (λ conds. IsTrue (all_true v conds)) (opened_at l) cs one)
        (key_lacks vars v h proper cs union facts l (named p) (key a (Name n)) name_asked (none_from (get h (key a (Name n))) no_name))

    pub absent_parts : {X : Type 0} → Hold v (any_at l (lists_not p) cs) → ((d : PureValue) → Holds h (key a Dom) d → lists_name d n ≡ false → X) → X
    absent_parts holds use_it =
        somewhere_parts vars v h proper l a asked (lists_not p) cs facts holds
        (λ c f here is. let parts = lists_not_tells vars v h proper c f p n over_p is_p is in use_it f.w (holds_at c f (key a Dom) (dom_at c f parts.0 here)) parts.1)

    pub absent_from : Each Closed cs → (d : PureValue) → Holds h (key a Dom) d → lists_name d n ≡ false → Hold v (any_at l (lists_not p) cs)
    absent_from closed d held unnamed =
        at_chunk vars v h proper cs union facts (key a Dom) d held (λ i c f there e is.
        somewhere_from vars v h proper l a asked (lists_not p) cs i c f there (at_loc c f Dom e)
        (tells_lists_not vars v h proper c f p n over_p is_p (dom_of vars v h proper c f a e) (each_at Closed cs i c closed there f e) (ap (λ w. lists_name w n) is ∙ unnamed)))

    -- ---- where no chunk is that of the name

    pub missed_for : (r : ActionResult) → r ≡ misses (key a (Name n)) h → IsFor Object v r cs (missed_name l p)
    missed_for r e = subst (λ x. IsFor Object v x cs (missed_name l p)) (sym e) (name_asked.is, stands_now)

    pub without_exact : (r : ActionResult) → (get h (key a (Name n)) ≡ None → Here → r ≡ misses (key a (Name n)) h) → Each (IsExactCase Object v r) (without_name l p cs)
    without_exact r is =
        each_append (IsExactCase Object v r) (case_of (opened l p cs) cs (missed_name l p)) (case_of (all_by_place l (lacks p cs) cs) cs (missed_name l p))
        (made_exact Object v r (opened l p cs) cs (missed_name l p) (inl (opened_needs v l p cs)))
        (made_exact Object v r (all_by_place l (lacks p cs) cs) cs (missed_name l p) (inr (λ holds. let parts = missing_parts holds in missed_for r (is parts.0 parts.1))))

    opened_comes : OneOf (λ c. Hold v (opened_at l c)) cs → ¬ HasKey h (key a (Name n)) → OneOf (Comes v) (without_name l p cs)
    opened_comes one no_name =
        one_left (Comes v) (case_of (opened l p cs) cs (missed_name l p)) (case_of (all_by_place l (lacks p cs) cs) cs (missed_name l p))
        (made_comes v (opened l p cs) cs (missed_name l p) (opened_from one no_name))

    missing_comes : Each Closed cs → ¬ HasKey h (key a (Name n)) → Here → OneOf (Comes v) (without_name l p cs)
    missing_comes closed no_name listed =
        one_right (Comes v) (case_of (opened l p cs) cs (missed_name l p)) (case_of (all_by_place l (lacks p cs) cs) cs (missed_name l p))
        (made_comes v (all_by_place l (lacks p cs) cs) cs (missed_name l p) (missing_from closed no_name listed))

    -- by what the heap has: the name; its list without the name; or nothing that tells of the name
    module _ {X : Type 0} (found : (w : PureValue) → Holds h (key a (Name n)) w → X) (absent : Each Closed cs → (d : PureValue) → Holds h (key a Dom) d → lists_name d n ≡ false → X) (without : OneOf (Comes v) (without_name l p cs) → X) where
      by_list : Each Closed cs → ¬ HasKey h (key a (Name n)) → (d : PureValue) → Holds h (key a Dom) d → (b : Bool) → lists_name d n ≡ b → X
      by_list closed no_name d held false unnamed = absent closed d held unnamed
      by_list closed no_name d held true is_named = without (missing_comes closed no_name (λ e there. ap (λ w. lists_name w n) (same_some (sym there ∙ held)) ∙ is_named))

      by_dom : Each Closed cs → ¬ HasKey h (key a (Name n)) → (o : Option PureValue) → get h (key a Dom) ≡ o → X
      by_dom closed no_name None is = without (missing_comes closed no_name (λ d held. absurd (not_both (get h (key a Dom)) is held)))
      by_dom closed no_name (Some d) is = by_list closed no_name d is (lists_name d n) refl

      by_name : (o : Option PureValue) → get h (key a (Name n)) ≡ o → X
      by_name (Some w) is = found w is
      by_name None is =
          let no_name : ¬ HasKey h (key a (Name n)) = (λ has. let (w, held) = value_at h (key a (Name n)) has in not_both (get h (key a (Name n))) is held) in
          ⊎_elim (λ closed. by_dom closed no_name (get h (key a Dom)) refl) (λ one. without (opened_comes one no_name)) (each_closed cs facts)

      pub by_heap : X
      by_heap = by_name (get h (key a (Name n))) refl
