-- The cases of `get`, `has`, `getproto` and `setproto` are right.
use Rattle.std.proofs.Common.{◌≡◌, ◌⊎◌, ⊎_elim, inl, inr, ℕ, suc, ◌+◌, List, [], ◌∷◌, ◌++◌, Bool, true, false, Option, Some, None, slice_get, refl, sym, ap, subst, ◌∙◌, true≢false, arith}
use Rattle.std.specs.FinMap.{get, insert}
use Rattle.gil_values.specs.declared.kinds.Kind.{Kind}
use Rattle.gil_values.specs.Pure.{PureValue, text, boolean, kind}
use Rattle.mem_model.specs.declared.keys.Key.{Key}
use Rattle.mem_model.specs.declared.keys.Sub.TheVariants.{Name, Dom, Proto}
use Rattle.mem_model.specs.declared.keys.MemoryName.TheVariants.{Object}
use Rattle.mem_model.specs.Actions.{ActionResult}
use Rattle.mem_model.specs.Heaps.{Heap, Holds, HasKey, IsHeapOf}
use Rattle.mem_model.specs.Keys.{key}
use Rattle.mem_model.specs.Names.{lists_name}
use Rattle.mem_model.specs.Tables.{does, misses}
use Rattle.mem_model.proofs.Joins.{value_at}
use Rattle.object_heap.specs.Table.{get_property, has_property, get_prototype, set_prototype}
use Rattle.object_sym.specs.Places.{lists, lists_not, opened_at, opened, untold_there, untold, unknown_there, knows_not}
use Rattle.object_sym.specs.Table.{undef_term, false_term, without_name, get_cases, told_cases, held_case, unknown_cases, has_cases, prototype_cases}
use Rattle.pure_terms.specs.declared.variables.Sort.{Sort}
use Rattle.pure_terms.specs.Meaning.{value, IsProper, IsOver}
use Rattle.pure_terms.specs.Pure.{PureTerm, literal, variable, list_of, unary_of, binary_of}
use Rattle.sym_chunks.specs.ByPlace.{all_by_place, any_at}
use Rattle.sym_chunks.specs.Cases.{PureCase, PureAccess, reads, writes, accessed, given_back, true_term, case_of, found, missed_key, missed_name}
use Rattle.sym_chunks.specs.Keys.{same_sub, other_sub}
use Rattle.sym_chunks.specs.Laws.{IsLocation, IsKeyOf}
use Rattle.sym_model.specs.Alternatives.{Hold, both}
use Rattle.sym_model.proofs.Combined.{both_from, both_parts, always_true}
use Rattle.sym_model.specs.Chunks.{IsUnion, StandFor, with_held}
use Rattle.sym_model.specs.Lists.{Each, OneOf}
use Rattle.sym_model.specs.Meaning.{location_of, key_of}
use Rattle.sym_model.specs.Pure.{PureSub, named, cell, shape, bound, dom, proto, gone, PureChunk, done}
use Rattle.sym_model.specs.Terms.{is_list_term}
use Rattle.sym_model.proofs.ListLaws.{each_append, each_at, one_left, one_right, one_at}
use Rattle.sym_model.proofs.Unions.{held_changes, same_entry}
use Rattle.sym_chunks.proofs.CaseLaws.{IsFor, IsExactCase, made_exact, made_comes}
use Rattle.sym_chunks.proofs.Facts.{Fact}
use Rattle.sym_chunks.proofs.FoundLaws.{at_chunk, by_place_parts, by_place_from, lacks_key, key_lacks, found_exact, found_comes, any_key, key_any}
use Rattle.sym_chunks.proofs.ChunkFacts.{somewhere_parts, somewhere_from}
use Rattle.object_sym.proofs.HeapLaws.{none_from, not_both, key_or_not, get_found, get_absent, get_missed, has_found, has_told, has_missed, proto_got, proto_unknown, proto_put, proto_missed}
use Rattle.object_sym.proofs.PropertyLaws.{Comes, dom_of, lists_tells, tells_lists, tells_lists_not, stands_now, dom_at, holds_at, opened_here, opened_needs, name_asked, no_name_if, other_name, opened_from, absent_parts, absent_from, missed_for, without_exact, by_heap}

module _ (vars : List Sort) (v : List PureValue) (h : Heap) (proper : IsProper vars v) (cs : List PureChunk) (union : IsUnion v cs h) (facts : Each (Fact vars v h) cs) (is_heap : IsHeapOf Object h)
    (l : PureTerm) (a : ℕ) (asked : IsLocation vars v l a) where
  stands : StandFor Object cs v h
  stands = stands_now vars v h proper cs union facts is_heap l a asked

  -- the chunks stay, and the value is that of a term
  does_for : (r : ActionResult) (t : PureTerm) (u : PureValue) → value v t ≡ Some u → r ≡ does u h → IsFor Object v r cs (done t)
  does_for r t u is e = subst (λ x. IsFor Object v x cs (done t)) (sym e) (is, stands)

  module _ (p : PureTerm) (n : List ℕ) (over_p : IsOver vars p) (is_p : value v p ≡ Some (text n)) where
    K_asked : IsKeyOf vars v l (named p) (key a (Name n))
    K_asked = name_asked vars v h proper cs union facts is_heap l a asked p n over_p is_p

    holds_key : (c : PureChunk) (f : Fact vars v h c) → f.k ≡ key a (Name n) → Holds h (key a (Name n)) f.w
    holds_key c f e = holds_at vars v h proper cs union facts is_heap l a asked c f (key a (Name n)) e

    -- ---- `get`

    pub get_exact : Each (IsExactCase Object v (get_property a n h)) (get_cases l p cs)
    get_exact =
        let r = get_property a n h in
        each_append (IsExactCase Object v r) (found reads l (named p) cs) (case_of (any_at l (lists_not p) cs) cs (done undef_term) ++ without_name l p cs)
        (found_exact vars v h proper cs union facts l (named p) (key a (Name n)) K_asked Object r reads
        (λ i c f there e. does_for r c.val f.w f.entry.holds (get_found a h n f.w (holds_key c f e))))
        (each_append (IsExactCase Object v r) (case_of (any_at l (lists_not p) cs) cs (done undef_term)) (without_name l p cs)
        (made_exact Object v r (any_at l (lists_not p) cs) cs (done undef_term)
        (inr (λ holds. absent_parts vars v h proper cs union facts is_heap l a asked p n over_p is_p holds (λ d held unnamed.
        does_for r undef_term (kind Kind.Undef) refl (get_absent a h n d (no_name_if vars v h proper cs union facts is_heap l a asked p n over_p is_p d held unnamed) held unnamed)))))
        (without_exact vars v h proper cs union facts is_heap l a asked p n over_p is_p r (get_missed a h n)))

    pub get_comes : OneOf (Comes v) (get_cases l p cs)
    get_comes =
        by_heap vars v h proper cs union facts is_heap l a asked p n over_p is_p
        (λ w held. one_left (Comes v) (found reads l (named p) cs) _ (found_comes vars v h proper cs union facts l (named p) (key a (Name n)) K_asked reads w held))
        (λ closed d held unnamed. one_right (Comes v) (found reads l (named p) cs) _
        (one_left (Comes v) (case_of (any_at l (lists_not p) cs) cs (done undef_term)) (without_name l p cs)
        (made_comes v (any_at l (lists_not p) cs) cs (done undef_term) (absent_from vars v h proper cs union facts is_heap l a asked p n over_p is_p closed d held unnamed))))
        (λ one. one_right (Comes v) (found reads l (named p) cs) _ (one_right (Comes v) (case_of (any_at l (lists_not p) cs) cs (done undef_term)) (without_name l p cs) one))

    -- ---- `has`

    by_untold : (s : PureSub) (t : PureTerm) → (s ≡ dom → is_list_term t ≡ false) → Hold v (untold_there s t)
    by_untold dom (list_of ts) no_list = absurd (true≢false (no_list refl))
    by_untold dom (literal k) no_list = always_true v
    by_untold dom (variable y) no_list = always_true v
    by_untold dom (unary_of op t) no_list = always_true v
    by_untold dom (binary_of op t u) no_list = always_true v
    by_untold (named q) t no_list = always_true v
    by_untold (cell q) t no_list = always_true v
    by_untold shape t no_list = always_true v
    by_untold bound t no_list = always_true v
    by_untold proto t no_list = always_true v
    by_untold gone t no_list = always_true v

    -- a chunk that neither has the names of its location nor is that of the name
    unknown_by : (c : PureChunk) (s : PureSub) → c.sub ≡ s → Hold v (unknown_there p s) → (¬ (c.sub ≡ dom)) × Hold v (other_sub (named p) s)
    unknown_by c dom is holds = absurd holds
    unknown_by c (named q) is holds = ((λ e. no_dom (sym is ∙ e)), holds)
      where
        no_dom : ¬ (named q ≡ dom)
        no_dom e = absurd (cc)
    unknown_by c (cell q) is holds = ((λ e. no_dom (sym is ∙ e)), holds)
      where
        no_dom : ¬ (cell q ≡ dom)
        no_dom e = absurd (cc)
    unknown_by c shape is holds = ((λ e. no_dom (sym is ∙ e)), holds)
      where
        no_dom : ¬ (shape ≡ dom)
        no_dom e = absurd (cc)
    unknown_by c bound is holds = ((λ e. no_dom (sym is ∙ e)), holds)
      where
        no_dom : ¬ (bound ≡ dom)
        no_dom e = absurd (cc)
    unknown_by c proto is holds = ((λ e. no_dom (sym is ∙ e)), holds)
      where
        no_dom : ¬ (proto ≡ dom)
        no_dom e = absurd (cc)
    unknown_by c gone is holds = ((λ e. no_dom (sym is ∙ e)), holds)
      where
        no_dom : ¬ (gone ≡ dom)
        no_dom e = absurd (cc)

    by_unknown : (s : PureSub) → ¬ (s ≡ dom) → Hold v (other_sub (named p) s) → Hold v (unknown_there p s)
    by_unknown dom no_dom holds = absurd (no_dom refl)
    by_unknown (named q) no_dom holds = holds
    by_unknown (cell q) no_dom holds = holds
    by_unknown shape no_dom holds = holds
    by_unknown bound no_dom holds = holds
    by_unknown proto no_dom holds = holds
    by_unknown gone no_dom holds = holds

    -- nothing at the location is known of the name
    unknown_parts : Hold v (all_by_place l (knows_not p) cs) → (get h (key a (Name n)) ≡ None) × (get h (key a Dom) ≡ None)
    unknown_parts holds = (
      lacks_key vars v h proper cs union facts l (named p) (key a (Name n)) K_asked
          (by_place_from vars v h proper cs union facts l a asked (λ d. other_sub (named p) d.sub) (λ i c f there here. (known i c f there here).1)),
      none_from (get h (key a Dom)) (λ has. let (w, held) = value_at h (key a Dom) has in at_chunk vars v h proper cs union facts (key a Dom) w held (λ i c f there e is.
          (known i c f there (ap (λ (q : Key). q.loc) e)).0 (dom_of vars v h proper c f a e))),
    )
      where
        known : (i : ℕ) (c : PureChunk) (f : Fact vars v h c) → slice_get cs i ≡ Some c → f.k.loc ≡ a → (¬ (c.sub ≡ dom)) × Hold v (other_sub (named p) c.sub)
        known i c f there here = unknown_by c c.sub refl (by_place_parts vars v h proper cs union facts l a asked (knows_not p) holds i c f there here)

    abbrev has_it : ActionResult
    has_it = has_property a n h

    abbrev HasRight : PureCase → Type 0
    HasRight = IsExactCase Object v (has_property a n h)

    listed_by : (d : PureValue) (o : Option PureValue) → get h (key a (Name n)) ≡ o → Holds h (key a Dom) d → lists_name d n ≡ true → has_it ≡ does (boolean true) h
    listed_by d (Some w) is there is_named = has_found a h n w is
    listed_by d None is there is_named = has_told a h n d true is there is_named

    present_for : Hold v (any_at l (lists p) cs) → IsFor Object v has_it cs (done true_term)
    present_for holds =
        somewhere_parts vars v h proper l a asked (lists p) cs facts holds (λ c f here is.
        let parts = lists_tells vars v h proper c f p n over_p is_p is in
        let there = holds_at vars v h proper cs union facts is_heap l a asked c f (key a Dom) (dom_at vars v h proper cs union facts is_heap l a asked c f parts.0 here) in
        does_for has_it true_term (boolean true) refl (listed_by f.w (get h (key a (Name n))) refl there parts.1))

    absent_for : Hold v (any_at l (lists_not p) cs) → IsFor Object v has_it cs (done false_term)
    absent_for holds =
        absent_parts vars v h proper cs union facts is_heap l a asked p n over_p is_p holds (λ d there unnamed.
        does_for has_it false_term (boolean false) refl (has_told a h n d false (no_name_if vars v h proper cs union facts is_heap l a asked p n over_p is_p d there unnamed) there unnamed))

    held_for : Hold v (both (all_by_place l untold cs) (any_at l (λ c. same_sub (named p) c.sub) cs)) → IsFor Object v has_it cs (done true_term)
    held_for holds =
        let (w, there) = any_key vars v h proper cs union facts l (named p) (key a (Name n)) K_asked (both_parts v (all_by_place l untold cs) (any_at l (λ c. same_sub (named p) c.sub) cs) holds).1 in
        does_for has_it true_term (boolean true) refl (has_found a h n w there)

    pub has_exact : Each (IsExactCase Object v (has_property a n h)) (has_cases l p cs)
    has_exact =
        each_append HasRight (told_cases l p cs) (held_case l p cs ++ unknown_cases l p cs)
        (each_append HasRight (case_of (any_at l (lists p) cs) cs (done true_term)) (case_of (any_at l (lists_not p) cs) cs (done false_term))
        (made_exact Object v has_it (any_at l (lists p) cs) cs (done true_term) (inr present_for))
        (made_exact Object v has_it (any_at l (lists_not p) cs) cs (done false_term) (inr absent_for)))
        (each_append HasRight (held_case l p cs) (unknown_cases l p cs)
        (made_exact Object v has_it (both (all_by_place l untold cs) (any_at l (λ c. same_sub (named p) c.sub) cs)) cs (done true_term) (inr held_for))
        (each_append HasRight (case_of (opened l p cs) cs (done true_term)) (case_of (all_by_place l (knows_not p) cs) cs (missed_name l p))
        (made_exact Object v has_it (opened l p cs) cs (done true_term) (inl (opened_needs v l p cs)))
        (made_exact Object v has_it (all_by_place l (knows_not p) cs) cs (missed_name l p)
        (inr (λ holds. let parts = unknown_parts holds in missed_for vars v h proper cs union facts is_heap l a asked p n over_p is_p has_it (has_missed a h n parts.0 parts.1))))))

    -- either no chunk lists the location's names by a list term, or one does
    abbrev Untold : PureChunk → Type 0
    Untold c = (f : Fact vars v h c) → f.k ≡ key a Dom → is_list_term c.val ≡ false

    abbrev Told : Type 0
    Told = (i : ℕ) × ((c : PureChunk) × ((f : Fact vars v h c) × ((slice_get cs i ≡ Some c) × (f.k ≡ key a Dom) × (is_list_term c.val ≡ true))))

    told_by : (i : ℕ) (c : PureChunk) (f : Fact vars v h c) → slice_get cs i ≡ Some c → (b : Bool) → is_list_term c.val ≡ b → Told ⊎ Untold c
    told_by i c f there false is = inr (λ g e. is)
    told_by i c f there true is =
        ⊎_elim (λ e. inl (i, (c, (f, (there, e, is))))) (λ differ. inr (λ g e. absurd (differ ((same_entry v c f.k g.k f.w g.w f.entry g.entry).0 ∙ e)))) (key_or_not f.k (key a Dom))

    told_from : (i : ℕ) (ds : List PureChunk) → Each (Fact vars v h) ds → ((j : ℕ) (c : PureChunk) → slice_get ds j ≡ Some c → slice_get cs (i + j) ≡ Some c) → Told ⊎ Each Untold ds
    told_from i [] all_facts places = inr tt
    told_from i (c ∷ ds) all_facts places =
        ⊎_elim inl
        (λ here. ⊎_elim inl (λ rest. inr (here, rest)) (told_from (i + 1) ds all_facts.1 (λ j d at. ap (slice_get cs) (omega arith) ∙ places (suc j) d at)))
        (told_by i c all_facts.0 (ap (slice_get cs) (omega arith) ∙ places 0 c refl) (is_list_term c.val) refl)

    told_comes : (i : ℕ) (c : PureChunk) (f : Fact vars v h c) → slice_get cs i ≡ Some c → f.k ≡ key a Dom → is_list_term c.val ≡ true → (b : Bool) → lists_name f.w n ≡ b → OneOf (Comes v) (has_cases l p cs)
    told_comes i c f there e is_list true is =
        one_left (Comes v) (told_cases l p cs) (held_case l p cs ++ unknown_cases l p cs)
        (one_left (Comes v) (case_of (any_at l (lists p) cs) cs (done true_term)) (case_of (any_at l (lists_not p) cs) cs (done false_term))
        (made_comes v (any_at l (lists p) cs) cs (done true_term)
        (somewhere_from vars v h proper l a asked (lists p) cs i c f there (ap (λ (q : Key). q.loc) e) (tells_lists vars v h proper c f p n over_p is_p (dom_of vars v h proper c f a e) is_list is))))
    told_comes i c f there e is_list false is =
        one_left (Comes v) (told_cases l p cs) (held_case l p cs ++ unknown_cases l p cs)
        (one_right (Comes v) (case_of (any_at l (lists p) cs) cs (done true_term)) (case_of (any_at l (lists_not p) cs) cs (done false_term))
        (made_comes v (any_at l (lists_not p) cs) cs (done false_term)
        (somewhere_from vars v h proper l a asked (lists_not p) cs i c f there (ap (λ (q : Key). q.loc) e) (tells_lists_not vars v h proper c f p n over_p is_p (dom_of vars v h proper c f a e) is_list is))))

    module _ (all_untold : Each Untold cs) where
      held_comes : (w : PureValue) → Holds h (key a (Name n)) w → OneOf (Comes v) (has_cases l p cs)
      held_comes w there =
          one_right (Comes v) (told_cases l p cs) (held_case l p cs ++ unknown_cases l p cs)
          (one_left (Comes v) (held_case l p cs) (unknown_cases l p cs)
          (made_comes v (both (all_by_place l untold cs) (any_at l (λ c. same_sub (named p) c.sub) cs)) cs (done true_term)
          (both_from v (all_by_place l untold cs) (any_at l (λ c. same_sub (named p) c.sub) cs)
          (by_place_from vars v h proper cs union facts l a asked untold (λ i c f at here. by_untold c.sub c.val (λ is. each_at Untold cs i c all_untold at f (dom_at vars v h proper cs union facts is_heap l a asked c f is here))))
          (key_any vars v h proper cs union facts l (named p) (key a (Name n)) K_asked w there))))

      opened_case_comes : (no_name : ¬ HasKey h (key a (Name n))) → (d : PureValue) → Holds h (key a Dom) d → OneOf (Comes v) (has_cases l p cs)
      opened_case_comes no_name d there =
          one_right (Comes v) (told_cases l p cs) (held_case l p cs ++ unknown_cases l p cs)
          (one_right (Comes v) (held_case l p cs) (unknown_cases l p cs)
          (one_left (Comes v) (case_of (opened l p cs) cs (done true_term)) (case_of (all_by_place l (knows_not p) cs) cs (missed_name l p))
          (made_comes v (opened l p cs) cs (done true_term)
          (opened_from vars v h proper cs union facts is_heap l a asked p n over_p is_p
          (at_chunk vars v h proper cs union facts (key a Dom) d there (λ i c f at e is. one_at (λ x. Hold v (opened_at l x)) cs i c at
          (opened_here vars v h proper cs union facts is_heap l a asked c f e (each_at Untold cs i c all_untold at f e)))) no_name))))

      unknown_comes : (no_name : ¬ HasKey h (key a (Name n))) → get h (key a Dom) ≡ None → OneOf (Comes v) (has_cases l p cs)
      unknown_comes no_name nowhere =
          one_right (Comes v) (told_cases l p cs) (held_case l p cs ++ unknown_cases l p cs)
          (one_right (Comes v) (held_case l p cs) (unknown_cases l p cs)
          (one_right (Comes v) (case_of (opened l p cs) cs (done true_term)) (case_of (all_by_place l (knows_not p) cs) cs (missed_name l p))
          (made_comes v (all_by_place l (knows_not p) cs) cs (missed_name l p)
          (by_place_from vars v h proper cs union facts l a asked (knows_not p) (λ i c f at here.
          by_unknown c.sub
          (λ is. let e = dom_at vars v h proper cs union facts is_heap l a asked c f is here in not_both (get h (key a Dom)) nowhere (holds_at vars v h proper cs union facts is_heap l a asked c f (key a Dom) e))
          (other_name vars v h proper cs union facts is_heap l a asked p n over_p is_p c f here no_name))))))

      by_names : (no_name : ¬ HasKey h (key a (Name n))) → (o : Option PureValue) → get h (key a Dom) ≡ o → OneOf (Comes v) (has_cases l p cs)
      by_names no_name (Some d) is = opened_case_comes no_name d is
      by_names no_name None is = unknown_comes no_name is

      by_key : (o : Option PureValue) → get h (key a (Name n)) ≡ o → OneOf (Comes v) (has_cases l p cs)
      by_key (Some w) is = held_comes w is
      by_key None is = by_names (λ has. let (w, held) = value_at h (key a (Name n)) has in not_both (get h (key a (Name n))) is held) (get h (key a Dom)) refl

    pub has_comes : OneOf (Comes v) (has_cases l p cs)
    has_comes =
        ⊎_elim (λ (i, (c, (f, (there, e, is_list)))). told_comes i c f there e is_list (lists_name f.w n) refl) (λ all_untold. by_key all_untold (get h (key a (Name n))) refl)
        (told_from 0 cs facts (λ j c at. ap (slice_get cs) (omega arith) ∙ at))

  -- ---- a chunk that holds another term

  module _ (t : PureTerm) (u : PureValue) (is_t : value v t ≡ Some u) where
    pub changed_for : (r : ActionResult) (k : Key) (i : ℕ) (c : PureChunk) (f : Fact vars v h c) → slice_get cs i ≡ Some c → f.k ≡ k → r ≡ does u (insert h k u) → IsHeapOf Object r.heap → IsFor Object v r (with_held cs i t) (done t)
    changed_for r k i c f there e is keeps =
        let changed : IsUnion v (with_held cs i t) (insert h k u) = subst (λ q. IsUnion v (with_held cs i t) (insert h q u)) e (held_changes v cs h i c f.k f.w t u union there f.entry is_t) in
        subst (λ x. IsFor Object v x (with_held cs i t) (done t)) (sym is) (is_t, record { union = changed; is_heap = subst (λ (x : ActionResult). IsHeapOf Object x.heap) is keeps })

  -- ---- prototypes

  proto_asked : IsKeyOf vars v l proto (key a Proto)
  proto_asked = record { over_loc = asked.over; over_sub = tt; is = ap (λ o. key_of (location_of o) (Some Proto)) asked.is }

  proto_missed_for : (r : ActionResult) → r ≡ misses (key a Proto) h → IsFor Object v r cs (missed_key l proto)
  proto_missed_for r e = subst (λ x. IsFor Object v x cs (missed_key l proto)) (sym e) (proto_asked.is, stands)

  proto_exact : (act : PureAccess) (r : ActionResult) → ((i : ℕ) (c : PureChunk) (f : Fact vars v h c) → slice_get cs i ≡ Some c → f.k ≡ key a Proto → IsFor Object v r (accessed act cs i) (given_back act c)) → (get h (key a Proto) ≡ None → r ≡ misses (key a Proto) h) → Each (IsExactCase Object v r) (prototype_cases act l cs)
  proto_exact act r found_is missed_is =
      each_append (IsExactCase Object v r) (found act l proto cs) (case_of (all_by_place l (λ c. other_sub proto c.sub) cs) cs (missed_key l proto))
      (found_exact vars v h proper cs union facts l proto (key a Proto) proto_asked Object r act found_is)
      (made_exact Object v r (all_by_place l (λ c. other_sub proto c.sub) cs) cs (missed_key l proto)
      (inr (λ holds. proto_missed_for r (missed_is (lacks_key vars v h proper cs union facts l proto (key a Proto) proto_asked holds)))))

  pub getproto_exact : Each (IsExactCase Object v (get_prototype a h)) (prototype_cases reads l cs)
  getproto_exact =
      proto_exact reads (get_prototype a h)
      (λ i c f there e. does_for (get_prototype a h) c.val f.w f.entry.holds (proto_got a h f.w (holds_at vars v h proper cs union facts is_heap l a asked c f (key a Proto) e)))
      (proto_unknown a h)

  pub setproto_exact : (t : PureTerm) (u : PureValue) → value v t ≡ Some u → IsHeapOf Object (set_prototype a u h).heap → Each (IsExactCase Object v (set_prototype a u h)) (prototype_cases (writes t) l cs)
  setproto_exact t u is_t keeps =
      proto_exact (writes t) (set_prototype a u h)
      (λ i c f there e. changed_for t u is_t (set_prototype a u h) (key a Proto) i c f there e (proto_put a h u f.w (holds_at vars v h proper cs union facts is_heap l a asked c f (key a Proto) e)) keeps)
      (proto_missed a h u)

  proto_by : (act : PureAccess) (o : Option PureValue) → get h (key a Proto) ≡ o → OneOf (Comes v) (prototype_cases act l cs)
  proto_by act (Some w) is =
      one_left (Comes v) (found act l proto cs) (case_of (all_by_place l (λ c. other_sub proto c.sub) cs) cs (missed_key l proto))
      (found_comes vars v h proper cs union facts l proto (key a Proto) proto_asked act w is)
  proto_by act None is =
      one_right (Comes v) (found act l proto cs) (case_of (all_by_place l (λ c. other_sub proto c.sub) cs) cs (missed_key l proto))
      (made_comes v (all_by_place l (λ c. other_sub proto c.sub) cs) cs (missed_key l proto) (key_lacks vars v h proper cs union facts l proto (key a Proto) proto_asked is))

  pub prototype_comes : (act : PureAccess) → OneOf (Comes v) (prototype_cases act l cs)
  prototype_comes act = proto_by act (get h (key a Proto)) refl
