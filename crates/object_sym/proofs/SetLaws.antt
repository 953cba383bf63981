-- The cases of `set` are right.
use Rattle.std.proofs.Common.{◌≡◌, ⊎_elim, inr, ℕ, zero, suc, ◌+◌, List, [], ◌∷◌, ◌++◌, true, false, Some, slice_get, refl, sym, ap, subst, ◌∙◌, true≢false, arith}
use Rattle.std.specs.FinMap.{get, insert}
use Rattle.gil_values.specs.Pure.{PureValue, text, list, from_list as list_values}
use Rattle.mem_model.specs.declared.keys.Key.{Key}
use Rattle.mem_model.specs.declared.keys.Sub.TheVariants.{Name, Dom}
use Rattle.mem_model.specs.declared.keys.MemoryName.TheVariants.{Object}
use Rattle.mem_model.specs.Actions.{ActionResult}
use Rattle.mem_model.specs.Heaps.{Heap, Holds, HasKey, IsHeapOf}
use Rattle.mem_model.specs.Keys.{key}
use Rattle.mem_model.specs.KeyOrder.{variant_number}
use Rattle.mem_model.specs.Names.{lists_name}
use Rattle.mem_model.specs.Tables.{does}
use Rattle.mem_model.proofs.Holding.{held_inserted}
use Rattle.mem_model.proofs.Joins.{value_at}
use Rattle.object_heap.specs.Table.{appended, set_property}
use Rattle.object_sym.specs.Table.{without_name, with_name, added_there, added_from, set_cases}
use Rattle.pure_terms.specs.declared.variables.Sort.{Sort}
use Rattle.pure_terms.specs.Meaning.{value, IsProper, IsOver}
use Rattle.pure_terms.specs.Pure.{PureTerm, literal, variable, list_of, unary_of, binary_of, PureTerms, to_list, from_list}
use Rattle.sym_chunks.specs.Cases.{PureCase, writes, found}
use Rattle.sym_chunks.specs.Laws.{IsLocation}
use Rattle.sym_chunks.specs.NameTerms.{unlisted}
use Rattle.sym_model.specs.Alternatives.{both, same}
use Rattle.sym_model.proofs.Combined.{both_from, both_parts}
use Rattle.sym_model.specs.Chunks.{IsUnion, with_held}
use Rattle.sym_model.specs.Lists.{Each, OneOf}
use Rattle.sym_model.specs.Meaning.{location_of, name_of, key_of}
use Rattle.sym_model.specs.Pure.{PureSub, named, cell, shape, bound, dom, proto, gone, PureChunk, done}
use Rattle.sym_model.specs.Terms.{is_list_term}
use Rattle.sym_model.proofs.ListLaws.{same_some, not_none, each_append, each_at, one_left, one_right}
use Rattle.sym_model.proofs.Unions.{held_changes, put_last}
use Rattle.sym_chunks.proofs.CaseLaws.{IsFor, IsExactCase, made_exact, made_comes}
use Rattle.sym_chunks.proofs.Facts.{Fact, loc_tells}
use Rattle.sym_chunks.proofs.FoundLaws.{at_chunk, found_exact, found_comes}
use Rattle.sym_chunks.proofs.ChunkFacts.{lies_at, val_over, val_is}
use Rattle.sym_chunks.proofs.NameLists.{list_value, unlisted_holds, holds_unlisted}
use Rattle.object_sym.proofs.GetLaws.{changed_for}
use Rattle.object_sym.proofs.HeapLaws.{insert_comm, not_both, set_found, set_absent, set_missed}
use Rattle.object_sym.proofs.ListValues.{values_append, one_value, list_is, given_values, appended_is}
use Rattle.object_sym.proofs.PropertyLaws.{Comes, Closed, dom_of, dom_at, holds_at, name_asked, no_name_if, without_exact, by_heap}

pub name_is_no_list : (a : ℕ) (n : List ℕ) → ¬ (key a (Name n) ≡ key a Dom)
name_is_no_list a n e = absurd (omega (arith, ap (λ (q : Key). variant_number q.sub) e))

module _ (vars : List Sort) (v : List PureValue) (h : Heap) (proper : IsProper vars v) (cs : List PureChunk) (union : IsUnion v cs h) (facts : Each (Fact vars v h) cs) (is_heap : IsHeapOf Object h)
    (l : PureTerm) (a : ℕ) (asked : IsLocation vars v l a) (p : PureTerm) (n : List ℕ) (over_p : IsOver vars p) (is_p : value v p ≡ Some (text n)) (t : PureTerm) (u : PureValue) (is_t : value v t ≡ Some u)
    (keeps : IsHeapOf Object (set_property a n u h).heap) where
  abbrev r : ActionResult
  r = set_property a n u h

  abbrev Right : PureCase → Type 0
  Right = IsExactCase Object v r

  holds_key : (c : PureChunk) (f : Fact vars v h c) (k : Key) → f.k ≡ k → Holds h k f.w
  holds_key c f k e = holds_at vars v h proper cs union facts is_heap l a asked c f k e

  -- ---- a chunk that lists the names without the name

  module _ (i : ℕ) (c : PureChunk) (f : Fact vars v h c) (there : slice_get cs i ≡ Some c) where
    added_for : (ts : PureTerms) → c.sub ≡ dom → c.val ≡ list_of ts → f.k.loc ≡ a → lists_name f.w n ≡ false → IsFor Object v r (with_name cs i c.loc (to_list ts) p t) (done t)
    added_for ts is is_list here unnamed =
        let e = dom_at vars v h proper cs union facts is_heap l a asked c f is here in
        let held = holds_key c f (key a Dom) e in
        let (ws, (have, whole)) = list_value v ts f.w (val_is vars v h c f (list_of ts) is_list) in
        let d : PureValue = list (list_values (ws ++ text n ∷ [])) in
        let is_d : value v (list_of (from_list (to_list ts ++ p ∷ []))) ≡ Some d = list_is v (to_list ts ++ p ∷ []) (ws ++ text n ∷ []) (values_append v (to_list ts) (p ∷ []) ws (text n ∷ []) (given_values v ts ws have) (one_value v p (text n) is_p)) in
        let same_d : d ≡ appended f.w n = appended_is ws n ∙ ap (λ x. appended x n) (sym whole) in
        let longer : IsUnion v (with_held cs i (list_of (from_list (to_list ts ++ p ∷ [])))) (insert h (key a Dom) d) =
        subst (λ q. IsUnion v (with_held cs i (list_of (from_list (to_list ts ++ p ∷ [])))) (insert h q d)) e (held_changes v cs h i c f.k f.w (list_of (from_list (to_list ts ++ p ∷ []))) d union there f.entry is_d) in
        let no_name = no_name_if vars v h proper cs union facts is_heap l a asked p n over_p is_p f.w held unnamed in
        let lacks : ¬ HasKey (insert h (key a Dom) d) (key a (Name n)) = (λ has.
        let (w, holds) = value_at (insert h (key a Dom) d) (key a (Name n)) has in
        ⊎_elim (λ put. name_is_no_list a n put.0) (λ kept. not_both (get h (key a (Name n))) no_name kept.1) (held_inserted h (key a Dom) (key a (Name n)) d w holds)) in
        let entered : IsUnion v (with_name cs i c.loc (to_list ts) p t) (insert (insert h (key a Dom) d) (key a (Name n)) u) =
        put_last v (with_held cs i (list_of (from_list (to_list ts ++ p ∷ [])))) (insert h (key a Dom) d) (record { loc = c.loc; sub = named p; val = t }) (key a (Name n)) u longer
        (record { at = (λ j. key_of (location_of (lies_at vars v h proper l a asked c f here j)) (name_of (is_p j))); holds = is_t }) lacks in
        let is_r : r ≡ does u (insert (insert h (key a (Name n)) u) (key a Dom) (appended f.w n)) = set_absent a h n u f.w no_name held unnamed in
        let same_heap : insert (insert h (key a Dom) d) (key a (Name n)) u ≡ insert (insert h (key a (Name n)) u) (key a Dom) (appended f.w n) =
        insert_comm h (key a (Name n)) (key a Dom) u d (name_is_no_list a n) ∙ ap (insert (insert h (key a (Name n)) u) (key a Dom)) same_d in
        subst (λ x. IsFor Object v x (with_name cs i c.loc (to_list ts) p t) (done t)) (sym is_r) (
          is_t,
          record { union = subst (IsUnion v (with_name cs i c.loc (to_list ts) p t)) same_heap entered; is_heap = subst (λ (x : ActionResult). IsHeapOf Object x.heap) is_r keeps },
        )

    added_right : (s : PureSub) → c.sub ≡ s → (w : PureTerm) → c.val ≡ w → Each Right (added_there l p t cs i c.loc s w)
    added_right dom is (list_of ts) is_list =
        made_exact Object v r (both (same l c.loc) (unlisted p (list_of ts))) (with_name cs i c.loc (to_list ts) p t) (done t) (inr (λ holds.
        let parts = both_parts v (same l c.loc) (unlisted p (list_of ts)) holds in
        added_for ts is is_list ((loc_tells vars v h proper c f l a asked).0 parts.0)
        (unlisted_holds vars v proper p n over_p is_p ts f.w (val_over vars v h c f (list_of ts) is_list) (val_is vars v h c f (list_of ts) is_list) parts.1)))
    added_right dom is (literal k) is_list = tt
    added_right dom is (variable y) is_list = tt
    added_right dom is (unary_of op x) is_list = tt
    added_right dom is (binary_of op x y) is_list = tt
    added_right (named q) is w is_list = tt
    added_right (cell q) is w is_list = tt
    added_right shape is w is_list = tt
    added_right bound is w is_list = tt
    added_right proto is w is_list = tt
    added_right gone is w is_list = tt

    -- where it does, the case comes
    added_by : (w : PureTerm) → c.val ≡ w → is_list_term w ≡ true → f.k.loc ≡ a → lists_name f.w n ≡ false → OneOf (Comes v) (added_there l p t cs i c.loc dom w)
    added_by (list_of ts) is_w is_list here unnamed =
        made_comes v (both (same l c.loc) (unlisted p (list_of ts))) (with_name cs i c.loc (to_list ts) p t) (done t)
        (both_from v (same l c.loc) (unlisted p (list_of ts)) ((loc_tells vars v h proper c f l a asked).1 here)
        (holds_unlisted vars v proper p n over_p is_p ts f.w (val_over vars v h c f (list_of ts) is_w) (val_is vars v h c f (list_of ts) is_w) unnamed))
    added_by w is_w is_list here unnamed = absurd (true≢false (sym is_list))

  added_exact : (i : ℕ) (ds : List PureChunk) → ((j : ℕ) (c : PureChunk) → slice_get ds j ≡ Some c → slice_get cs (i + j) ≡ Some c) → Each Right (added_from l p t cs i ds)
  added_exact i [] places = tt
  added_exact i (c ∷ ds) places =
      let there : slice_get cs i ≡ Some c = ap (slice_get cs) (omega arith) ∙ places 0 c refl in
      each_append Right (added_there l p t cs i c.loc c.sub c.val) (added_from l p t cs (i + 1) ds)
      (added_right i c (each_at (Fact vars v h) cs i c facts there) there c.sub refl c.val refl)
      (added_exact (i + 1) ds (λ j d at. ap (slice_get cs) (omega arith) ∙ places (suc j) d at))

  -- the case of a chunk at a place is one of all
  added_at : (i k : ℕ) (ds : List PureChunk) (j : ℕ) (c : PureChunk) → slice_get ds j ≡ Some c → k ≡ i + j → OneOf (Comes v) (added_there l p t cs k c.loc c.sub c.val) → OneOf (Comes v) (added_from l p t cs i ds)
  added_at i k [] j c there is one = not_none there
  added_at i k (d ∷ ds) zero c there is one =
      let e : k ≡ i = is ∙ omega arith in
      one_left (Comes v) (added_there l p t cs i d.loc d.sub d.val) (added_from l p t cs (i + 1) ds)
      (subst (λ (x : PureChunk). OneOf (Comes v) (added_there l p t cs i x.loc x.sub x.val)) (sym (same_some there)) (subst (λ m. OneOf (Comes v) (added_there l p t cs m c.loc c.sub c.val)) e one))
  added_at i k (d ∷ ds) (suc j) c there is one =
      one_right (Comes v) (added_there l p t cs i d.loc d.sub d.val) (added_from l p t cs (i + 1) ds) (added_at (i + 1) k ds j c there (is ∙ omega arith) one)

  pub set_exact : Each Right (set_cases l p t cs)
  set_exact =
      each_append Right (found (writes t) l (named p) cs) (added_from l p t cs 0 cs ++ without_name l p cs)
      (found_exact vars v h proper cs union facts l (named p) (key a (Name n)) (name_asked vars v h proper cs union facts is_heap l a asked p n over_p is_p) Object r (writes t)
      (λ i c f there e. changed_for vars v h proper cs union facts is_heap l a asked t u is_t r (key a (Name n)) i c f there e (set_found a h n u f.w (holds_key c f (key a (Name n)) e)) keeps))
      (each_append Right (added_from l p t cs 0 cs) (without_name l p cs)
      (added_exact 0 cs (λ j c at. ap (slice_get cs) (omega arith) ∙ at))
      (without_exact vars v h proper cs union facts is_heap l a asked p n over_p is_p r (set_missed a h n u)))

  pub set_comes : OneOf (Comes v) (set_cases l p t cs)
  set_comes =
      by_heap vars v h proper cs union facts is_heap l a asked p n over_p is_p
      (λ w held. one_left (Comes v) (found (writes t) l (named p) cs) (added_from l p t cs 0 cs ++ without_name l p cs)
      (found_comes vars v h proper cs union facts l (named p) (key a (Name n)) (name_asked vars v h proper cs union facts is_heap l a asked p n over_p is_p) (writes t) w held))
      (λ closed d held unnamed. one_right (Comes v) (found (writes t) l (named p) cs) (added_from l p t cs 0 cs ++ without_name l p cs)
      (one_left (Comes v) (added_from l p t cs 0 cs) (without_name l p cs)
      (at_chunk vars v h proper cs union facts (key a Dom) d held (λ i c f there e is.
      added_at 0 i cs i c there (omega arith)
      (subst (λ s. OneOf (Comes v) (added_there l p t cs i c.loc s c.val)) (sym (dom_of vars v h proper c f a e))
      (added_by i c f there c.val refl (each_at (Closed vars v h proper cs union facts is_heap l a asked) cs i c closed there f e) (ap (λ (q : Key). q.loc) e) (ap (λ w. lists_name w n) is ∙ unnamed)))))))
      (λ one. one_right (Comes v) (found (writes t) l (named p) cs) (added_from l p t cs 0 cs ++ without_name l p cs) (one_right (Comes v) (added_from l p t cs 0 cs) (without_name l p cs) one))
