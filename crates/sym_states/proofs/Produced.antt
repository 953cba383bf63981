-- What adding the items of an assertion one after another gives.
use Rattle.std.proofs.Common.{◌≡◌, ◌⊎◌, ⊎_elim, inl, inr, ℕ, zero, suc, ◌+◌, ◌*◌, ◌<◌, ◌≤◌, arith, length, get_or, take, List, [], ◌∷◌, ◌++◌, false, Some, IsTrue, refl, sym, ap, subst, ◌∙◌, append_assoc, true≢false}
use Rattle.std.specs.Option.{option_and_then}
use Rattle.std.proofs.lemmas.List.{append-nil, length-append, map-append, take_more}
use Rattle.gil_values.specs.Pure.{PureValue}
use Rattle.gil_syntax.specs.Evaluation.{Store}
use Rattle.gil_syntax.specs.Pure.{PureItem}
use Rattle.gil_syntax.specs.View.{item_view, assertion_view}
use Rattle.gil_syntax.specs.declared.assertions.Item.{Item}
use Rattle.mem_model.specs.declared.keys.MemoryName.{MemoryName}
use Rattle.mem_model.specs.Heaps.{Heap, IsHeapOf}
use Rattle.assert_logic.specs.Adding.{with_item, added, IsAdding}
use Rattle.assert_logic.specs.LogicStates.{LogicState}
use Rattle.pure_terms.specs.declared.variables.Sort.{Sort}
use Rattle.pure_terms.specs.Meaning.{all_true}
use Rattle.pure_terms.specs.Pure.{PureAtom}
use Rattle.sym_evaluation.specs.Meaning.{IsStoreOver}
use Rattle.sym_evaluation.specs.Plainly.{text_bound}
use Rattle.sym_evaluation.specs.Pure.{PureStore}
use Rattle.sym_model.specs.Laws.{IsMeaning}
use Rattle.sym_model.specs.Lists.{Each, OneOf}
use Rattle.sym_model.specs.Meaning.{has_open}
use Rattle.sym_model.specs.Terms.{StateTerms}
use Rattle.sym_model.proofs.ListLaws.{same_some, each_append, each_left, each_right, each_to, one_left, one_right, one_to, one_with}
use Rattle.sym_paths.specs.PlainLaws.{IsPlainOver}
use Rattle.sym_paths.specs.Plain.{IsPlainItem}
use Rattle.sym_states.specs.Laws.{CoversAddings, AreAddings, ComeFromItems, StayOverTable}
use Rattle.sym_states.specs.Meaning.{Stands, Serves, IsOverTable}
use Rattle.sym_states.specs.Narrowly.{IsNarrowWith, IsNarrowItem, StayNarrow}
use Rattle.sym_states.specs.Plainly.{IsPlainWith, StayPlain, item_growth}
use Rattle.sym_states.specs.Producing.{IsProduced, is_begun, is_added, IsStopped, added_conds, PureProduction, IsAfter, NeedsForm, AddsToEach, AddsNext}
use Rattle.sym_states.specs.Pure.{PureState}
use Rattle.sym_states.proofs.Additions.{item_heap, added_more, item_after}
use Rattle.sym_states.proofs.Conditions.{met_parts, open_right, none_open, added_is, grown}
use Rattle.sym_states.proofs.Narrowness.{narrow_state_up, item_up}
use Rattle.sym_states.proofs.Plainness.{state_up, one_more, no_less, reaches_more}
use Rattle.sym_states.proofs.PureItems.{grows}

-- ---- lists of items

pub item_more : (xs : List Item) (i : ℕ) (item : Item) → i < length xs → item ≡ get_or xs i item → assertion_view (take (i + 1) xs) ≡ assertion_view (take i xs) ++ item_view item ∷ []
item_more xs i item below is = ap assertion_view (take_more xs i item below ∙ ap (λ x. take i xs ++ x ∷ []) (sym is)) ∙ map-append item_view (take i xs) (item ∷ [])

pub each_item : (P : PureItem → Type 0) (xs : List Item) (i : ℕ) (item : Item) → i < length xs → item ≡ get_or xs i item → Each P (assertion_view xs) → P (item_view item)
each_item P [] i item below is all = let none : ⊥ = omega (arith, below) in absurd none
each_item P (x ∷ xs) zero item below is all = subst (λ y. P (item_view y)) (sym is) all.0
each_item P (x ∷ xs) (suc i) item below is all = each_item P xs i item (omega (arith, below)) is all.1

-- one of the elements, of which each has a property
both_of : {A : Type 0} (P Q : A → Type 0) (xs : List A) → Each P xs → OneOf Q xs → OneOf (λ x. P x × Q x) xs
both_of P Q [] all one = absurd one
both_of P Q (x ∷ xs) all one = ⊎_elim (λ here. inl (all.0, here)) (λ later. inr (both_of P Q xs all.1 later)) one

module _ {S : Type 0} (memory : MemoryName) (stands : S → List PureValue → Heap → Type 0) (terms : S → StateTerms) (kept : S → Type 0) (keeps narrows : Type 0) (meaning : IsMeaning memory stands terms) (bs : PureStore)
    (s : PureState S) where
  -- ---- what stays, and what grows

  same_table : (items : List PureItem) (r : PureState S) → IsProduced terms bs s items r → r.vars ≡ s.vars
  same_table items r (is_begun is same) = ap (λ (x : PureState S). x.vars) is
  same_table items r (is_added {items = xs} {q = q} before next) = ap (λ (x : PureState S). x.vars) next.same_else ∙ same_table xs q before

  conds_grow : (items : List PureItem) (r : PureState S) → IsProduced terms bs s items r → (more : List PureAtom) × (r.conds ≡ s.conds ++ more)
  conds_grow items r (is_begun is same) = ([], ap (λ (x : PureState S). x.conds) is ∙ sym (append-nil s.conds))
  conds_grow items r (is_added {items = xs} {q = q} before next) =
      let (first, is) = conds_grow xs q before in
      (first ++ next.more, grown s q r first next.more is next.conds)

  -- ---- what holds of each state

  abbrev IsExact : List PureItem → PureState S → Type 0
  IsExact items r =
      (v : List PureValue) (t : Store) (l : LogicState) → Serves stands terms s bs v t l → IsTrue (all_true v r.conds) → has_open (added_conds s r) ≡ false
      → (m : LogicState) × ((added t items l ≡ Some m) × Stands stands r v m)

  -- from a plain state and plain items, the state is plain
  abbrev PlainAfter : List PureItem → PureState S → Type 0
  PlainAfter items r =
      (b c : ℕ) → Each IsPlainItem items → IsPlainOver s.vars c bs → c + text_bound ≤ b → IsPlainWith memory terms b s → IsPlainWith memory terms (b + length items * item_growth) r

  -- from a narrow state and narrow items, the state is narrow
  abbrev NarrowAfter : List PureItem → PureState S → Type 0
  NarrowAfter items r = (b : ℕ) → Each (IsNarrowItem bs b) items → IsNarrowWith terms b s → IsNarrowWith terms (b + length items * item_growth) r

  -- a state to which the items were added
  pub record IsWhole (items : List PureItem) (r : PureState S) : Type 0 where
    pub produced : IsProduced terms bs s items r
    pub over : IsOverTable terms s → IsStoreOver s.vars bs → IsOverTable terms r
    pub still_kept : kept s.memory → kept r.memory
    pub still_plain : keeps → PlainAfter items r
    pub still_narrow : narrows → NarrowAfter items r
    pub exact : IsExact items r

  -- a state at which a literal form is needed
  pub record IsHalf (items : List PureItem) (r : PureState S) : Type 0 where
    pub stopped : IsStopped stands terms bs s items r
    pub needs : IsTrue (has_open (added_conds s r))
    pub over : IsOverTable terms s → IsStoreOver s.vars bs → IsOverTable terms r
    pub still_kept : kept s.memory → kept r.memory
    pub still_plain : keeps → PlainAfter items r
    pub still_narrow : narrows → NarrowAfter items r

  pub record Produces (items : List PureItem) (p : PureProduction S) : Type 0 where
    pub cover : (v : List PureValue) (t : Store) (l m : LogicState) → Serves stands terms s bs v t l → added t items l ≡ Some m → IsHeapOf memory m.heap
        → OneOf (λ r. Stands stands r v m) p.whole ⊎ OneOf (λ r. IsTrue (all_true v r.conds)) p.stopped
    pub whole : Each (IsWhole items) p.whole
    pub stopped : Each (IsHalf items) p.stopped

  -- ---- the beginning

  pub nothing_produced : Produces [] (record { whole = s ∷ []; stopped = [] })
  nothing_produced = record {
    cover = λ v t l m serves is heap. inl (inl (subst (λ (x : LogicState). Stands stands s v x) (same_some is) serves.state));
    whole = (record { produced = is_begun refl refl; over = λ over store. over; still_kept = λ is. is; still_plain = λ keep b c all over below is. state_up memory terms b (b + 0 * item_growth) (no_less b 0) s is; still_narrow = λ keep b all is. narrow_state_up terms b (b + 0 * item_growth) (no_less b 0) s is; exact = λ v t l serves met none. (l, (refl, serves.state)) }, tt);
    stopped = tt;
  }

  -- ---- one item more

  module _ (items : List PureItem) (item : PureItem) where
    abbrev After : PureState S → PureState S → Type 0
    After = IsAfter memory stands terms kept keeps narrows bs item

    store_still_over : (q : PureState S) → IsWhole items q → IsStoreOver s.vars bs → IsStoreOver q.vars bs
    store_still_over q w over = subst (λ (vars : List Sort). IsStoreOver vars bs) (sym (same_table items q w.produced)) over

    serves_after : (q : PureState S) → IsWhole items q → (v : List PureValue) (t : Store) (l k : LogicState) → Serves stands terms s bs v t l → Stands stands q v k → Serves stands terms q bs v t k
    serves_after q w v t l k serves is = record {
      over = w.over serves.over serves.store_over;
      store_over = store_still_over q w serves.store_over;
      store = serves.store;
      state = is;
    }

    plain_next : (q r : PureState S) → IsWhole items q → After q r → keeps → PlainAfter (items ++ item ∷ []) r
    plain_next q r w after keep b c all over below is =
        let first = each_left IsPlainItem items (item ∷ []) all in
        let last = (each_right IsPlainItem items (item ∷ []) all).0 in
        let before = w.still_plain keep b c first over below is in
        let n : ℕ = length items in
        let there = after.still_plain keep (b + n * item_growth) c last (subst (λ (vars : List Sort). IsPlainOver vars c bs) (sym (same_table items q w.produced)) over) (reaches_more b (c + text_bound) n below) before in
        subst (λ (m : ℕ). IsPlainWith memory terms m r) (one_more b n ∙ ap (λ m. b + m * item_growth) (sym (length-append items (item ∷ [])))) there

    plain_still : (r : PureState S) → IsHalf items r → keeps → PlainAfter (items ++ item ∷ []) r
    plain_still r half keep b c all over below is =
        let first = each_left IsPlainItem items (item ∷ []) all in
        let n : ℕ = length items in
        let there = half.still_plain keep b c first over below is in
        subst (λ (m : ℕ). IsPlainWith memory terms m r) (one_more b n ∙ ap (λ m. b + m * item_growth) (sym (length-append items (item ∷ []))))
        (state_up memory terms (b + n * item_growth) ((b + n * item_growth) + item_growth) (grows (b + n * item_growth)) r there)

    narrow_next : (q r : PureState S) → IsWhole items q → After q r → narrows → NarrowAfter (items ++ item ∷ []) r
    narrow_next q r w after keep b all is =
        let first = each_left (IsNarrowItem bs b) items (item ∷ []) all in
        let last = (each_right (IsNarrowItem bs b) items (item ∷ []) all).0 in
        let n : ℕ = length items in
        let there = after.still_narrow keep (b + n * item_growth) (item_up bs b (b + n * item_growth) (no_less b n) item last) (w.still_narrow keep b first is) in
        subst (λ (m : ℕ). IsNarrowWith terms m r) (one_more b n ∙ ap (λ m. b + m * item_growth) (sym (length-append items (item ∷ [])))) there

    narrow_still : (r : PureState S) → IsHalf items r → narrows → NarrowAfter (items ++ item ∷ []) r
    narrow_still r half keep b all is =
        let first = each_left (IsNarrowItem bs b) items (item ∷ []) all in
        let n : ℕ = length items in
        subst (λ (m : ℕ). IsNarrowWith terms m r) (one_more b n ∙ ap (λ m. b + m * item_growth) (sym (length-append items (item ∷ []))))
        (narrow_state_up terms (b + n * item_growth) ((b + n * item_growth) + item_growth) (grows (b + n * item_growth)) r (half.still_narrow keep b first is))

    whole_next : (q r : PureState S) → IsWhole items q → After q r → IsWhole (items ++ item ∷ []) r
    whole_next q r w after = record {
      produced = is_added w.produced after.next;
      over = λ over store. after.over (w.over over store) (store_still_over q w store);
      still_kept = λ is. after.still_kept (w.still_kept is);
      still_plain = plain_next q r w after;
      still_narrow = narrow_next q r w after;
      exact = λ v t l serves met none.
          let more = after.next.more in
          let (first, grew) = conds_grow items q w.produced in
          let conds : r.conds ≡ q.conds ++ more = after.next.conds in
          let all : added_conds s r ≡ first ++ more = added_is s r (first ++ more) (grown s q r first more grew conds) in
          let closed = none_open first more (ap has_open (sym all) ∙ none) in
          let met_before = (met_parts v q.conds more (subst (λ (cs : List PureAtom). IsTrue (all_true v cs)) conds met)).0 in
          let (k, (before, there)) = w.exact v t l serves met_before (ap has_open (added_is s q first grew) ∙ closed.0) in
          let (m, (here, is)) = after.exact v t k (serves_after q w v t l k serves there) met (ap has_open (added_is q r more conds) ∙ closed.1) in
          (m, (added_more t items item l ∙ ap (option_and_then (with_item t item)) before ∙ here, is));
    }

    half_next : (q r : PureState S) → IsWhole items q → After q r → NeedsForm stands terms bs item q r → IsHalf (items ++ item ∷ []) r
    half_next q r w after needs =
        let more = after.next.more in
        let (first, grew) = conds_grow items q w.produced in
        let conds : r.conds ≡ q.conds ++ more = after.next.conds in
        let all : added_conds s r ≡ first ++ more = added_is s r (first ++ more) (grown s q r first more grew conds) in
        let asked : IsTrue (has_open more) = ap has_open (sym (added_is q r more conds)) ∙ needs.needed in
        record {
          stopped = record { before = items; item = item; later = []; are = refl; at = q; produced = w.produced; last = after.next; needs = needs };
          needs = ap has_open all ∙ open_right first more asked;
          over = λ over store. after.over (w.over over store) (store_still_over q w store);
          still_kept = λ is. after.still_kept (w.still_kept is);
          still_plain = plain_next q r w after;
          still_narrow = narrow_next q r w after;
        }

    half_stays : (r : PureState S) → IsHalf items r → IsHalf (items ++ item ∷ []) r
    half_stays r half =
        let st = half.stopped in
        record {
          stopped = record {
            before = st.before;
            item = st.item;
            later = st.later ++ item ∷ [];
            are = ap (λ (xs : List PureItem). xs ++ item ∷ []) st.are ∙ append_assoc st.before (st.item ∷ st.later) (item ∷ []);
            at = st.at;
            produced = st.produced;
            last = st.last;
            needs = st.needs;
          };
          needs = half.needs;
          over = half.over;
          still_kept = half.still_kept;
          still_plain = plain_still r half;
          still_narrow = narrow_still r half;
        }

    module _ (p d : PureProduction S) (so_far : Produces items p) (adds : AddsToEach memory stands terms kept keeps narrows bs item p.whole d) where
      abbrev Met : List PureValue → PureState S → Type 0
      Met v r = IsTrue (all_true v r.conds)

      covers_next : (v : List PureValue) (t : Store) (l m : LogicState) → Serves stands terms s bs v t l → added t (items ++ item ∷ []) l ≡ Some m → IsHeapOf memory m.heap
          → OneOf (λ r. Stands stands r v m) d.whole ⊎ OneOf (Met v) (p.stopped ++ d.stopped)
      covers_next v t l m serves is heap =
          let (k, (before, here)) = item_after t item m (added t items l) (sym (added_more t items item l) ∙ is) in
          ⊎_elim
          (λ one.
          let servers : OneOf (λ q. Serves stands terms q bs v t k) p.whole =
          one_to (λ q. IsWhole items q × Stands stands q v k) (λ q. Serves stands terms q bs v t k) p.whole (λ q both. serves_after q both.0 v t l k serves both.1)
          (both_of (IsWhole items) (λ q. Stands stands q v k) p.whole so_far.whole one) in
          ⊎_elim (λ whole. inl whole) (λ stopped. inr (one_right (Met v) p.stopped d.stopped stopped)) (adds.cover v t k m servers here heap))
          (λ one. inr (one_left (Met v) p.stopped d.stopped one))
          (so_far.cover v t l k serves before (item_heap memory t item k m here heap))

      pub produces_next : Produces (items ++ item ∷ []) (record { whole = d.whole; stopped = p.stopped ++ d.stopped })
      produces_next = record {
        cover = covers_next;
        whole = each_to (λ r. OneOf (λ q. After q r) p.whole) (IsWhole (items ++ item ∷ [])) d.whole
            (λ r one. one_with (IsWhole items) (λ q. After q r) p.whole so_far.whole one (λ q w after. whole_next q r w after)) adds.whole;
        stopped = each_append (IsHalf (items ++ item ∷ [])) p.stopped d.stopped (each_to (IsHalf items) (IsHalf (items ++ item ∷ [])) p.stopped half_stays so_far.stopped)
            (each_to (λ r. OneOf (λ q. After q r × NeedsForm stands terms bs item q r) p.whole) (IsHalf (items ++ item ∷ [])) d.stopped
            (λ r one. one_with (IsWhole items) (λ q. After q r × NeedsForm stands terms bs item q r) p.whole so_far.whole one (λ q w both. half_next q r w both.0 both.1)) adds.stopped);
      }

    pub produces_more : (p q : PureProduction S) → Produces items p → AddsNext memory stands terms kept keeps narrows bs item p q → Produces (items ++ item ∷ []) q
    produces_more p q so_far (d, (adds, is)) = subst (Produces (items ++ item ∷ [])) (sym is) (produces_next p d so_far adds)

  -- ---- the end

  module _ (items : List PureItem) (p : PureProduction S) (all : Produces items p) where
    pub covers_all : CoversAddings memory stands terms bs items s (p.whole ++ p.stopped)
    covers_all v t l m serves adding =
        let Right : PureState S → Type 0 = λ (r : PureState S). IsTrue (all_true v r.conds) × (IsTrue (has_open (added_conds s r)) ⊎ Stands stands r v m) in
        ⊎_elim
        (λ one. one_left Right p.whole p.stopped (one_to (λ r. Stands stands r v m) Right p.whole (λ r is. (is.meets, inr is)) one))
        (λ one. one_right Right p.whole p.stopped (one_to (λ r. IsHalf items r × IsTrue (all_true v r.conds)) Right p.stopped (λ r both. (both.1, inl both.0.needs))
        (both_of (IsHalf items) (λ r. IsTrue (all_true v r.conds)) p.stopped all.stopped one)))
        (all.cover v t l m serves adding.added_is adding.well_formed)

    pub all_exact : AreAddings memory stands terms bs items s (p.whole ++ p.stopped)
    all_exact v t l serves =
        let Right : PureState S → Type 0 =
        λ (r : PureState S). IsTrue (all_true v r.conds) → has_open (added_conds s r) ≡ false → (m : LogicState) × (IsAdding memory t items l m × Stands stands r v m) in
        each_append Right p.whole p.stopped
        (each_to (IsWhole items) Right p.whole
        (λ r w met none.
        let (m, (is, there)) = w.exact v t l serves met none in
        (m, (record { added_is = is; well_formed = meaning.of_memory r.memory v m.heap there.memory }, there))) all.whole)
        (each_to (IsHalf items) Right p.stopped (λ r half met none. absurd (true≢false (sym half.needs ∙ none))) all.stopped)

    pub all_come : ComeFromItems stands terms bs items s (p.whole ++ p.stopped)
    all_come =
        let Right : PureState S → Type 0 = λ (r : PureState S). IsProduced terms bs s items r ⊎ IsStopped stands terms bs s items r in
        each_append Right p.whole p.stopped (each_to (IsWhole items) Right p.whole (λ r w. inl w.produced) all.whole)
        (each_to (IsHalf items) Right p.stopped (λ r half. inr half.stopped) all.stopped)

    pub all_over : StayOverTable terms bs s (p.whole ++ p.stopped)
    all_over over store =
        each_append (IsOverTable terms) p.whole p.stopped (each_to (IsWhole items) (IsOverTable terms) p.whole (λ r w. w.over over store) all.whole)
        (each_to (IsHalf items) (IsOverTable terms) p.stopped (λ r half. half.over over store) all.stopped)

    pub all_kept : kept s.memory → Each (λ r. kept r.memory) (p.whole ++ p.stopped)
    all_kept is =
        each_append (λ (r : PureState S). kept r.memory) p.whole p.stopped (each_to (IsWhole items) (λ r. kept r.memory) p.whole (λ r w. w.still_kept is) all.whole)
        (each_to (IsHalf items) (λ r. kept r.memory) p.stopped (λ r half. half.still_kept is) all.stopped)

    pub all_plain : keeps → StayPlain memory terms bs items s (p.whole ++ p.stopped)
    all_plain keep b c plain over below is =
        let Right : PureState S → Type 0 = IsPlainWith memory terms (b + length items * item_growth) in
        each_append Right p.whole p.stopped (each_to (IsWhole items) Right p.whole (λ r w. w.still_plain keep b c plain over below is) all.whole)
        (each_to (IsHalf items) Right p.stopped (λ r half. half.still_plain keep b c plain over below is) all.stopped)

    pub all_narrow : narrows → StayNarrow terms bs items s (p.whole ++ p.stopped)
    all_narrow keep b narrow is =
        let Right : PureState S → Type 0 = IsNarrowWith terms (b + length items * item_growth) in
        each_append Right p.whole p.stopped (each_to (IsWhole items) Right p.whole (λ r w. w.still_narrow keep b narrow is) all.whole)
        (each_to (IsHalf items) Right p.stopped (λ r half. half.still_narrow keep b narrow is) all.stopped)
