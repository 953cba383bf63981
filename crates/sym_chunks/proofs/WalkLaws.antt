-- Taking the keys of a location one after another comes to what disposing of the location as a whole comes to.
use Rattle.std.proofs.Common.{◌≡◌, ◌⊎◌, ⊎_elim, inl, inr, ℕ, zero, suc, ◌+◌, nat_eq, List, [], ◌∷◌, ◌++◌, Bool, true, false, not, ◌||◌, cond, if◌then◌else◌, Option, Some, None, IsSome, IsTrue, is_some, slice_get, refl, sym, ap, subst, ◌∙◌, true≢false, arith}
use Rattle.std.specs.FinMap.{get, remove, get-remove}
use Rattle.std.specs.List.{flat_map, list_any, remove as remove_at}
use Rattle.std.specs.Prelude.{⊤}
use Rattle.std.proofs.lemmas.Bool.Decides.{Decides-eqb}
use Rattle.gil_values.specs.Pure.{PureValue, boolean}
use Rattle.mem_model.specs.declared.keys.Key.{Key}
use Rattle.mem_model.specs.declared.keys.Sub.{Sub}
use Rattle.mem_model.specs.declared.keys.Sub.TheVariants.{Gone}
use Rattle.mem_model.specs.declared.keys.MemoryName.{MemoryName}
use Rattle.mem_model.specs.Actions.{ActionResult}
use Rattle.mem_model.specs.Heaps.{Heap, Holds, HasKey, IsHeapOf}
use Rattle.mem_model.specs.Keys.{key}
use Rattle.mem_model.specs.KeyOrder.{key_cmp-total, key_eq}
use Rattle.mem_model.specs.Tables.{does, misses, is_among, without_keys, without_location, disposed, first_missing, missed_or}
use Rattle.mem_model.proofs.Changes.{get-without_keys, get-without_location}
use Rattle.mem_model.proofs.Joins.{same_heap, has_key}
use Rattle.mem_model.proofs.Holding.{same_key, itself}
use Rattle.mem_model.proofs.NameKeys.{or_of, or_first, or_second}
use Rattle.pure_terms.specs.declared.variables.Sort.{Sort}
use Rattle.pure_terms.specs.Meaning.{IsProper, IsOver}
use Rattle.pure_terms.specs.Pure.{PureTerm}
use Rattle.sym_chunks.specs.ByPlace.{all_by_place}
use Rattle.sym_chunks.specs.Cases.{true_term}
use Rattle.sym_chunks.specs.Keys.{other_sub, at_key}
use Rattle.sym_chunks.specs.Laws.{IsLocation, IsKeyOf}
use Rattle.sym_chunks.specs.Walking.{PureWay, way_of, sure_place, ways_from, ways_by, next_ways, missing_key, all_taken, walk}
use Rattle.sym_model.specs.Alternatives.{Alternatives, Hold, both, is_empty}
use Rattle.sym_model.proofs.Combined.{both_from, both_parts}
use Rattle.sym_model.specs.Chunks.{IsUnion, StandFor}
use Rattle.sym_model.specs.Lists.{Each, OneOf}
use Rattle.sym_model.specs.Meaning.{location_of, key_of}
use Rattle.sym_model.specs.Pure.{PureSub, gone, PureChunk, done, missed}
use Rattle.sym_model.proofs.ChunkMeaning.{ChunkTerms}
use Rattle.sym_model.proofs.ListLaws.{same_some, not_none, each_append, each_to, each_at, each_flat, one_left, one_right, one_flat}
use Rattle.sym_model.proofs.Unions.{taken_out, put_last}
use Rattle.sym_chunks.proofs.CaseLaws.{IsFor, IsExactCase, made_exact, made_comes, sure_true}
use Rattle.sym_chunks.proofs.Facts.{Fact, each_fact, key_tells}
use Rattle.sym_chunks.proofs.FoundLaws.{none_of_option, at_chunk, lacks_key, key_lacks}

pub each_removed : {A : Type 0} (P : A → Type 0) (xs : List A) (i : ℕ) → Each P xs → Each P (remove_at xs i)
each_removed P [] zero all_hold = tt
each_removed P [] (suc i) all_hold = tt
each_removed P (x ∷ xs) zero all_hold = all_hold.1
each_removed P (x ∷ xs) (suc i) all_hold = (all_hold.0, each_removed P xs i all_hold.1)

cond_cond : (b c : Bool) (o : Option PureValue) → cond b None (cond c None o) ≡ cond (b || c) None o
cond_cond true c o = refl
cond_cond false c o = refl

-- one more key taken
pub one_more_taken : (k : Key) (ks : List Key) (h : Heap) → remove (without_keys ks h) k ≡ without_keys (k ∷ ks) h
one_more_taken k ks h = same_heap _ _ (λ q.
    get-remove key_cmp-total (without_keys ks h) k q
    ∙ ap (cond (key_eq q k) None) (get-without_keys ks h q)
    ∙ cond_cond (key_eq q k) (is_among q ks) (get h q)
    ∙ sym (get-without_keys (k ∷ ks) h q))

pub no_key_taken : (h : Heap) → h ≡ without_keys [] h
no_key_taken h = same_heap _ _ (λ q. sym (get-without_keys [] h q))

taken_or : (b : Bool) (o : Option PureValue) → b ≡ false → cond b None o ≡ o
taken_or true o e = absurd (true≢false e)
taken_or false o e = refl

not_true_false : (b : Bool) → ¬ (b ≡ true) → b ≡ false
not_true_false true other_than = absurd (other_than refl)
not_true_false false other_than = refl

find_first : (h : Heap) (k : Key) (ks : List Key) → get h k ≡ None → first_missing h (k ∷ ks) ≡ Some k
find_first h k ks none = ap (λ o. cond (not (is_some o)) (Some k) (first_missing h ks)) none

find_later : (h : Heap) (k : Key) (ks : List Key) → HasKey h k → first_missing h (k ∷ ks) ≡ first_missing h ks
find_later h k ks has = ap (λ b. cond (not b) (Some k) (first_missing h ks)) has

-- no key stands twice
abbrev pub AreDistinctKeys : List Key → Type 0
AreDistinctKeys [] = ⊤
AreDistinctKeys (k ∷ ks) = (is_among k ks ≡ false) × AreDistinctKeys ks

-- the subkeys of the location stand for the keys
abbrev pub AreKeysOf : List Sort → List PureValue → PureTerm → ℕ → List PureSub → List Key → Type 0
AreKeysOf vars v l b [] [] = ⊤
AreKeysOf vars v l b (s ∷ ss) (k ∷ ks) = (IsKeyOf vars v l s k × (k.loc ≡ b)) × AreKeysOf vars v l b ss ks
AreKeysOf vars v l b ss ks = ⊥

module _ (memory : MemoryName) (vars : List Sort) (v : List PureValue) (h : Heap) (cs : List PureChunk) (stands : StandFor memory cs v h) (proper : IsProper vars v) (loc : PureTerm) (b : ℕ) (asked : IsLocation vars v loc b) (no_gone : get h (key b Gone) ≡ None) (r : ActionResult) (keeps : IsHeapOf memory r.heap) where
  -- what is left where some keys were taken, and others are still to be taken
  pub record Left (rest : List Key) (left : List PureChunk) : Type 0 where
    pub taken : List Key
    pub union : IsUnion v left (without_keys taken h)
    pub of_location : (k : Key) → IsTrue (is_among k taken) → k.loc ≡ b
    pub whole : (s : Sub) → HasKey h (key b s) → IsTrue (is_among (key b s) taken) ⊎ IsTrue (is_among (key b s) rest)
    pub untaken : (k : Key) → IsTrue (is_among k rest) → is_among k taken ≡ false
    pub distinct : AreDistinctKeys rest
    pub result : r ≡ missed_or (first_missing h rest) h (does (boolean true) (disposed b h))

  -- a way that is right: where it is so, its chunks are what is left
  pub record IsRightWay (rest : List Key) (w : PureWay) : Type 0 where
    pub over : Each (ChunkTerms (IsOver vars)) w.left
    pub so : Hold v w.when → Left rest w.left

  pub right_way : (rest : List Key) (x : Alternatives) (left : List PureChunk) → Each (ChunkTerms (IsOver vars)) left → (Hold v x → Left rest left) → Each (IsRightWay rest) (way_of x left)
  right_way rest [] left over so = tt
  right_way rest (conds ∷ x) left over so = (record { over = over; so = so }, tt)

  pub way_so : (x : Alternatives) (left : List PureChunk) → Hold v x → OneOf (λ (w : PureWay). Hold v w.when) (way_of x left)
  way_so [] left holds = absurd holds
  way_so (conds ∷ x) left holds = inl holds

  -- ---- all keys were taken

  all_gone : (left : List PureChunk) (l : Left [] left) (q : Key) → cond (is_among q l.taken) None (get h q) ≡ cond (nat_eq q.loc b) None (get h q)
  all_gone left l q = by_location (nat_eq q.loc b) refl
    where
      kept_none : (c : Bool) (o : Option PureValue) → (c ≡ false → o ≡ None) → cond c None o ≡ None
      kept_none true o none = refl
      kept_none false o none = none refl

      by_location : (c : Bool) → nat_eq q.loc b ≡ c → cond (is_among q l.taken) None (get h q) ≡ cond c None (get h q)
      by_location true is =
          let at_b : key b q.sub ≡ q = ap (λ m. key m q.sub) (sym ((Decides-eqb q.loc b).0 is)) in
          kept_none (is_among q l.taken) (get h q) (λ untaken. none_of_option (get h q) (λ has.
          true≢false (sym (⊎_elim (λ e. ap (λ m. is_among m l.taken) (sym at_b) ∙ e) (λ e. absurd (true≢false (sym e))) (l.whole q.sub (subst (HasKey h) (sym at_b) has))) ∙ untaken)))
      by_location false is = taken_or (is_among q l.taken) (get h q) (not_true_false (is_among q l.taken) (λ among. true≢false (sym ((Decides-eqb q.loc b).1 (l.of_location q among)) ∙ is)))

  abbrev gone_there : PureChunk
  gone_there = record { loc = loc; sub = gone; val = true_term }

  -- chunks that stand for the heap without the location, and the one that says that it is gone
  pub disposed_stands : (left : List PureChunk) → IsUnion v left (without_location b h) → r ≡ does (boolean true) (disposed b h) → IsFor memory v r (left ++ gone_there ∷ []) (done true_term)
  disposed_stands left union e =
      let lacks : ¬ HasKey (without_location b h) (key b Gone) = (λ has. true≢false (sym has ∙ ap is_some (get-without_location b h (key b Gone) ∙ none_after (nat_eq b b) (get h (key b Gone)) no_gone))) in
      subst (λ x. IsFor memory v x (left ++ gone_there ∷ []) (done true_term)) (sym e) (
        refl,
        record {
          union = put_last v left (without_location b h) gone_there (key b Gone) (boolean true) union (record { at = ap (λ o. key_of (location_of o) (Some Gone)) asked.is; holds = refl }) lacks;
          is_heap = subst (λ (x : ActionResult). IsHeapOf memory x.heap) e keeps;
        },
      )
    where
      none_after : (c : Bool) (o : Option PureValue) → o ≡ None → cond c None o ≡ None
      none_after true o none = refl
      none_after false o none = none

  taken_for : (w : PureWay) → IsRightWay [] w → Hold v w.when → IsFor memory v r (w.left ++ gone_there ∷ []) (done true_term)
  taken_for w right holds =
      let l = right.so holds in
      disposed_stands w.left (subst (IsUnion v w.left) (same_heap _ _ (λ q. get-without_keys l.taken h q ∙ all_gone w.left l q ∙ sym (get-without_location b h q))) l.union) l.result

  -- ---- one key

  module _ (s : PureSub) (k : Key) (asked_key : IsKeyOf vars v loc s k) (at_b : k.loc ≡ b) (ks : List Key) (w : PureWay) (right : IsRightWay (k ∷ ks) w) where
    here_among : IsTrue (is_among k (k ∷ ks))
    here_among = or_first (key_eq k k) (is_among k ks) (itself k)

    same_get : (l : Left (k ∷ ks) w.left) → get (without_keys l.taken h) k ≡ get h k
    same_get l = get-without_keys l.taken h k ∙ taken_or (is_among k l.taken) (get h k) (l.untaken k here_among)

    facts_left : (l : Left (k ∷ ks) w.left) → Each (Fact vars v (without_keys l.taken h)) w.left
    facts_left l = each_fact vars v (without_keys l.taken h) w.left l.union right.over

    missing_for : Hold v (both w.when (all_by_place loc (λ c. other_sub s c.sub) w.left)) → IsFor memory v r cs (missed (record { loc = loc; sub = s }))
    missing_for holds =
        let parts = both_parts v w.when (all_by_place loc (λ c. other_sub s c.sub) w.left) holds in
        let l = right.so parts.0 in
        let none : get h k ≡ None = sym (same_get l) ∙ lacks_key vars v (without_keys l.taken h) proper w.left l.union (facts_left l) loc s k asked_key parts.1 in
        let e : r ≡ misses k h = l.result ∙ ap (λ o. missed_or o h (does (boolean true) (disposed b h))) (find_first h k ks none) in
        subst (λ x. IsFor memory v x cs (missed (record { loc = loc; sub = s }))) (sym e) (asked_key.is, stands)

    -- the key's chunk taken out
    module _ (i : ℕ) (c : PureChunk) (there : slice_get w.left i ≡ Some c) where
      next_left : Hold v w.when → Hold v (at_key loc s c) → Left ks (remove_at w.left i)
      next_left holds is_key =
          let l = right.so holds in
          let f = each_at (Fact vars v (without_keys l.taken h)) w.left i c (facts_left l) there in
          let e : f.k ≡ k = (key_tells vars v (without_keys l.taken h) proper c f loc s k asked_key).0 is_key in
          let has : HasKey h k = subst IsSome (same_get l) (has_key (without_keys l.taken h) k f.w (subst (λ q. Holds (without_keys l.taken h) q f.w) e f.held)) in
          record {
            taken = k ∷ l.taken;
            union = subst (IsUnion v (remove_at w.left i)) (ap (remove (without_keys l.taken h)) e ∙ one_more_taken k l.taken h)
                (taken_out v w.left (without_keys l.taken h) i c f.k f.w l.union there f.entry);
            of_location = λ q among. ⊎_elim (λ here. ap (λ (m : Key). m.loc) (same_key q k here) ∙ at_b) (l.of_location q) (or_of (key_eq q k) (is_among q l.taken) among);
            whole = λ t there_is. ⊎_elim
                (λ earlier. inl (or_second (key_eq (key b t) k) (is_among (key b t) l.taken) earlier))
                (λ later. ⊎_elim (λ here. inl (or_first (key_eq (key b t) k) (is_among (key b t) l.taken) here)) inr (or_of (key_eq (key b t) k) (is_among (key b t) ks) later))
                (l.whole t there_is);
            untaken = λ q among. not_true_false (key_eq q k || is_among q l.taken) (λ is_taken. ⊎_elim
                (λ here. true≢false (sym among ∙ ap (λ m. is_among m ks) (same_key q k here) ∙ l.distinct.0))
                (λ earlier. true≢false (sym earlier ∙ l.untaken q (or_second (key_eq q k) (is_among q ks) among)))
                (or_of (key_eq q k) (is_among q l.taken) is_taken));
            distinct = l.distinct.1;
            result = l.result ∙ ap (λ o. missed_or o h (does (boolean true) (disposed b h))) (find_later h k ks has);
          }

    each_next : (i : ℕ) (ds : List PureChunk) → ((j : ℕ) (c : PureChunk) → slice_get ds j ≡ Some c → slice_get w.left (i + j) ≡ Some c) → Each (IsRightWay ks) (ways_from loc s w i ds)
    each_next i [] places = tt
    each_next i (c ∷ ds) places =
        let there : slice_get w.left i ≡ Some c = ap (slice_get w.left) (omega arith) ∙ places 0 c refl in
        each_append (IsRightWay ks) (way_of (both w.when (at_key loc s c)) (remove_at w.left i)) (ways_from loc s w (i + 1) ds)
        (right_way ks (both w.when (at_key loc s c)) (remove_at w.left i) (each_removed (ChunkTerms (IsOver vars)) w.left i right.over)
        (λ holds. let parts = both_parts v w.when (at_key loc s c) holds in next_left i c there parts.0 parts.1))
        (each_next (i + 1) ds (λ j e at. ap (slice_get w.left) (omega arith) ∙ places (suc j) e at))

    -- the chunk that surely is that of the key
    sure_if : (i : ℕ) (c : PureChunk) (ds : List PureChunk) (j : ℕ) (sure : Bool) → list_any is_empty (at_key loc s c) ≡ sure → (if sure then Some i else sure_place loc s (i + 1) ds) ≡ Some j → ((list_any is_empty (at_key loc s c) ≡ true) × (i ≡ j)) ⊎ (sure_place loc s (i + 1) ds ≡ Some j)
    sure_if i c ds j true is e = inl (is, same_some e)
    sure_if i c ds j false is e = inr e

    sure_chunk : {X : Type 0} (i : ℕ) (ds : List PureChunk) (j : ℕ) → ((m : ℕ) (c : PureChunk) → slice_get ds m ≡ Some c → slice_get w.left (i + m) ≡ Some c) → sure_place loc s i ds ≡ Some j → ((c : PureChunk) → slice_get w.left j ≡ Some c → Hold v (at_key loc s c) → X) → X
    sure_chunk i [] j places is use_it = not_none is
    sure_chunk i (c ∷ ds) j places is use_it =
        ⊎_elim
        (λ (sure, e). use_it c (ap (slice_get w.left) (sym e ∙ omega arith) ∙ places 0 c refl) (sure_true v (at_key loc s c) sure))
        (λ later. sure_chunk (i + 1) ds j (λ m d at. ap (slice_get w.left) (omega arith) ∙ places (suc m) d at) later use_it)
        (sure_if i c ds j (list_any is_empty (at_key loc s c)) refl is)

    by_sure : (o : Option ℕ) → sure_place loc s 0 w.left ≡ o → Each (IsRightWay ks) (ways_by loc s w o)
    by_sure None is = each_next 0 w.left (λ j c at. ap (slice_get w.left) (omega arith) ∙ at)
    by_sure (Some i) is =
        right_way ks w.when (remove_at w.left i) (each_removed (ChunkTerms (IsOver vars)) w.left i right.over)
        (λ holds. sure_chunk 0 w.left i (λ j c at. ap (slice_get w.left) (omega arith) ∙ at) is (λ c there is_key. next_left i c there holds is_key))

    pub next_are_right : Each (IsRightWay ks) (next_ways loc s w)
    next_are_right = by_sure (sure_place loc s 0 w.left) refl

    -- one of the next ways is so, or the key is missing
    next_so : (i : ℕ) (ds : List PureChunk) (j : ℕ) (c : PureChunk) → slice_get ds j ≡ Some c → Hold v (both w.when (at_key loc s c)) → OneOf (λ (t : PureWay). Hold v t.when) (ways_from loc s w i ds)
    next_so i [] j c there holds = not_none there
    next_so i (e ∷ ds) zero c there holds =
        one_left (λ (t : PureWay). Hold v t.when) (way_of (both w.when (at_key loc s e)) (remove_at w.left i)) (ways_from loc s w (i + 1) ds)
        (way_so (both w.when (at_key loc s e)) (remove_at w.left i) (subst (λ z. Hold v (both w.when (at_key loc s z))) (sym (same_some there)) holds))
    next_so i (e ∷ ds) (suc j) c there holds =
        one_right (λ (t : PureWay). Hold v t.when) (way_of (both w.when (at_key loc s e)) (remove_at w.left i)) (ways_from loc s w (i + 1) ds) (next_so (i + 1) ds j c there holds)

    so_by : Hold v w.when → (i : ℕ) (c : PureChunk) → slice_get w.left i ≡ Some c → Hold v (at_key loc s c) → (o : Option ℕ) → OneOf (λ (t : PureWay). Hold v t.when) (ways_by loc s w o)
    so_by holds i c there is_key None = next_so 0 w.left i c there (both_from v w.when (at_key loc s c) holds is_key)
    so_by holds i c there is_key (Some j) = way_so w.when (remove_at w.left j) holds

    by_held : Hold v w.when → (l : Left (k ∷ ks) w.left) → (o : Option PureValue) → get (without_keys l.taken h) k ≡ o → OneOf (λ d. Hold v d.when) (missing_key cs loc s w) ⊎ OneOf (λ (t : PureWay). Hold v t.when) (next_ways loc s w)
    by_held holds l (Some u) is =
        at_chunk vars v (without_keys l.taken h) proper w.left l.union (facts_left l) k u is (λ i c f there e val.
        inr (so_by holds i c there ((key_tells vars v (without_keys l.taken h) proper c f loc s k asked_key).1 e) (sure_place loc s 0 w.left)))
    by_held holds l None is =
        inl (made_comes v (both w.when (all_by_place loc (λ c. other_sub s c.sub) w.left)) cs (missed (record { loc = loc; sub = s }))
        (both_from v w.when (all_by_place loc (λ c. other_sub s c.sub) w.left) holds (key_lacks vars v (without_keys l.taken h) proper w.left l.union (facts_left l) loc s k asked_key is)))

    pub missing_or_next : Hold v w.when → OneOf (λ d. Hold v d.when) (missing_key cs loc s w) ⊎ OneOf (λ (t : PureWay). Hold v t.when) (next_ways loc s w)
    missing_or_next holds = let l = right.so holds in by_held holds l (get (without_keys l.taken h) k) refl

  -- ---- all keys

  pub walk_exact : (ss : List PureSub) (ks : List Key) → AreKeysOf vars v loc b ss ks → (ws : List PureWay) → Each (IsRightWay ks) ws → Each (IsExactCase memory v r) (walk cs loc ss ws)
  walk_exact [] [] are ws right =
      each_flat (IsExactCase memory v r) (all_taken loc) ws
      (each_to (IsRightWay []) (λ w. Each (IsExactCase memory v r) (all_taken loc w)) ws
      (λ w is. made_exact memory v r w.when (w.left ++ gone_there ∷ []) (done true_term) (inr (taken_for w is))) right)
  walk_exact (s ∷ ss) (k ∷ ks) are ws right =
      each_append (IsExactCase memory v r) (flat_map (missing_key cs loc s) ws) (walk cs loc ss (flat_map (next_ways loc s) ws))
      (each_flat (IsExactCase memory v r) (missing_key cs loc s) ws (each_to (IsRightWay (k ∷ ks)) (λ w. Each (IsExactCase memory v r) (missing_key cs loc s w)) ws
      (λ w is. made_exact memory v r (both w.when (all_by_place loc (λ c. other_sub s c.sub) w.left)) cs (missed (record { loc = loc; sub = s })) (inr (missing_for s k are.0.0 are.0.1 ks w is))) right))
      (walk_exact ss ks are.1 (flat_map (next_ways loc s) ws)
      (each_flat (IsRightWay ks) (next_ways loc s) ws (each_to (IsRightWay (k ∷ ks)) (λ w. Each (IsRightWay ks) (next_ways loc s w)) ws (λ w is. next_are_right s k are.0.0 are.0.1 ks w is) right)))
  walk_exact [] (k ∷ ks) are ws right = absurd are
  walk_exact (s ∷ ss) [] are ws right = absurd are

  taken_one : (ws : List PureWay) → OneOf (λ (w : PureWay). Hold v w.when) ws → OneOf (λ w. OneOf (λ d. Hold v d.when) (all_taken loc w)) ws
  taken_one [] one = absurd one
  taken_one (w ∷ ws) one = ⊎_elim (λ here. inl (made_comes v w.when (w.left ++ gone_there ∷ []) (done true_term) here)) (λ later. inr (taken_one ws later)) one

  missing_or_one : (s : PureSub) (k : Key) → IsKeyOf vars v loc s k → k.loc ≡ b → (ks : List Key) (ws : List PureWay) → Each (IsRightWay (k ∷ ks)) ws → OneOf (λ (w : PureWay). Hold v w.when) ws → OneOf (λ w. OneOf (λ d. Hold v d.when) (missing_key cs loc s w)) ws ⊎ OneOf (λ w. OneOf (λ (t : PureWay). Hold v t.when) (next_ways loc s w)) ws
  missing_or_one s k asked_key at_b ks [] right one = absurd one
  missing_or_one s k asked_key at_b ks (w ∷ ws) right one =
      ⊎_elim
      (λ here. ⊎_elim (λ missing. inl (inl missing)) (λ next. inr (inl next)) (missing_or_next s k asked_key at_b ks w right.0 here))
      (λ later. ⊎_elim (λ missing. inl (inr missing)) (λ next. inr (inr next)) (missing_or_one s k asked_key at_b ks ws right.1 later))
      one

  pub walk_comes : (ss : List PureSub) (ks : List Key) → AreKeysOf vars v loc b ss ks → (ws : List PureWay) → Each (IsRightWay ks) ws → OneOf (λ (w : PureWay). Hold v w.when) ws → OneOf (λ d. Hold v d.when) (walk cs loc ss ws)
  walk_comes [] [] are ws right so = one_flat (λ d. Hold v d.when) (all_taken loc) ws (taken_one ws so)
  walk_comes (s ∷ ss) (k ∷ ks) are ws right so =
      ⊎_elim
      (λ missing. one_left (λ d. Hold v d.when) (flat_map (missing_key cs loc s) ws) (walk cs loc ss (flat_map (next_ways loc s) ws)) (one_flat (λ d. Hold v d.when) (missing_key cs loc s) ws missing))
      (λ next. one_right (λ d. Hold v d.when) (flat_map (missing_key cs loc s) ws) (walk cs loc ss (flat_map (next_ways loc s) ws))
      (walk_comes ss ks are.1 (flat_map (next_ways loc s) ws)
      (each_flat (IsRightWay ks) (next_ways loc s) ws (each_to (IsRightWay (k ∷ ks)) (λ w. Each (IsRightWay ks) (next_ways loc s w)) ws (λ w is. next_are_right s k are.0.0 are.0.1 ks w is) right))
      (one_flat (λ (t : PureWay). Hold v t.when) (next_ways loc s) ws next)))
      (missing_or_one s k are.0.0 are.0.1 ks ws right so)
  walk_comes [] (k ∷ ks) are ws right so = absurd are
  walk_comes (s ∷ ss) [] are ws right so = absurd are
