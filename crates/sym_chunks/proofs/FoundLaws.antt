-- The chunks of a list that are found by a key, and those of a location, where the list stands for a heap.
use Rattle.std.proofs.Common.{◌≡◌, inr, ℕ, zero, suc, ◌+◌, List, [], ◌∷◌, Option, Some, None, IsSome, IsTrue, is_some, slice_get, refl, sym, ap, subst, ◌∙◌, true≢false, arith}
use Rattle.std.specs.FinMap.{get}
use Rattle.gil_values.specs.Pure.{PureValue, symbol}
use Rattle.mem_model.specs.declared.keys.Key.{Key}
use Rattle.mem_model.specs.declared.keys.MemoryName.{MemoryName}
use Rattle.mem_model.specs.Actions.{ActionResult}
use Rattle.mem_model.specs.Heaps.{Heap, Holds}
use Rattle.mem_model.proofs.Joins.{value_at}
use Rattle.pure_terms.specs.declared.variables.Sort.{Sort}
use Rattle.pure_terms.specs.Meaning.{value, all_true, IsProper}
use Rattle.pure_terms.specs.Pure.{PureTerm}
use Rattle.sym_chunks.specs.ByPlace.{all_by_place}
use Rattle.sym_chunks.specs.Cases.{PureAccess, accessed, given_back, case_of, found_from, found}
use Rattle.sym_chunks.specs.Keys.{other_sub, at_key}
use Rattle.sym_chunks.specs.Laws.{IsLocation, IsKeyOf}
use Rattle.sym_model.specs.Alternatives.{Alternatives, Hold, any}
use Rattle.sym_model.specs.Chunks.{IsUnion}
use Rattle.sym_model.specs.Lists.{Each, OneOf}
use Rattle.sym_model.specs.Pure.{PureSub, PureChunk}
use Rattle.sym_model.proofs.ChunkMeaning.{loc_value}
use Rattle.sym_model.proofs.ListLaws.{same_some, not_none, each_append, each_to, each_at, each_by_place, one_left, one_right, one_at, one_with, one_flat, one_flattened}
use Rattle.sym_model.proofs.Unions.{found_chunk, same_entry}
use Rattle.sym_chunks.proofs.CaseLaws.{IsFor, IsExactCase, made_exact, made_comes}
use Rattle.sym_chunks.proofs.Facts.{Fact, fact_loc, key_tells, sub_tells, keys_equal, same_symbols}
use Rattle.sym_chunks.proofs.PlaceLaws.{told_places}

pub none_of_option : {X : Type 0} (o : Option X) → ¬ IsSome o → o ≡ None
none_of_option None lacks_it = refl
none_of_option (Some x) lacks_it = absurd (lacks_it refl)

module _ (vars : List Sort) (v : List PureValue) (h : Heap) (proper : IsProper vars v) (cs : List PureChunk) (union : IsUnion v cs h) (facts : Each (Fact vars v h) cs) where
  -- what the heap holds is that of a chunk with a fact
  pub at_chunk : {X : Type 0} (k : Key) (w : PureValue) → Holds h k w → ((i : ℕ) (c : PureChunk) (f : Fact vars v h c) → slice_get cs i ≡ Some c → f.k ≡ k → f.w ≡ w → X) → X
  at_chunk k w holds use_it =
      let (i, (c, (there, entry))) = found_chunk v cs h k w union holds in
      let f = each_at (Fact vars v h) cs i c facts there in
      let alike = same_entry v c f.k k f.w w f.entry entry in
      use_it i c f there alike.0 alike.1

  pub held_at : (c : PureChunk) (f : Fact vars v h c) (k : Key) → f.k ≡ k → Holds h k f.w
  held_at c f k e = subst (λ q. Holds h q f.w) e f.held

  -- ---- a location

  module _ (l : PureTerm) (a : ℕ) (asked : IsLocation vars v l a) (f : PureChunk → Alternatives) where
    somewhere : Each (λ c. (b : ℕ) × IsLocation vars v c.loc b) cs
    somewhere = each_to (Fact vars v h) (λ c. (b : ℕ) × IsLocation vars v c.loc b) cs (λ c fact. (fact.k.loc, fact_loc vars v h c fact)) facts

    pub by_place_parts : Hold v (all_by_place l f cs) → (i : ℕ) (c : PureChunk) (fact : Fact vars v h c) → slice_get cs i ≡ Some c → fact.k.loc ≡ a → Hold v (f c)
    by_place_parts holds i c fact there e =
        each_at (λ d. value v d.loc ≡ Some (symbol a) → Hold v (f d)) cs i c ((told_places vars v proper l a asked f cs somewhere).0 holds) there
        ((fact_loc vars v h c fact).is ∙ ap (λ n. Some (symbol n)) e)

    pub by_place_from : ((i : ℕ) (c : PureChunk) (fact : Fact vars v h c) → slice_get cs i ≡ Some c → fact.k.loc ≡ a → Hold v (f c)) → Hold v (all_by_place l f cs)
    by_place_from is =
        (told_places vars v proper l a asked f cs somewhere).1
        (each_by_place (λ d. value v d.loc ≡ Some (symbol a) → Hold v (f d)) cs
        (λ i c there lies. let fact = each_at (Fact vars v h) cs i c facts there in is i c fact there (same_symbols (same_some (sym (fact_loc vars v h c fact).is ∙ lies)))))

  -- ---- a key

  module _ (l : PureTerm) (s : PureSub) (k : Key) (asked : IsKeyOf vars v l s k) where
    pub key_location : IsLocation vars v l k.loc
    key_location = record { over = asked.over_loc; is = loc_value v l s k asked.is }

    pub any_key : Hold v (any (at_key l s) cs) → (w : PureValue) × Holds h k w
    any_key holds =
        one_with (Fact vars v h) (λ c. Hold v (at_key l s c)) cs facts
        (one_flattened (λ conds. IsTrue (all_true v conds)) (at_key l s) cs holds)
        (λ c f here. (f.w, held_at c f k ((key_tells vars v h proper c f l s k asked).0 here)))

    pub key_any : (w : PureValue) → Holds h k w → Hold v (any (at_key l s) cs)
    key_any w holds = at_chunk k w holds (λ i c f there e is.
        one_flat (λ conds. IsTrue (all_true v conds)) (at_key l s) cs
        (one_at (λ d. Hold v (at_key l s d)) cs i c there ((key_tells vars v h proper c f l s k asked).1 e)))

    -- no chunk of the location has the subkey exactly where the heap lacks the key
    pub lacks_key : Hold v (all_by_place l (λ c. other_sub s c.sub) cs) → get h k ≡ None
    lacks_key holds = none_of_option (get h k) (λ has.
        let (w, held) = value_at h k has in
        at_chunk k w held (λ i c f there e is.
        (sub_tells vars v h proper c f l s k asked).0 (by_place_parts l k.loc key_location (λ d. other_sub s d.sub) holds i c f there (ap (λ (q : Key). q.loc) e)) (ap (λ (q : Key). q.sub) e)))

    pub key_lacks : get h k ≡ None → Hold v (all_by_place l (λ c. other_sub s c.sub) cs)
    key_lacks none = by_place_from l k.loc key_location (λ d. other_sub s d.sub) (λ i c f there e.
        (sub_tells vars v h proper c f l s k asked).1 (λ sub. true≢false (sym (ap is_some (held_at c f k (keys_equal f.k k.loc k.sub e sub))) ∙ ap is_some none)))

    -- the cases of the chunks that are found
    module _ (memory : MemoryName) (r : ActionResult) (a : PureAccess) (is : (i : ℕ) (c : PureChunk) (f : Fact vars v h c) → slice_get cs i ≡ Some c → f.k ≡ k → IsFor memory v r (accessed a cs i) (given_back a c)) where
      from_exact : (i : ℕ) (ds : List PureChunk) → ((j : ℕ) (c : PureChunk) → slice_get ds j ≡ Some c → slice_get cs (i + j) ≡ Some c) → Each (IsExactCase memory v r) (found_from a l s cs i ds)
      from_exact i [] places = tt
      from_exact i (c ∷ ds) places =
          let there : slice_get cs i ≡ Some c = ap (slice_get cs) (omega arith) ∙ places 0 c refl in
          let f = each_at (Fact vars v h) cs i c facts there in
          each_append (IsExactCase memory v r) (case_of (at_key l s c) (accessed a cs i) (given_back a c)) (found_from a l s cs (i + 1) ds)
          (made_exact memory v r (at_key l s c) (accessed a cs i) (given_back a c) (inr (λ holds. is i c f there ((key_tells vars v h proper c f l s k asked).0 holds))))
          (from_exact (i + 1) ds (λ j d at. ap (slice_get cs) (omega arith) ∙ places (suc j) d at))

      pub found_exact : Each (IsExactCase memory v r) (found a l s cs)
      found_exact = from_exact 0 cs (λ j c at. ap (slice_get cs) (omega arith) ∙ at)

    from_comes : (a : PureAccess) (i : ℕ) (ds : List PureChunk) (j : ℕ) (c : PureChunk) → slice_get ds j ≡ Some c → Hold v (at_key l s c) → OneOf (λ d. Hold v d.when) (found_from a l s cs i ds)
    from_comes a i [] j c there holds = not_none there
    from_comes a i (d ∷ ds) zero c there holds =
        one_left (λ d. Hold v d.when) (case_of (at_key l s d) (accessed a cs i) (given_back a d)) (found_from a l s cs (i + 1) ds)
        (made_comes v (at_key l s d) (accessed a cs i) (given_back a d) (subst (λ e. Hold v (at_key l s e)) (sym (same_some there)) holds))
    from_comes a i (d ∷ ds) (suc j) c there holds =
        one_right (λ d. Hold v d.when) (case_of (at_key l s d) (accessed a cs i) (given_back a d)) (found_from a l s cs (i + 1) ds) (from_comes a (i + 1) ds j c there holds)

    pub found_comes : (a : PureAccess) (w : PureValue) → Holds h k w → OneOf (λ d. Hold v d.when) (found a l s cs)
    found_comes a w held = at_chunk k w held (λ i c f there e is. from_comes a 0 cs i c there ((key_tells vars v h proper c f l s k asked).1 e))
