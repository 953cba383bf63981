-- The branches of consuming a key keep the laws of consumption.
use Rattle.std.proofs.Common.{◌≡◌, ◌⊎◌, ⊎_elim, inl, inr, ℕ, suc, ◌+◌, ℤ, pos, ◌-ℤ◌, ◌+ℤ◌, ◌≤ℤ◌, List, [], ◌∷◌, ◌++◌, Bool, true, false, not, ◌&&◌, ◌||◌, if◌then◌else◌, Option, Some, None, IsTrue, IsSome, is_some, slice_get, refl, sym, ap, subst, ◌∙◌, true≢false, arith}
use Rattle.std.specs.FinMap.{get, remove as remove_key}
use Rattle.std.specs.List.{remove, list_any, flat_map}
use Rattle.std.proofs.lemmas.List.Elements.{Contains-append_cases}
use Rattle.std.specs.Prelude.{⊤}
use Rattle.gil_values.proofs.OperatorSymbols.{none_contained}
use Rattle.gil_values.specs.Pure.{PureValue, symbol, boolean}
use Rattle.core_changes.specs.Consuming.{key_given, consumed_cases, consumed, consumed_by, ConsumeChunks, Consume}
use Rattle.core_changes.proofs.ConsumeNarrow.{consumes_narrowly}
use Rattle.core_changes.proofs.EntryLaws.{GivesKey, gives_key, entry_at, entry_key, outs_have}
use Rattle.core_changes.proofs.KeyLaws.{HaveValues, told_key, no_key_lacks}
use Rattle.core_uses.specs.Kept.{IsKept, AreKept}
use Rattle.core_uses.specs.Uses.{outs_at}
use Rattle.core_uses.proofs.ListingLaws.{one_of, two_of, key_parts}
use Rattle.mem_model.specs.declared.cores.Core.{Core}
use Rattle.mem_model.specs.declared.keys.Key.{Key}
use Rattle.mem_model.specs.declared.keys.MemoryName.{MemoryName}
use Rattle.mem_model.specs.declared.keys.Sub.TheVariants.{Gone}
use Rattle.mem_model.specs.CoreNames.{core_of, has_core}
use Rattle.mem_model.specs.Cores.{entry_of, entry_named, core_entry}
use Rattle.mem_model.specs.Heaps.{Heap, Holds, HasKey, IsHeapOf}
use Rattle.mem_model.specs.Keys.{key}
use Rattle.mem_model.proofs.CoreLaws.{one_key_more_is_heap, one_key_more_is_union}
use Rattle.mem_model.proofs.Joins.{value_at, has_key}
use Rattle.pure_terms.specs.declared.variables.Sort.{Sort}
use Rattle.pure_terms.specs.declared.variables.Var.{Var}
use Rattle.pure_terms.specs.Meaning.{value, values, all_true, IsProper, IsOver}
use Rattle.pure_terms.specs.Pure.{PureTerm, list_of, from_list, PureAtom, positive, negative, opening, variables}
use Rattle.sym_chunks.specs.ByPlace.{all_by_place}
use Rattle.sym_chunks.specs.Cases.{ChunkBranches, PureCase, case_of, choose, choose_by, case_branches, sure_case, branches_of, takes, outs_listed, outs_term, found_from, found}
use Rattle.sym_chunks.specs.Keys.{same_sub, other_sub, at_key}
use Rattle.sym_chunks.specs.Laws.{IsKeyOf}
use Rattle.sym_chunks.proofs.CaseLaws.{Branch, IsTaken, chosen, chosen_taken, made_comes, each_every}
use Rattle.sym_chunks.proofs.Facts.{Fact, each_fact, keys_equal}
use Rattle.sym_chunks.proofs.FoundLaws.{lacks_key, key_lacks, found_comes}
use Rattle.sym_chunks.proofs.Readings.{own_reading, made_state, own_sides, over_reading, over_state, over_sides, plain_parts, plain_reading, plain_state, plain_sides, state_plain, AnyAtom, KeptAt, loose_state, loose_sides, kept_reading, any_term, closed_reading, closed_sides, NoOpen, positive_closed, negative_closed, shaped_terms, shaped_conds, shaped_named}
use Rattle.sym_chunks.proofs.Shapes.{Reading, ChunkSides, IsFine, IsFineState, IsFineCase, Shaped, fine_terms, fine_case, chosen_shaped, found_shaped, by_place_shaped, side_sub}
use Rattle.sym_model.specs.Alternatives.{Alternatives, Hold, always, both, same, is_empty, settled}
use Rattle.sym_model.proofs.Combined.{both_parts, always_true}
use Rattle.sym_model.specs.Chunks.{IsUnion, StandFor, terms_of}
use Rattle.sym_model.specs.CoreLaws.{ConsumeLaw, ConsumesPlainly, IsConsumed, IsTaken as IsTakenOut, IsNoFailure}
use Rattle.sym_model.specs.Cores.{core_of_sub, IsSubOf, TakesIns, consume_asks}
use Rattle.sym_model.specs.Laws.{Serves, IsPlainWithin, growth}
use Rattle.sym_model.specs.Lists.{Each, OneOf, IsAmong}
use Rattle.sym_model.specs.Meaning.{has_open, is_open, sub_value, key_value}
use Rattle.sym_model.specs.Plain.{IsPlainState}
use Rattle.sym_model.specs.Pure.{PureSub, named, cell, shape, bound, dom, proto, gone, PureKey, PureChunk, PureResult, sub_terms, done, missed}
use Rattle.sym_model.specs.Terms.{all_of, AreEachOver, IsMadeOf, is_given, asked_of}
use Rattle.sym_model.proofs.Asking.{both_parts as both_values}
use Rattle.sym_model.proofs.ChunkMeaning.{ChunkTerms, chunk_by_chunk, chunk_val}
use Rattle.sym_model.proofs.ListLaws.{same_some, not_none, each_append, each_to, each_map, each_flat, each_at, each_left, each_right, each_is_among, one_left, one_right}
use Rattle.sym_model.proofs.MadeLaws.{made_of_given}
use Rattle.sym_model.proofs.PlainLaws.{plain_wider}
use Rattle.sym_model.proofs.Unions.{taken_out}

-- ---- the outs

outs_are : (s : PureSub) (t : PureTerm) → outs_term s t ≡ list_of (from_list (outs_at s t))
outs_are (named p) t = refl
outs_are (cell p) t = refl
outs_are shape t = refl
outs_are bound t = refl
outs_are dom t = refl
outs_are proto t = refl
outs_are gone t = refl

outs_alike : (v : List PureValue) (s u : PureSub) (t : PureTerm) → Hold v (same_sub s u) → outs_at s t ≡ outs_at u t
outs_alike v (named p) (named q) t holds = refl
outs_alike v (cell p) (cell q) t holds = refl
outs_alike v shape shape t holds = refl
outs_alike v bound bound t holds = refl
outs_alike v dom dom t holds = refl
outs_alike v proto proto t holds = refl
outs_alike v gone gone t holds = refl
outs_alike v s u t holds = absurd holds

-- the list of the outs of a chunk, where lists of what it holds are fine
listed_fine : (P : PureTerm → Type 0) → P (list_of (from_list [])) → ((t : PureTerm) → P t → P (list_of (from_list (t ∷ [])))) → (s : PureSub) (t : PureTerm) → P t → P (outs_term s t)
listed_fine P none one (named p) t is = one t is
listed_fine P none one (cell p) t is = one t is
listed_fine P none one shape t is = one t is
listed_fine P none one bound t is = one t is
listed_fine P none one dom t is = one t is
listed_fine P none one proto t is = one t is
listed_fine P none one gone t is = none

-- ---- cases

-- what holds of the state and the result of each case holds of the branches that are chosen
module _ (P : List PureChunk → PureResult → Type 0) (when : Alternatives) where
  abbrev OfCase : PureCase → Type 0
  OfCase c = P c.after c.result

  abbrev OfBranch : Branch → Type 0
  OfBranch b = P b.state b.result

  of_branches : (x : Alternatives) (cs : List PureChunk) (r : PureResult) → P cs r → Each OfBranch (branches_of x cs r)
  of_branches x cs r is = each_map OfBranch (λ conds. record { conds = conds; state = cs; result = r }) (settled x) (each_every (λ conds. P cs r) (λ conds. is) (settled x))

  first_if : (b : Bool) (d : PureCase) (o : Option PureCase) (c : PureCase) → OfCase d → (o ≡ Some c → OfCase c) → (if b then Some d else o) ≡ Some c → OfCase c
  first_if true d o c here later e = subst OfCase (same_some e) here
  first_if false d o c here later e = later e

  of_sure : (cases : List PureCase) → Each OfCase cases → (c : PureCase) → sure_case cases ≡ Some c → OfCase c
  of_sure [] each c is = not_none is
  of_sure (d ∷ cases) each c is = first_if (list_any is_empty d.when) d (sure_case cases) c each.0 (of_sure cases each.1 c) is

  by_sure : (cases : List PureCase) → Each OfCase cases → (o : Option PureCase) → sure_case cases ≡ o → Each OfBranch (choose_by when cases o)
  by_sure cases each None is = each_flat OfBranch (case_branches when) cases (each_to OfCase (λ c. Each OfBranch (case_branches when c)) cases (λ c of. of_branches (both when c.when) c.after c.result of) each)
  by_sure cases each (Some c) is = of_branches when c.after c.result (of_sure cases each c is)

  chosen_of : (cases : List PureCase) → Each OfCase cases → Each OfBranch (choose when cases)
  chosen_of cases each = by_sure cases each (sure_case cases) refl

  of_case : (x : Alternatives) (cs : List PureChunk) (r : PureResult) → P cs r → Each OfCase (case_of x cs r)
  of_case [] cs r is = tt
  of_case (conds ∷ x) cs r is = (is, tt)

-- where the case comes
case_holds : (v : List PureValue) (P : List PureChunk → PureResult → Type 0) (x : Alternatives) (cs : List PureChunk) (r : PureResult) → (Hold v x → P cs r) → Each (λ c. Hold v c.when → P c.after c.result) (case_of x cs r)
case_holds v P [] cs r is = tt
case_holds v P (conds ∷ x) cs r is = (is, tt)

-- the chunks that are found, by their places
module _ (v : List PureValue) (P : List PureChunk → PureResult → Type 0) (l : PureTerm) (s : PureSub) (cs : List PureChunk) (is : (i : ℕ) (c : PureChunk) → slice_get cs i ≡ Some c → Hold v (at_key l s c) → P (remove cs i) (done (outs_listed c))) where
  from_holds : (i : ℕ) (ds : List PureChunk) → ((j : ℕ) (c : PureChunk) → slice_get ds j ≡ Some c → slice_get cs (i + j) ≡ Some c) → Each (λ c. Hold v c.when → P c.after c.result) (found_from takes l s cs i ds)
  from_holds i [] places = tt
  from_holds i (c ∷ ds) places =
      each_append (λ d. Hold v d.when → P d.after d.result) (case_of (at_key l s c) (remove cs i) (done (outs_listed c))) (found_from takes l s cs (i + 1) ds)
      (case_holds v P (at_key l s c) (remove cs i) (done (outs_listed c)) (is i c (ap (slice_get cs) (omega arith) ∙ places 0 c refl)))
      (from_holds (i + 1) ds (λ j d at. ap (slice_get cs) (omega arith) ∙ places (suc j) d at))

  found_holds : Each (λ c. Hold v c.when → P c.after c.result) (found takes l s cs)
  found_holds = from_holds 0 cs (λ j c at. ap (slice_get cs) (omega arith) ∙ at)

-- whatever the chunks
module _ (P : List PureChunk → PureResult → Type 0) (when : Alternatives) (l : PureTerm) (s : PureSub) (cs : List PureChunk) (is : (ds : List PureChunk) (t : PureTerm) → P ds (done t)) where
  found_of : (i : ℕ) (ds : List PureChunk) → Each (λ c. P c.after c.result) (found_from takes l s cs i ds)
  found_of i [] = tt
  found_of i (c ∷ ds) =
      each_append (λ d. P d.after d.result) (case_of (at_key l s c) (remove cs i) (done (outs_listed c))) (found_from takes l s cs (i + 1) ds)
      (of_case P when (at_key l s c) (remove cs i) (done (outs_listed c)) (is (remove cs i) (outs_listed c))) (found_of (i + 1) ds)

-- ---- shapes

module _ (g : Reading) (cs : List PureChunk) (sides : Each (ChunkSides g) cs) (state : IsFineState g cs) (k : PureKey) (given_l : g.Given k.loc) (given_s : Each g.Given (sub_terms k.sub)) (r_l : g.R k.loc) (r_s : Each g.R (sub_terms k.sub)) (m : g.Missed k.sub) (r_outs : (c : PureChunk) → IsFine g c → g.R (outs_listed c)) where
  consumed_shaped : Each (Shaped g) (consumed (Some k) cs)
  consumed_shaped =
      let shaped_s = side_sub g k.sub (each_to g.Given g.Side (sub_terms k.sub) g.given_side given_s) in
      let side_l = g.given_side k.loc given_l in
      let near_l = g.given_near k.loc given_l in
      chosen_shaped g always (tt, tt) (consumed_cases k cs)
      (each_append (IsFineCase g) (found takes k.loc k.sub cs) (case_of (all_by_place k.loc (λ c. other_sub k.sub c.sub) cs) cs (missed k))
      (found_shaped g takes k.loc k.sub side_l near_l shaped_s r_outs cs state sides)
      (fine_case g (all_by_place k.loc (λ c. other_sub k.sub c.sub) cs) cs (missed k)
      (by_place_shaped g k.loc side_l near_l (λ c. other_sub k.sub c.sub) (λ c c_sides near. (shaped_s c c_sides near).1) cs sides)
      state (r_l, (r_s, m))))

-- lists of fine terms
over_one : (vars : List Sort) (t : PureTerm) → IsOver vars t → IsOver vars (list_of (from_list (t ∷ [])))
over_one vars t over x has = ⊎_elim (over x) (λ none. absurd (none_contained x none)) (Contains-append_cases (variables t) [] x has)

over_none : (vars : List Sort) → IsOver vars (list_of (from_list []))
over_none vars x has = absurd (none_contained x has)

plain_one : (low high : ℤ) (t : PureTerm) → IsPlainWithin low high t → IsPlainWithin low high (list_of (from_list (t ∷ [])))
plain_one low high t is = let p = plain_parts low high t is in ((λ i. (p.simple i && true) && (not (p.no_any i || false) && not (p.no_list i || false))), (λ i. p.literals i && true))

-- no condition is an `Open`
closed_atom : (a : PureAtom) → NoOpen a → is_open a ≡ false
closed_atom (positive t) closed = refl
closed_atom (negative t) closed = refl
closed_atom (opening t) closed = absurd (closed t refl)

none_open : (conds : List PureAtom) → Each NoOpen conds → has_open conds ≡ false
none_open [] closed = refl
none_open (a ∷ conds) closed = (λ i. closed_atom a closed.0 i || none_open conds closed.1 i)

-- ---- values

each_has : (v : List PureValue) (ts : List PureTerm) (ws : List PureValue) → values v (from_list ts) ≡ Some ws → HaveValues v ts
each_has v [] ws have = tt
each_has v (t ∷ ts) ws have = let (a, (us, (first, rest, whole))) = both_values (value v t) (values v (from_list ts)) ws have in ((a, first), each_has v ts us rest)

-- ---- a key

module _ (memory : MemoryName) (name : List ℕ) (k : PureKey) (cs : List PureChunk) (is_core : core_of name ≡ Some (core_of_sub k.sub)) (of_memory : IsSubOf memory k.sub) where
  abbrev given_ins : List PureTerm
  given_ins = k.loc ∷ sub_terms k.sub

  abbrev lacks : Alternatives
  lacks = all_by_place k.loc (λ c. other_sub k.sub c.sub) cs

  module _ (vars : List Sort) (v ws : List PureValue) (h : Heap) (serves : Serves (StandFor memory) terms_of vars v None (k.loc ∷ sub_terms k.sub) cs ws h) where
    over_ins : Each (IsOver vars) (k.loc ∷ sub_terms k.sub)
    over_ins = each_left (IsOver vars) (k.loc ∷ sub_terms k.sub) (all_of (terms_of cs)) serves.over

    facts : Each (Fact vars v h) cs
    facts = each_fact vars v h cs serves.has_heap.union (chunk_by_chunk (IsOver vars) cs (each_right (IsOver vars) (k.loc ∷ sub_terms k.sub) (all_of (terms_of cs)) serves.over))

    have : HaveValues v (k.loc ∷ sub_terms k.sub)
    have = each_has v (k.loc ∷ sub_terms k.sub) ws serves.have_values

    entry_is : (us : List PureValue) → core_entry name us ≡ entry_of (core_of_sub k.sub) us
    entry_is us = ap (λ o. entry_named o us) is_core

    abbrev IsRightly : List PureChunk → PureResult → Type 0
    IsRightly ds r = IsConsumed memory (StandFor memory) terms_of name v ws h ds r

    gone_true : (q : Key) (w : PureValue) → Holds h q w → key_value v k.loc k.sub ≡ Some q → k.sub ≡ gone → w ≡ boolean true
    gone_true q w held is e =
        let sub_is : q.sub ≡ Gone = same_some (sym (key_parts v k.loc k.sub q is).sub ∙ ap (sub_value v) e) in
        serves.has_heap.is_heap.well_formed.gone_is_true q.loc w (subst (λ r. Holds h r w) (keys_equal q q.loc Gone refl sub_is) held)

    left_is_heap : (q : Key) (w : PureValue) → Holds h q w → IsHeapOf memory (remove_key h q)
    left_is_heap q w held =
        let out = (one_key_more_is_union memory h q w).taken held in
        ((one_key_more_is_heap memory (remove_key h q) q w out.0).0 (subst (IsHeapOf memory) (sym out.1) serves.has_heap.is_heap)).0

    taken : (i : ℕ) (c : PureChunk) → slice_get cs i ≡ Some c → Hold v (at_key k.loc k.sub c) → IsRightly (remove cs i) (done (outs_listed c))
    taken i c there holds =
        let f = each_at (Fact vars v h) cs i c facts there in
        let is = told_key vars v serves.proper h c f k.loc k.sub have.0.0 over_ins.0 have.0.1 over_ins.1 have.1 holds in
        record {
          outs = outs_at k.sub c.val;
          are = outs_are c.sub c.val ∙ ap (λ ts. list_of (from_list ts)) (sym (outs_alike v k.sub c.sub c.val (both_parts v (same k.loc c.loc) (same_sub k.sub c.sub) holds).1));
          us = outs_at k.sub f.w;
          have = outs_have v k.sub c.val f.w f.entry.holds;
          k = f.k;
          w = f.w;
          entry = entry_is (ws ++ outs_at k.sub f.w) ∙ entry_at v k.loc k.sub f.k f.w ws serves.have_values is (gone_true f.k f.w f.held is);
          holds = f.held;
          stands_for = record { union = taken_out v cs h i c f.k f.w serves.has_heap.union there f.entry; is_heap = left_is_heap f.k f.w f.held };
        }

    asked : (q : Key) → key_value v k.loc k.sub ≡ Some q → IsKeyOf vars v k.loc k.sub q
    asked q is = record { over_loc = over_ins.0; over_sub = over_ins.1; is = is }

    lacking : Hold v lacks → IsRightly cs (missed k)
    lacking holds = record {
      lacks = λ us q w entry.
          let is = entry_key v k.loc k.sub ws us q w serves.have_values (sym (entry_is (ws ++ us)) ∙ entry) in (
            (λ has. true≢false (sym has ∙ ap is_some (lacks_key vars v h serves.proper cs serves.has_heap.union facts k.loc k.sub q (asked q is) holds))),
            is,
          );
      stands_for = serves.has_heap;
    }

    cases_exact : Each (λ c. Hold v c.when → IsRightly c.after c.result) (consumed_cases k cs)
    cases_exact =
        each_append (λ c. Hold v c.when → IsRightly c.after c.result) (found takes k.loc k.sub cs) (case_of lacks cs (missed k))
        (found_holds v IsRightly k.loc k.sub cs taken) (case_holds v IsRightly lacks cs (missed k) lacking)

    exact : Each (λ b. IsTrue (all_true v b.conds) → IsRightly b.state b.result) (consumed (Some k) cs)
    exact =
        chosen v (λ b. IsRightly b.state b.result) always (consumed_cases k cs)
        (λ holds. each_to (λ c. Hold v c.when → IsRightly c.after c.result) (λ c. Hold v c.when → (conds : List PureAtom) → IsRightly c.after c.result) (consumed_cases k cs) (λ c is comes conds. is comes) cases_exact)

    abbrev Comes : PureCase → Type 0
    Comes c = Hold v c.when

    misses : Hold v lacks → OneOf (λ c. Hold v c.when) (consumed_cases k cs)
    misses holds = one_right (λ c. Hold v c.when) (found takes k.loc k.sub cs) (case_of lacks cs (missed k)) (made_comes v lacks cs (missed k) holds)

    by_held : (q : Key) → key_value v k.loc k.sub ≡ Some q → (o : Option PureValue) → get h q ≡ o → OneOf (λ c. Hold v c.when) (consumed_cases k cs)
    by_held q is (Some w) held = one_left (λ c. Hold v c.when) (found takes k.loc k.sub cs) (case_of lacks cs (missed k)) (found_comes vars v h serves.proper cs serves.has_heap.union facts k.loc k.sub q (asked q is) takes w held)
    by_held q is None none = misses (key_lacks vars v h serves.proper cs serves.has_heap.union facts k.loc k.sub q (asked q is) none)

    by_key : (o : Option Key) → key_value v k.loc k.sub ≡ o → OneOf (λ c. Hold v c.when) (consumed_cases k cs)
    by_key (Some q) is = by_held q is (get h q) refl
    by_key None none = misses (no_key_lacks vars v serves.proper h cs serves.has_heap.union facts k.loc k.sub over_ins.0 over_ins.1 have.1 have.0.0 have.0.1 none)

    cover : OneOf (λ b. IsTrue (all_true v b.conds)) (consumed (Some k) cs)
    cover = chosen_taken v always (consumed_cases k cs) (always_true v) (by_key (key_value v k.loc k.sub) refl)

  -- ---- terms and conditions

  abbrev all_given : List PureTerm
  all_given = given_ins ++ all_of (terms_of cs)

  abbrev own : Reading
  own = own_reading (consume_asks given_ins) all_given None cs

  made_ins : Each (IsMadeOf all_given None) given_ins
  made_ins = each_to (λ t. IsAmong t all_given) (IsMadeOf all_given None) given_ins (λ t is. made_of_given all_given None t (is_given is)) (each_left (λ t. IsAmong t all_given) given_ins (all_of (terms_of cs)) (each_is_among all_given))

  own_given : Each own.Given given_ins
  own_given = each_to (λ t. IsAmong t given_ins) own.Given given_ins (λ t is. is_given is) (each_is_among given_ins)

  own_shaped : Each (Shaped own) (consumed (Some k) cs)
  own_shaped =
      consumed_shaped own cs (own_sides (consume_asks given_ins) all_given None cs) (made_state (consume_asks given_ins) all_given None cs (each_right (λ t. IsAmong t all_given) given_ins (all_of (terms_of cs)) (each_is_among all_given)))
      k own_given.0 own_given.1 made_ins.0 made_ins.1 tt
      (λ c fine. listed_fine (IsMadeOf all_given None) (inr tt) (λ t is. inr (is, tt)) c.sub c.val (chunk_val (IsMadeOf all_given None) c fine.terms))

  over_shaped : (vars : List Sort) → AreEachOver vars all_given → Each (Shaped (over_reading vars)) (consumed (Some k) cs)
  over_shaped vars over =
      let ins_over = each_left (IsOver vars) given_ins (all_of (terms_of cs)) over in
      let all_over = each_right (IsOver vars) given_ins (all_of (terms_of cs)) over in
      consumed_shaped (over_reading vars) cs (over_sides vars cs all_over) (over_state vars cs all_over) k ins_over.0 ins_over.1 ins_over.0 ins_over.1 tt
      (λ c fine. listed_fine (IsOver vars) (over_none vars) (over_one vars) c.sub c.val (chunk_val (IsOver vars) c fine.terms))

  closed_shaped : Each (Shaped closed_reading) (consumed (Some k) cs)
  closed_shaped =
      consumed_shaped closed_reading cs (closed_sides cs) (loose_state NoOpen positive_closed negative_closed (λ s t. ⊤) (λ s. ⊤) cs (each_every (λ c. ⊤) (λ c. tt) cs))
      k tt (any_term (sub_terms k.sub)) tt (any_term (sub_terms k.sub)) tt (λ c fine. tt)

  no_failure : Each (λ b. IsNoFailure memory (StandFor memory) terms_of b.result) (consumed (Some k) cs)
  no_failure =
      chosen_of (λ ds r. IsNoFailure memory (StandFor memory) terms_of r) always (consumed_cases k cs)
      (each_append (λ c. IsNoFailure memory (StandFor memory) terms_of c.result) (found takes k.loc k.sub cs) (case_of lacks cs (missed k))
      (found_of (λ ds r. IsNoFailure memory (StandFor memory) terms_of r) always k.loc k.sub cs (λ ds t. refl) 0 cs) (of_case (λ ds r. IsNoFailure memory (StandFor memory) terms_of r) always lacks cs (missed k) refl))

  key_law : ConsumeLaw memory (StandFor memory) terms_of name (k.loc ∷ sub_terms k.sub) cs (consumed (Some k) cs)
  key_law = record {
    cover = cover;
    exact = exact;
    no_failure = no_failure;
    no_open = each_to (Shaped closed_reading) (λ b. has_open b.conds ≡ false) (consumed (Some k) cs) (λ b is. none_open b.conds is.conds) closed_shaped;
    variables = λ vars over fresh_over. shaped_named (consumed (Some k) cs) vars (over_shaped vars over);
    own = shaped_conds (consumed (Some k) cs) own own_shaped;
    made = shaped_terms (consumed (Some k) cs) own own_shaped;
  }

  key_plain : ConsumesPlainly (λ ds. IsPlainState memory (terms_of ds)) (k.loc ∷ sub_terms k.sub) cs (consumed (Some k) cs)
  key_plain low high plain around_zero plain_ins =
      let wider : IsPlainState memory (terms_of cs) (low -ℤ growth) (high +ℤ growth) = record { plain = each_to (IsPlainWithin low high) (IsPlainWithin (low -ℤ growth) (high +ℤ growth)) (all_of (terms_of cs)) (plain_wider low high) plain.plain; described = plain.described } in
      let wide = each_to (IsPlainWithin low high) (IsPlainWithin (low -ℤ growth) (high +ℤ growth)) (k.loc ∷ sub_terms k.sub) (plain_wider low high) plain_ins in
      each_to (Shaped (plain_reading memory (low -ℤ growth) (high +ℤ growth))) _ (consumed (Some k) cs)
      (λ b fine. (fine.conds, (state_plain memory (low -ℤ growth) (high +ℤ growth) b.state fine.state, fine_terms (plain_reading memory (low -ℤ growth) (high +ℤ growth)) b.result fine.result)))
      (consumed_shaped (plain_reading memory (low -ℤ growth) (high +ℤ growth)) cs (plain_sides memory (low -ℤ growth) (high +ℤ growth) cs wider) (plain_state memory (low -ℤ growth) (high +ℤ growth) cs wider) k wide.0 wide.1 wide.0 wide.1 tt
      (λ c fine. listed_fine (IsPlainWithin (low -ℤ growth) (high +ℤ growth)) (refl, refl) (plain_one (low -ℤ growth) (high +ℤ growth)) c.sub c.val (chunk_val (IsPlainWithin (low -ℤ growth) (high +ℤ growth)) c fine.terms)))

  key_kept : AreKept memory cs → Each (λ b. AreKept memory b.state) (consumed (Some k) cs)
  key_kept kept =
      each_to (Shaped (kept_reading memory)) (λ b. AreKept memory b.state) (consumed (Some k) cs)
      (λ b is. each_to (IsFine (kept_reading memory)) (IsKept memory) b.state (λ c fine. record { of_memory = fine.holds.0; gone_is_true = fine.holds.1 }) is.state)
      (consumed_shaped (kept_reading memory) cs (loose_sides AnyAtom (λ t. tt) (λ t. tt) (KeptAt memory) (IsSubOf memory) cs)
      (loose_state AnyAtom (λ t. tt) (λ t. tt) (KeptAt memory) (IsSubOf memory) cs (each_to (IsKept memory) (λ c. KeptAt memory c.sub c.val) cs (λ c is. (is.of_memory, is.gone_is_true)) kept))
      k tt (any_term (sub_terms k.sub)) tt (any_term (sub_terms k.sub)) of_memory (λ c fine. tt))

  key_consumed : ConsumeChunks memory name (k.loc ∷ sub_terms k.sub) cs (consumed (Some k) cs)
  key_consumed = record { laws = key_law; plain = key_plain; narrow = consumes_narrowly name k cs is_core; kept = key_kept }

-- ---- by name and ins

pub chunks_consumed : (name : List ℕ) (ins : List PureTerm) (cs : List PureChunk) → Consume name ins cs (consumed_by (core_of name) ins cs)
chunks_consumed name ins cs memory takes_ins =
    let g = gives_key takes_ins.core ins takes_ins.ins_number in
    subst (ConsumeChunks memory name ins cs) (sym (ap (λ o. consumed_by o ins cs) takes_ins.of_memory.named ∙ ap (λ o. consumed o cs) g.given))
    (subst (λ xs. ConsumeChunks memory name xs cs (consumed (Some g.k) cs)) (sym g.are)
    (key_consumed memory name g.k cs (takes_ins.of_memory.named ∙ ap Some g.of_core) (subst (λ core. IsTrue (has_core memory core)) g.of_core takes_ins.of_memory.has)))
