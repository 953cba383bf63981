-- What matching takes splits the heap that realizes the state.
use Rattle.std.proofs.Common.{◌≡◌, ℕ, ◌+◌, List, [], ◌∷◌, ◌++◌, Bool, true, false, ◌&&◌, cond, Option, Some, None, Result, Ok, Err, refl, sym, ap, subst, ◌∙◌}
use Rattle.std.specs.Option.{option_map}
use Rattle.std.specs.FinMap.{empty, get, remove}
use Rattle.std.specs.Str.{bytes_eq}
use Rattle.std.proofs.lemmas.Bool.{and_parts}
use Rattle.std.proofs.lemmas.Slice.Eq.{bytes_eq-Decides}
use Rattle.gil_values.specs.Pure.{PureValue}
use Rattle.gil_values.specs.Equality.{same_value, same_elements}
use Rattle.gil_values.specs.EqualityLaws.{same_value-same, same_elements-Decides}
use Rattle.gil_values.specs.Operators.{Fault}
use Rattle.gil_syntax.specs.declared.assertions.Param.{Param}
use Rattle.gil_syntax.specs.Pure.{PureExpr, PureItem, pure, uses, PurePredUse, PurePredDef}
use Rattle.gil_syntax.specs.Evaluation.{Store, Outcomes, evaluate_all}
use Rattle.mem_model.specs.declared.cores.Core.{Core}
use Rattle.mem_model.specs.declared.keys.Key.{Key}
use Rattle.mem_model.specs.declared.keys.MemoryName.TheVariants.{Record}
use Rattle.mem_model.specs.CoreNames.{core_of}
use Rattle.mem_model.specs.Cores.{entry_of, entry_named, one_key, core_heap}
use Rattle.mem_model.specs.Heaps.{Heap, HasKey, Holds, IsDisjoint}
use Rattle.mem_model.specs.KeyOrder.{key_eq}
use Rattle.mem_model.proofs.CoreLaws.{one_key_more_is_union}
use Rattle.mem_model.proofs.Holding.{same_key, held_inserted}
use Rattle.mem_model.proofs.Joins.{has_key, value_at}
use Rattle.mem_model.proofs.Parts.{no_key}
use Rattle.std.proofs.Common.{⊎_elim}
use Rattle.assert_logic.specs.Unions.{IsUnion}
use Rattle.assert_logic.specs.Meets.{Predicates, UseHolds, ItemMeets, Meets, HoldsSomewhere}
use Rattle.assert_logic.specs.LogicStates.{Fact, LogicState, FactsHold, Realizes}
use Rattle.assert_logic.specs.Sorts.{Extends}
use Rattle.assert_logic.specs.Matching.{all_agree, fits_fact, FoundFact, found_after, first_fact, Taken, Match, ItemMatch, Matching, matched, stops, CaseMatch, Cases, pure_match, held, key_of, key_match, where_entry_is, match_held, match_core, fact_match, case_match, match_case, match_values, match_fact_or, match_use, match_outcomes, match_item, match_pure, known_outs, taken_before, go_on, match_from}
use Rattle.assert_logic.proofs.UnionLaws.{union_commutes, union_after_none, regrouped, ungrouped, exchanged}
use Rattle.assert_logic.proofs.AddingLaws.{same_some, no_value}
use Rattle.assert_logic.proofs.Evaluations.{evaluate_extends, all_extend}
use Rattle.assert_logic.proofs.Givings.{Goes, goes_nowhere, goes_further, values_go, pure_goes}

same_match : {x y : Match} → matched x ≡ matched y → x ≡ y
same_match is = cc

no_match : {P : Type 0} {n : ℕ} (m : Match) → stops n ≡ matched m → P
no_match m is = absurd (cc)

-- ---- facts

-- the fact that was found fits, and holds of a part of its own
pub found_fits : (fits : Fact → Bool) (fs : List Fact) (found : FoundFact) → first_fact fits fs ≡ Some found → fits found.fact ≡ true
found_fits fits [] found is = no_value found is
found_fits fits (f ∷ fs) found is = by (λ g. found_fits fits fs g) (fits f) refl (first_fact fits fs) refl is
  where
    by : ((g : FoundFact) → first_fact fits fs ≡ Some g → fits g.fact ≡ true) → (b : Bool) → fits f ≡ b → (o : Option FoundFact) → first_fact fits fs ≡ o → cond b (Some (record { fact = f; place = 0; others = fs })) (option_map (found_after f) o) ≡ Some found → fits found.fact ≡ true
    by each true here o later is = ap (λ g. fits g.fact) (sym (same_some is)) ∙ here
    by each false other None later is = no_value found is
    by each false other (Some g) later is = ap (λ x. fits x.fact) (sym (same_some is)) ∙ each g later

module _ (holds : Predicates) where
  pub record FactSplit (found : FoundFact) (h : Heap) : Type 0 where
    pub part : Heap
    pub rest : Heap
    pub union : IsUnion h part rest
    pub holds_there : holds found.fact.pred found.fact.ins found.fact.outs part
    pub others : FactsHold holds found.others rest

  pub found_splits : (fits : Fact → Bool) (fs : List Fact) (found : FoundFact) (h : Heap) → first_fact fits fs ≡ Some found → FactsHold holds fs h → FactSplit found h
  found_splits fits [] found h is hold = no_value found is
  found_splits fits (f ∷ fs) found h is (part, (rest, (union, (here, there)))) = by (λ g later. found_splits fits fs g rest later there) (fits f) (first_fact fits fs) refl is
    where
      by : ((g : FoundFact) → first_fact fits fs ≡ Some g → FactSplit g rest) → (b : Bool) (o : Option FoundFact) → first_fact fits fs ≡ o → cond b (Some (record { fact = f; place = 0; others = fs })) (option_map (found_after f) o) ≡ Some found → FactSplit found h
      by each true o later is = subst (λ x. FactSplit x h) (same_some is) (record { part = part; rest = rest; union = union; holds_there = here; others = there })
      by each false None later is = no_value found is
      by each false (Some g) later is =
          let s = each g later in
          let (e, (behind, all)) = ungrouped h rest part s.part s.rest (union_commutes h part rest union) s.union in
          subst (λ x. FactSplit x h) (same_some is) (record { part = s.part; rest = e; union = all; holds_there = s.holds_there; others = (part, (s.rest, (union_commutes e s.rest part behind, (here, s.others)))) })

-- ---- keys

apart : (h : Heap) (k : Key) (w : PureValue) → ¬ HasKey h k → IsDisjoint h (one_key k w)
apart h k w lacks q in_h in_one =
    let at = value_at (one_key k w) q in_one in
    ⊎_elim (λ same. lacks (subst (HasKey h) same.0 in_h)) (λ none. no_key q (has_key empty q at.0 none.1)) (held_inserted empty k q w at.0 at.1)

-- a heap is a key that it holds, and the rest
pub key_splits : (h : Heap) (k : Key) (w : PureValue) → Holds h k w → IsUnion h (remove h k) (one_key k w)
key_splits h k w is =
    let (lacks, again) = (one_key_more_is_union Record h k w).taken is in
    record { disjoint = apart (remove h k) k w lacks; union = sym again ∙ (one_key_more_is_union Record (remove h k) k w).union lacks }

-- ---- items

module _ (preds : List PurePredDef) where
  -- a part of the heap is what was taken, and the rest realizes what is left
  pub record IsSplit (P : Heap → Type 0) (left : LogicState) (h : Heap) : Type 0 where
    pub part : Heap
    pub rest : Heap
    pub union : IsUnion h part rest
    pub taken : P part
    pub realized : Realizes preds left rest

  -- cases that are matched hold of what they take
  abbrev pub AreSound : Cases → Type 0
  AreSound cases =
      (x : List ℕ) (ins : List PureValue) (outs : List (Option PureValue)) (s : LogicState) (found : CaseMatch) (h : Heap)
      → cases x ins outs s ≡ Some found → Realizes preds s h → IsSplit (HoldsSomewhere preds x ins found.outs) found.state h

  pub record ItemSplit (scope : List Param) (item : PureItem) (t : Store) (m : ItemMatch) (h : Heap) : Type 0 where
    pub goes : Goes scope t m.store
    pub split : IsSplit (ItemMeets (HoldsSomewhere preds) m.store item) m.state h

  module _ (cases : Cases) (sound : AreSound cases) (scope : List Param) where
    pure_splits : (e : PureExpr) (t : Store) (s : LogicState) (m : ItemMatch) (h : Heap) (o : Option Store) → match_pure scope e t ≡ o → pure_match s o ≡ Some m → Realizes preds s h → ItemSplit scope (pure e) t m h
    pure_splits e t s m h None matches is r = no_value m is
    pure_splits e t s m h (Some u) matches is r =
        let (goes, holds) = pure_goes scope e t u matches in
        subst (λ x. ItemSplit scope (pure e) t x h) (same_some is) (record {
          goes = goes;
          split = record { part = empty; rest = h; union = union_after_none h; taken = (holds, refl); realized = r };
        })

    -- what a use whose ins and outs have these values takes
    use_splits : (u : PurePredUse) (ins outs : List PureValue) (t : Store) (m : ItemMatch) (h : Heap) → evaluate_all u.ins t ≡ Ok ins → Goes scope t m.store → evaluate_all u.outs m.store ≡ Ok outs
        → IsSplit (UseHolds (HoldsSomewhere preds) (core_of u.pred) u.pred ins outs) m.state h → ItemSplit scope (uses u) t m h
    use_splits u ins outs t m h ins_are goes outs_are s = record {
      goes = goes;
      split = record {
        part = s.part;
        rest = s.rest;
        union = s.union;
        taken = record { ins = ins; outs = outs; ins_are = all_extend t m.store goes.extends u.ins ins ins_are; outs_are = outs_are; holds_there = s.taken };
        realized = s.realized;
      };
    }

    held_splits : (u : PurePredUse) (core : Core) (ins : List PureValue) (k : Key) (t : Store) (s : LogicState) (m : ItemMatch) (h : Heap) → core_of u.pred ≡ Some core → evaluate_all u.ins t ≡ Ok ins
        → (o : Option PureValue) → get s.heap k ≡ o → match_held scope core ins u.outs k o t s ≡ Some m → Realizes preds s h → ItemSplit scope (uses u) t m h
    held_splits u core ins k t s m h named ins_are None none is r = no_value m is
    held_splits u core ins k t s m h named ins_are (Some v) holds is r = by_entry (entry_of core (ins ++ held core v)) refl is
      where
        by_store : (o : Option Store) → match_values scope u.outs (held core v) t ≡ o → core_heap u.pred (ins ++ held core v) ≡ Some (one_key k v) → key_match s k o ≡ Some m → ItemSplit scope (uses u) t m h
        by_store None matches stands is = no_value m is
        by_store (Some w) matches stands is =
            let (goes, outs_are) = values_go scope u.outs (held core v) t w matches in
            let (e, (left, all)) = exchanged h s.heap r.own (remove s.heap k) (one_key k v) r.union (key_splits s.heap k v holds) in
            let found : ItemMatch = record { store = w; state = record s { heap = remove s.heap k }; taken = Taken.took_key k } in
            subst (λ x. ItemSplit scope (uses u) t x h) (same_some is) (use_splits u ins (held core v) t found h ins_are goes outs_are (record {
              part = one_key k v;
              rest = e;
              union = union_commutes h e (one_key k v) all;
              taken = subst (λ o. UseHolds (HoldsSomewhere preds) o u.pred ins (held core v) (one_key k v)) (sym named) stands;
              realized = record { own = r.own; union = left; facts = r.facts };
            }))

        by_test : (e : Key × PureValue) → entry_of core (ins ++ held core v) ≡ Some e → (b : Bool) → (key_eq e.0 k && same_value e.1 v) ≡ b
            → cond b (key_match s k (match_values scope u.outs (held core v) t)) None ≡ Some m → ItemSplit scope (uses u) t m h
        by_test e entry false test is = no_value m is
        by_test e entry true test is =
            let (keys, values) = and_parts (key_eq e.0 k) (same_value e.1 v) test in
            let stands : core_heap u.pred (ins ++ held core v) ≡ Some (one_key k v) =
            ap (λ o. option_map (λ x. one_key x.0 x.1) (entry_named o (ins ++ held core v))) named
            ∙ ap (option_map (λ x. one_key x.0 x.1)) entry
            ∙ (λ i. Some (one_key (same_key e.0 k keys i) (same_value-same e.1 v values i))) in
            by_store (match_values scope u.outs (held core v) t) refl stands is

        by_entry : (o : Option (Key × PureValue)) → entry_of core (ins ++ held core v) ≡ o → where_entry_is o k v (key_match s k (match_values scope u.outs (held core v) t)) ≡ Some m → ItemSplit scope (uses u) t m h
        by_entry None entry is = no_value m is
        by_entry (Some e) entry is = by_test e entry (key_eq e.0 k && same_value e.1 v) refl is

    core_splits : (u : PurePredUse) (core : Core) (ins : List PureValue) (t : Store) (s : LogicState) (m : ItemMatch) (h : Heap) → core_of u.pred ≡ Some core → evaluate_all u.ins t ≡ Ok ins
        → (o : Option Key) → match_core scope core ins u.outs o t s ≡ Some m → Realizes preds s h → ItemSplit scope (uses u) t m h
    core_splits u core ins t s m h named ins_are None is r = no_value m is
    core_splits u core ins t s m h named ins_are (Some k) is r = held_splits u core ins k t s m h named ins_are (get s.heap k) refl is r

    -- a fact that fits is of this predicate and these ins
    fact_splits : (u : PurePredUse) (ins : List PureValue) (outs : List (Option PureValue)) (t : Store) (s : LogicState) (m : ItemMatch) (h : Heap) → core_of u.pred ≡ None → evaluate_all u.ins t ≡ Ok ins
        → (found : FoundFact) → first_fact (fits_fact u.pred ins outs) s.facts ≡ Some found
        → (o : Option Store) → match_values scope u.outs found.fact.outs t ≡ o → fact_match found s o ≡ Some m → Realizes preds s h → ItemSplit scope (uses u) t m h
    fact_splits u ins outs t s m h named ins_are found finds None matches is r = no_value m is
    fact_splits u ins outs t s m h named ins_are found finds (Some w) matches is r =
        let (goes, outs_are) = values_go scope u.outs found.fact.outs t w matches in
        let f = found_splits (HoldsSomewhere preds) (fits_fact u.pred ins outs) s.facts found r.own finds r.facts in
        let fits = found_fits (fits_fact u.pred ins outs) s.facts found finds in
        let (front, agree) = and_parts (bytes_eq found.fact.pred u.pred && same_elements found.fact.ins ins) (all_agree outs found.fact.outs) fits in
        let (is_pred, same_ins) = and_parts (bytes_eq found.fact.pred u.pred) (same_elements found.fact.ins ins) front in
        let (e, (left, all)) = ungrouped h r.own s.heap f.part f.rest (union_commutes h s.heap r.own r.union) f.union in
        let holds : HoldsSomewhere preds u.pred ins found.fact.outs f.part =
        subst (λ x. HoldsSomewhere preds u.pred x found.fact.outs f.part) ((same_elements-Decides found.fact.ins ins).0 same_ins)
        (subst (λ x. HoldsSomewhere preds x found.fact.ins found.fact.outs f.part) ((bytes_eq-Decides found.fact.pred u.pred).0 is_pred) f.holds_there) in
        let left_match : ItemMatch = record { store = w; state = record s { facts = found.others }; taken = Taken.took_fact found.place } in
        subst (λ x. ItemSplit scope (uses u) t x h) (same_some is) (use_splits u ins found.fact.outs t left_match h ins_are goes outs_are (record {
          part = f.part;
          rest = e;
          union = all;
          taken = subst (λ o. UseHolds (HoldsSomewhere preds) o u.pred ins found.fact.outs f.part) (sym named) holds;
          realized = record { own = f.rest; union = union_commutes e f.rest s.heap left; facts = f.others };
        }))

    case_splits : (u : PurePredUse) (ins : List PureValue) (outs : List (Option PureValue)) (t : Store) (s : LogicState) (m : ItemMatch) (h : Heap) → core_of u.pred ≡ None → evaluate_all u.ins t ≡ Ok ins
        → (o : Option CaseMatch) → cases u.pred ins outs s ≡ o → match_case scope u.outs o t ≡ Some m → Realizes preds s h → ItemSplit scope (uses u) t m h
    case_splits u ins outs t s m h named ins_are None finds is r = no_value m is
    case_splits u ins outs t s m h named ins_are (Some found) finds is r = by (match_values scope u.outs found.outs t) refl is
      where
        by : (o : Option Store) → match_values scope u.outs found.outs t ≡ o → case_match found o ≡ Some m → ItemSplit scope (uses u) t m h
        by None matches is = no_value m is
        by (Some w) matches is =
            let (goes, outs_are) = values_go scope u.outs found.outs t w matches in
            let c = sound u.pred ins outs s found h finds r in
            let left_match : ItemMatch = record { store = w; state = found.state; taken = found.taken } in
            subst (λ x. ItemSplit scope (uses u) t x h) (same_some is) (use_splits u ins found.outs t left_match h ins_are goes outs_are (record {
              part = c.part;
              rest = c.rest;
              union = c.union;
              taken = subst (λ o. UseHolds (HoldsSomewhere preds) o u.pred ins found.outs c.part) (sym named) c.taken;
              realized = c.realized;
            }))

    user_splits : (u : PurePredUse) (ins : List PureValue) (outs : List (Option PureValue)) (t : Store) (s : LogicState) (m : ItemMatch) (h : Heap) → core_of u.pred ≡ None → evaluate_all u.ins t ≡ Ok ins
        → (o : Option FoundFact) → first_fact (fits_fact u.pred ins outs) s.facts ≡ o → match_fact_or cases scope o u ins outs t s ≡ Some m → Realizes preds s h → ItemSplit scope (uses u) t m h
    user_splits u ins outs t s m h named ins_are None finds is r = case_splits u ins outs t s m h named ins_are (cases u.pred ins outs s) refl is r
    user_splits u ins outs t s m h named ins_are (Some found) finds is r =
        fact_splits u ins outs t s m h named ins_are found finds (match_values scope u.outs found.fact.outs t) refl is r

    any_use_splits : (u : PurePredUse) (ins : List PureValue) (outs : List (Option PureValue)) (t : Store) (s : LogicState) (m : ItemMatch) (h : Heap) → evaluate_all u.ins t ≡ Ok ins
        → (o : Option Core) → core_of u.pred ≡ o → match_use cases scope o u ins outs t s ≡ Some m → Realizes preds s h → ItemSplit scope (uses u) t m h
    any_use_splits u ins outs t s m h ins_are (Some core) named is r = core_splits u core ins t s m h named ins_are (key_of core ins) is r
    any_use_splits u ins outs t s m h ins_are None named is r = user_splits u ins outs t s m h named ins_are (first_fact (fits_fact u.pred ins outs) s.facts) refl is r

    outcomes_split : (u : PurePredUse) (t : Store) (s : LogicState) (m : ItemMatch) (h : Heap) (ins : Outcomes) (outs : Result (List (Option PureValue)) Fault) → evaluate_all u.ins t ≡ ins
        → match_outcomes cases scope ins outs u t s ≡ Some m → Realizes preds s h → ItemSplit scope (uses u) t m h
    outcomes_split u t s m h (Ok ins) (Ok outs) ins_are is r = any_use_splits u ins outs t s m h ins_are (core_of u.pred) refl is r
    outcomes_split u t s m h (Ok ins) (Err f) ins_are is r = no_value m is
    outcomes_split u t s m h (Err f) outs ins_are is r = no_value m is

    pub item_splits : (item : PureItem) (t : Store) (s : LogicState) (m : ItemMatch) (h : Heap) → match_item cases scope item t s ≡ Some m → Realizes preds s h → ItemSplit scope item t m h
    item_splits (pure e) t s m h is r = pure_splits e t s m h (match_pure scope e t) refl is r
    item_splits (uses u) t s m h is r = outcomes_split u t s m h (evaluate_all u.ins t) (known_outs t u.outs) refl is r

  -- ---- several items

  item_extends : (s t : Store) → Extends s t → (item : PureItem) (h : Heap) → ItemMeets (HoldsSomewhere preds) s item h → ItemMeets (HoldsSomewhere preds) t item h
  item_extends s t extends (pure e) h is = (evaluate_extends s t extends e _ is.0, is.1)
  item_extends s t extends (uses u) h is = record {
    ins = is.ins;
    outs = is.outs;
    ins_are = all_extend s t extends u.ins is.ins is.ins_are;
    outs_are = all_extend s t extends u.outs is.outs is.outs_are;
    holds_there = is.holds_there;
  }

  pub record ItemsSplit (scope : List Param) (items : List PureItem) (t : Store) (m : Match) (h : Heap) : Type 0 where
    pub goes : Goes scope t m.store
    pub split : IsSplit (Meets (HoldsSomewhere preds) m.store items) m.state h

  module _ (cases : Cases) (sound : AreSound cases) (scope : List Param) where
    pub items_split : (n : ℕ) (items : List PureItem) (t : Store) (s : LogicState) (m : Match) (h : Heap) → match_from cases scope n items t s ≡ matched m → Realizes preds s h → ItemsSplit scope items t m h
    items_split n [] t s m h is r =
        subst (λ x. ItemsSplit scope [] t x h) (same_match is) (record {
          goes = goes_nowhere scope t t refl;
          split = record { part = empty; rest = h; union = union_after_none h; taken = refl; realized = r };
        })
    items_split n (item ∷ items) t s m h is r = by_item (λ u v x h2. items_split (n + 1) items u v x h2) (match_item cases scope item t s) refl is
      where
        joined_split : (i : ItemMatch) → ItemSplit scope item t i h → (x : Match) (later : (h2 : Heap) → Realizes preds i.state h2 → ItemsSplit scope items i.store x h2) → ItemsSplit scope (item ∷ items) t (record x { taken = i.taken ∷ x.taken }) h
        joined_split i first x later =
            let second = later first.split.rest first.split.realized in
            let (e, (both_parts, all)) = regrouped h first.split.part first.split.rest second.split.part second.split.rest first.split.union second.split.union in
            record {
              goes = goes_further scope t i.store x.store first.goes second.goes;
              split = record {
                part = e;
                rest = second.split.rest;
                union = all;
                taken = (first.split.part, (second.split.part, (both_parts, (item_extends i.store x.store second.goes.extends item first.split.part first.split.taken, second.split.taken))));
                realized = second.split.realized;
              };
            }

        by_later : ((u : Store) (v : LogicState) (x : Match) (h2 : Heap) → match_from cases scope (n + 1) items u v ≡ matched x → Realizes preds v h2 → ItemsSplit scope items u x h2) → (i : ItemMatch) → match_item cases scope item t s ≡ Some i → (o : Matching) → match_from cases scope (n + 1) items i.store i.state ≡ o → taken_before i.taken o ≡ matched m → ItemsSplit scope (item ∷ items) t m h
        by_later each i here (stops k) later is = no_match m is
        by_later each i here (matched x) later is =
            subst (λ y. ItemsSplit scope (item ∷ items) t y h) (same_match is)
            (joined_split i (item_splits cases sound scope item t s i h here r) x (λ h2 r2. each i.store i.state x h2 later r2))

        by_item : ((u : Store) (v : LogicState) (x : Match) (h2 : Heap) → match_from cases scope (n + 1) items u v ≡ matched x → Realizes preds v h2 → ItemsSplit scope items u x h2) → (o : Option ItemMatch) → match_item cases scope item t s ≡ o → go_on o n (match_from cases scope (n + 1) items) ≡ matched m → ItemsSplit scope (item ∷ items) t m h
        by_item each None here is = no_match m is
        by_item each (Some i) here is = by_later each i here (match_from cases scope (n + 1) items i.store i.state) refl is
