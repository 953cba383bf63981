-- What matching a use of a core predicate gives.
use Rattle.std.proofs.Common.{◌≡◌, inl, inr, ℕ, suc, List, [], ◌∷◌, ◌++◌, length, Bool, true, false, ◌&&◌, cond, Option, Some, None, IsTrue, refl, sym, ap, subst, ◌∙◌, true≢false}
use Rattle.std.specs.FinMap.{get, remove}
use Rattle.std.proofs.lemmas.Bool.{and_parts}
use Rattle.std.proofs.lemmas.List.Elements.{Contains-append_left, Contains-append_right}
use Rattle.gil_values.specs.EqualityLaws.{same_value-refl}
use Rattle.gil_values.specs.Equality.{same_value}
use Rattle.gil_values.specs.Pure.{PureValue}
use Rattle.gil_syntax.specs.declared.assertions.Param.{Param}
use Rattle.gil_syntax.specs.Evaluation.{Store}
use Rattle.gil_syntax.specs.Pure.{PureExpr, PurePredUse}
use Rattle.mem_model.specs.declared.cores.Core.{Core}
use Rattle.mem_model.specs.declared.keys.Key.{Key}
use Rattle.mem_model.specs.declared.keys.MemoryName.{MemoryName}
use Rattle.mem_model.specs.CoreNames.{core_of, ins_of}
use Rattle.mem_model.specs.Cores.{entry_of, entry_named, core_entry}
use Rattle.mem_model.specs.Heaps.{Heap, Holds, HasKey}
use Rattle.mem_model.specs.KeyOrder.{key_eq}
use Rattle.mem_model.proofs.Holding.{same_key, itself}
use Rattle.mem_model.proofs.Joins.{has_key}
use Rattle.assert_logic.specs.LogicStates.{LogicState}
use Rattle.assert_logic.specs.Matching.{took_key, ItemMatch, no_cases, held, key_of, key_match, where_entry_is, match_held, match_core, match_use, match_values}
use Rattle.assert_logic.proofs.CoreMatching.{entry_splits}
use Rattle.pure_terms.specs.declared.variables.Sort.{Sort}
use Rattle.pure_terms.specs.Meaning.{value, values, all_true, IsOver}
use Rattle.pure_terms.specs.Pure.{PureTerm, literal, variable, list_of, unary_of, binary_of, PureTerms, no_terms, term_and, from_list, to_list, to_list-from_list, term_of, variables, variables_of_all}
use Rattle.sym_evaluation.specs.Meaning.{HaveValues, IsStoreOver}
use Rattle.sym_evaluation.specs.Pure.{PureStore}
use Rattle.sym_matching.specs.Matching.{SplitsValues, StoresStayOver}
use Rattle.sym_matching.specs.Pure.{PureSplit}
use Rattle.sym_model.specs.CoreLaws.{ConsumeLaw, IsTaken, IsConsumed}
use Rattle.sym_model.specs.Cores.{TakesIns}
use Rattle.sym_model.specs.Laws.{Serves as MemoryServes, EachTerm}
use Rattle.sym_model.specs.Lists.{Each, OneOf}
use Rattle.sym_model.specs.Pure.{PureResult, done, failed, missed, result_terms, PureBranch}
use Rattle.sym_model.specs.Terms.{StateTerms, all_of, AreEachOver, is_list_term}
use Rattle.sym_model.proofs.Asking.{both_parts}
use Rattle.sym_model.proofs.ListLaws.{same_some, each_append, each_by_place, each_at}
use Rattle.sym_states.specs.Meaning.{Serves, IsOverTable}
use Rattle.sym_states.specs.Pure.{PureState}
use Rattle.sym_states.proofs.Conditions.{met_parts, met_both}
use Rattle.footprint.specs.Items.{SpreadsValues, MatchesDone, MatchesResult, branch_state, MatchesBranch, AsksIns, CoreGives, CoreStops}
use Rattle.footprint.specs.Leaves.{Premise, Giving, Stopping, IsLater, AreLeaves}
use Rattle.footprint.specs.Pure.{PureLeaves}
use Rattle.footprint.specs.Spreading.{spread, all_stop, Gathers}
use Rattle.footprint.proofs.Parts.{IsPart, part_leaves, part_where, gathered, Onward, lifted, spread_leaves}

-- ---- on values

pub values_length : (v : List PureValue) (ts : List PureTerm) (ws : List PureValue) → HaveValues v ts ws → length ws ≡ length ts
values_length v [] ws is = ap length (sym (same_some is))
values_length v (t ∷ ts) ws is =
    let (w, (more, (is_t, rest, whole))) = both_parts (value v t) (values v (from_list ts)) ws is in
    ap length whole ∙ ap suc (values_length v ts more rest)

pub same_values : (v : List PureValue) (ts : List PureTerm) (us ws : List PureValue) → HaveValues v ts us → HaveValues v ts ws → us ≡ ws
same_values v ts us ws first second = same_some (sym first ∙ second)

module _ (scope : List Param) (core : Core) (outs : List PureExpr) (t : Store) (l : LogicState) (ws : List PureValue) where
  -- the key that is taken
  pub taken_core : (us : List PureValue) (k : Key) (w : PureValue) → length ws ≡ ins_of core → entry_of core (ws ++ us) ≡ Some (k, w) → Holds l.heap k w
      → match_core scope core ws outs (key_of core ws) t l ≡ key_match l k (match_values scope outs us t)
  taken_core us k w size entry holds =
      let (key_is, outs_are) = entry_splits core ws us k w size entry in
      let again : entry_of core (ws ++ held core w) ≡ Some (k, w) = ap (λ vs. entry_of core (ws ++ vs)) (sym outs_are) ∙ entry in
      let tests : (key_eq k k && same_value w w) ≡ true = (λ i. itself k i && same_value-refl w i) in
      ap (λ o. match_core scope core ws outs o t l) key_is
      ∙ ap (λ o. match_held scope core ws outs k o t l) holds
      ∙ ap (λ o. where_entry_is o k w (key_match l k (match_values scope outs (held core w) t))) again
      ∙ ap (λ b. cond b (key_match l k (match_values scope outs (held core w) t)) None) tests
      ∙ ap (λ vs. key_match l k (match_values scope outs vs t)) (sym outs_are)

  -- a key that the heap lacks
  pub lacking_core : ((us : List PureValue) (k : Key) (w : PureValue) → entry_of core (ws ++ us) ≡ Some (k, w) → ¬ HasKey l.heap k)
      → match_core scope core ws outs (key_of core ws) t l ≡ None
  lacking_core lacks = by_key (key_of core ws)
    where
      by_entry : (k : Key) (w : PureValue) (found : Option ItemMatch) → Holds l.heap k w → (o : Option (Key × PureValue)) → entry_of core (ws ++ held core w) ≡ o → where_entry_is o k w found ≡ None
      by_entry k w found holds None is = refl
      by_entry k w found holds (Some e) is = by_test (key_eq e.0 k && same_value e.1 w) refl
        where
          by_test : (b : Bool) → (key_eq e.0 k && same_value e.1 w) ≡ b → cond b found None ≡ None
          by_test false other = refl
          by_test true same = absurd (lacks (held core w) e.0 e.1 is (subst (HasKey l.heap) (sym (same_key e.0 k (and_parts (key_eq e.0 k) (same_value e.1 w) same).0)) (has_key l.heap k w holds)))

      by_held : (k : Key) (o : Option PureValue) → get l.heap k ≡ o → match_held scope core ws outs k o t l ≡ None
      by_held k None is = refl
      by_held k (Some w) is = by_entry k w (key_match l k (match_values scope outs (held core w) t)) is (entry_of core (ws ++ held core w)) refl

      by_key : (o : Option Key) → match_core scope core ws outs o t l ≡ None
      by_key None = refl
      by_key (Some k) = by_held k (get l.heap k) refl

-- ---- terms of a list

pub elements_over : (vars : List Sort) (ts : PureTerms) → IsOver vars (list_of ts) → AreEachOver vars (to_list ts)
elements_over vars no_terms over = tt
elements_over vars (term_and t ts) over = (
  λ x has. over x (Contains-append_left (variables t) (variables_of_all ts) x has),
  elements_over vars ts (λ x has. over x (Contains-append_right (variables t) (variables_of_all ts) x has)),
)

same_elements_of : (ts : PureTerms) (outs : List PureTerm) → list_of ts ≡ list_of (from_list outs) → to_list ts ≡ outs
same_elements_of ts outs is = let inner : ts ≡ from_list outs = cc in ap to_list inner ∙ to_list-from_list outs

module _ {S : Type 0} (memory : MemoryName) (stands : S → List PureValue → Heap → Type 0) (terms : S → StateTerms) (kept : S → Type 0) (n : ℕ) (scope : List Param) (u : PurePredUse)
    (s : PureState S) (bs : PureStore) (ins : List PureTerm) (takes : TakesIns memory u.pred ins) (over : IsOverTable terms s) (store_over : IsStoreOver s.vars bs)
    (ins_over : AreEachOver s.vars ins) where
  abbrev If : Premise
  If = AsksIns stands terms s bs ins

  abbrev Gives : Giving
  Gives = CoreGives scope u ins

  abbrev Stops : Stopping
  Stops = CoreStops n scope u ins

  all_over : AreEachOver s.vars (ins ++ all_of (terms s.memory))
  all_over = each_append (IsOver s.vars) ins (all_of (terms s.memory)) ins_over over.memory

  memory_serves : (v : List PureValue) (t : Store) (l : LogicState) (asks : If v t l) → MemoryServes stands terms s.vars v None ins s.memory asks.ws l.heap
  memory_serves v t l asks = record {
    proper = asks.serves.state.proper;
    over = all_over;
    fresh_over = tt;
    have_values = asks.have_ins;
    has_heap = asks.serves.state.memory;
  }

  -- what the laws of consumption say of one branch
  pub record IsLawful (b : PureBranch S) : Type 0 where
    pub names : Each (λ a. IsOver s.vars (term_of a)) b.conds × EachTerm terms (IsOver s.vars) b
    pub still_kept : kept s.memory → kept b.state
    pub exact : (v ws : List PureValue) (h : Heap) → MemoryServes stands terms s.vars v None ins s.memory ws h → IsTrue (all_true v b.conds) → IsConsumed memory stands terms u.pred v ws h b.state b.result

  by_core : (ws : List PureValue) (t : Store) (l : LogicState) → match_use no_cases scope (core_of u.pred) u ws [] t l ≡ match_core scope takes.core ws u.outs (key_of takes.core ws) t l
  by_core ws t l = ap (λ o. match_use no_cases scope o u ws [] t l) takes.of_memory.named

  entry_by_core : (ws us : List PureValue) → core_entry u.pred (ws ++ us) ≡ entry_of takes.core (ws ++ us)
  entry_by_core ws us = ap (λ o. entry_named o (ws ++ us)) takes.of_memory.named

  module _ (b : PureBranch S) (law : IsLawful b) where
    abbrev q : PureState S
    q = branch_state s b

    q_over : IsOverTable terms q
    q_over = record {
      conds = each_append (λ a. IsOver s.vars (term_of a)) s.conds b.conds over.conds law.names.0;
      given = over.given;
      memory = law.names.1.0;
      facts = over.facts;
    }

    q_later : IsLater stands terms kept s q
    q_later = record { longer = (b.conds, refl); same_else = refl; over = q_over; still_kept = law.still_kept }

    -- ---- the key is missing

    -- the premise, and that the branch's conditions are true
    record Missing (v : List PureValue) (t : Store) (l : LogicState) : Type 0 where
      asks : If v t l
      lacks : (us : List PureValue) (k : Key) (w : PureValue) → core_entry u.pred (asks.ws ++ us) ≡ Some (k, w) → ¬ HasKey l.heap k

    missing_stops : (v : List PureValue) (t : Store) (l : LogicState) → Missing v t l → Stops v t l n
    missing_stops v t l is = (
      refl,
      (
        is.asks.ws,
        (
          is.asks.have_ins,
          by_core is.asks.ws t l ∙ lacking_core scope takes.core u.outs t l is.asks.ws (λ us k w entry. is.lacks us k w (entry_by_core is.asks.ws us ∙ entry)),
        ),
      ),
    )

    missing_part : ((v : List PureValue) (t : Store) (l : LogicState) → If v t l → IsTrue (all_true v b.conds) → Stops v t l n) → IsPart stands terms kept s If Gives Stops (λ v t l. IsTrue (all_true v b.conds)) (all_stop n q)
    missing_part stop = record {
      cover = λ v t l asks met. inr (inl (inl (met_both v s.conds b.conds asks.serves.state.meets met)));
      matched = tt;
      stopped = (
        record {
          longer = (b.conds, refl);
          over = q_over.conds;
          exact = λ v t l asks met. stop v t l asks (met_parts v s.conds b.conds met).1;
        },
        tt,
      );
      undecided = tt;
    }

    -- ---- done with outs

    module _ (ts : PureTerms) (is_done : b.result ≡ done (list_of ts)) where
      abbrev outs : List PureTerm
      outs = to_list ts

      outs_over : AreEachOver s.vars outs
      outs_over = elements_over s.vars ts (subst (λ r. Each (IsOver s.vars) (result_terms r)) is_done law.names.1.1).0

      -- a state without the key, and the values of the outs
      record Taking (v : List PureValue) (t : Store) (l : LogicState) : Type 0 where
        serves : Serves stands terms q bs v t l
        us : List PureValue
        have_outs : HaveValues v outs us

      abbrev More : Giving
      More v t l t' l' = (us : List PureValue) × (HaveValues v outs us × (match_values scope u.outs us t ≡ Some t') × (l' ≡ l))

      abbrev Ends : Stopping
      Ends v t l k = (k ≡ n) × ((us : List PureValue) × (HaveValues v outs us × (match_values scope u.outs us t ≡ None)))

      onward : (v : List PureValue) (t : Store) (l : LogicState) → If v t l → IsTrue (all_true v q.conds) → Onward stands terms kept Taking Gives More Stops Ends v t l
      onward v t l asks met =
          let met_b = (met_parts v s.conds b.conds met).1 in
          let taken : IsTaken memory stands terms u.pred v asks.ws l.heap b.state (list_of ts) = subst (IsConsumed memory stands terms u.pred v asks.ws l.heap b.state) is_done (law.exact v asks.ws l.heap (memory_serves v t l asks) met_b) in
          let same : outs ≡ taken.outs = same_elements_of ts taken.outs taken.are in
          let have : HaveValues v outs taken.us = subst (λ xs. HaveValues v xs taken.us) (sym same) taken.have in
          let entry : entry_of takes.core (asks.ws ++ taken.us) ≡ Some (taken.k, taken.w) = sym (entry_by_core asks.ws taken.us) ∙ taken.entry in
          let size : length asks.ws ≡ ins_of takes.core = values_length v ins asks.ws asks.have_ins ∙ takes.ins_number in
          let here : match_use no_cases scope (core_of u.pred) u asks.ws [] t l ≡ key_match l taken.k (match_values scope u.outs taken.us t)
          = by_core asks.ws t l ∙ taken_core scope takes.core u.outs t l asks.ws taken.us taken.k taken.w size entry taken.holds in
          record {
            next_store = t;
            next_state = record l { heap = remove l.heap taken.k };
            premise = record {
              serves = record {
                over = q_over;
                store_over = store_over;
                store = asks.serves.store;
                state = record { proper = asks.serves.state.proper; meets = met; memory = taken.stands_for; facts = asks.serves.state.facts };
              };
              us = taken.us;
              have_outs = have;
            };
            gives = λ x k (us, (have_us, found, is)).
                let us_same : us ≡ taken.us = same_values v outs us taken.us have_us have in (
                  asks.ws,
                  (
                    asks.have_ins,
                    (
                      took_key taken.k,
                      here ∙ ap (key_match l taken.k) (ap (λ vs. match_values scope u.outs vs t) (sym us_same) ∙ found)
                          ∙ ap (λ (y : LogicState). Some (record { store = x; state = y; taken = took_key taken.k })) (sym is),
                    ),
                  ),
                );
            stops = λ m (number, (us, (have_us, none))).
                let us_same : us ≡ taken.us = same_values v outs us taken.us have_us have in
                (number, (asks.ws, (asks.have_ins, here ∙ ap (key_match l taken.k) (ap (λ vs. match_values scope u.outs vs t) (sym us_same) ∙ none))));
          }

      taking_leaves : (x : PureSplit PureStore) → SplitsValues scope u.outs outs bs x → StoresStayOver bs outs x → AreLeaves stands terms kept q Taking More Ends (spread n q x)
      taking_leaves x says names =
          spread_leaves stands terms kept n q Taking More Ends q_over x (names s.vars store_over outs_over)
          (λ v t l is. record {
            outcome = match_values scope u.outs is.us t;
            says = says s.vars v t is.us (record { proper = is.serves.state.proper; over = store_over; stands = is.serves.store }) outs_over is.have_outs;
            state = is.serves.state;
            gives = λ y found. (is.us, (is.have_outs, found, refl));
            stops = λ none. (refl, (is.us, (is.have_outs, none)));
          })

      done_part : (leaves : PureLeaves S) → SpreadsValues n scope u.outs bs q outs leaves → IsPart stands terms kept s If Gives Stops (λ v t l. IsTrue (all_true v b.conds)) leaves
      done_part leaves (x, (says, names, plainly, origin, is)) =
          part_where stands terms kept s If Gives Stops (λ v t l. IsTrue (all_true v q.conds)) (λ v t l. IsTrue (all_true v b.conds)) leaves
          (λ v t l asks met. met_both v s.conds b.conds asks.serves.state.meets met)
          (subst (IsPart stands terms kept s If Gives Stops (λ v t l. IsTrue (all_true v q.conds))) (sym is)
          (lifted stands terms kept s q If Taking Gives More Stops Ends q_later onward (spread n q x) (taking_leaves x says names)))

    -- what consuming is done with is a list
    never : (t : PureTerm) → b.result ≡ done t → is_list_term t ≡ false → (v : List PureValue) (x : Store) (l : LogicState) → If v x l → IsTrue (all_true v b.conds) → Stops v x l n
    never t is_done no_list v x l asks met =
        let taken : IsTaken memory stands terms u.pred v asks.ws l.heap b.state t = subst (IsConsumed memory stands terms u.pred v asks.ws l.heap b.state) is_done (law.exact v asks.ws l.heap (memory_serves v x l asks) met) in
        absurd (true≢false (sym (ap is_list_term taken.are) ∙ no_list))

    stop_part : (leaves : PureLeaves S) → leaves ≡ all_stop n q → ((v : List PureValue) (t : Store) (l : LogicState) → If v t l → IsTrue (all_true v b.conds) → Stops v t l n)
        → IsPart stands terms kept s If Gives Stops (λ v t l. IsTrue (all_true v b.conds)) leaves
    stop_part leaves is stop = subst (IsPart stands terms kept s If Gives Stops (λ v t l. IsTrue (all_true v b.conds))) (sym is) (missing_part stop)

    of_done : (t : PureTerm) (leaves : PureLeaves S) → b.result ≡ done t → MatchesDone n scope u.outs bs q t leaves → IsPart stands terms kept s If Gives Stops (λ v t l. IsTrue (all_true v b.conds)) leaves
    of_done (list_of ts) leaves is_done is = done_part ts is_done leaves is
    of_done (literal x) leaves is_done is = stop_part leaves is (never (literal x) is_done refl)
    of_done (variable x) leaves is_done is = stop_part leaves is (never (variable x) is_done refl)
    of_done (unary_of op x) leaves is_done is = stop_part leaves is (never (unary_of op x) is_done refl)
    of_done (binary_of op x y) leaves is_done is = stop_part leaves is (never (binary_of op x y) is_done refl)

    of_result : (r : PureResult) (leaves : PureLeaves S) → b.result ≡ r → MatchesResult n scope u.outs bs q r leaves → IsPart stands terms kept s If Gives Stops (λ v t l. IsTrue (all_true v b.conds)) leaves
    of_result (done t) leaves is_r is = of_done t leaves is_r is
    of_result (failed t) leaves is_r is =
        stop_part leaves is (λ v x l asks met. let none : ⊥ = subst (IsConsumed memory stands terms u.pred v asks.ws l.heap b.state) is_r (law.exact v asks.ws l.heap (memory_serves v x l asks) met) in absurd none)
    of_result (missed k) leaves is_r is =
        stop_part leaves is (λ v x l asks met.
        let lacking = subst (IsConsumed memory stands terms u.pred v asks.ws l.heap b.state) is_r (law.exact v asks.ws l.heap (memory_serves v x l asks) met) in
        missing_stops v x l (record { asks = asks; lacks = λ us q w entry. (lacking.lacks us q w entry).0 }))

    pub branch_part : (leaves : PureLeaves S) → MatchesBranch n scope u.outs bs s b leaves → IsPart stands terms kept s If Gives Stops (λ v t l. IsTrue (all_true v b.conds)) leaves
    branch_part leaves is = of_result b.result leaves refl is

  pub core_leaves : (branches : List (PureBranch S)) (leaves : PureLeaves S) → ConsumeLaw memory stands terms u.pred ins s.memory branches → (kept s.memory → Each (λ b. kept b.state) branches)
      → Gathers (MatchesBranch n scope u.outs bs s) branches leaves → AreLeaves stands terms kept s If Gives Stops leaves
  core_leaves branches leaves law still_kept gathers =
      let Over : PureBranch S → Type 0 = λ b. Each (λ a. IsOver s.vars (term_of a)) b.conds × EachTerm terms (IsOver s.vars) b in
      let lawful : Each IsLawful branches = each_by_place IsLawful branches (λ i b at. record {
        names = each_at Over branches i b (law.variables s.vars all_over tt) at;
        still_kept = λ k. each_at (λ (c : PureBranch S). kept c.state) branches i b (still_kept k) at;
        exact = λ v ws h serves met. each_at (λ (c : PureBranch S). IsTrue (all_true v c.conds) → IsConsumed memory stands terms u.pred v ws h c.state c.result) branches i b (law.exact s.vars v ws h serves) at met;
      }) in
      part_leaves stands terms kept s If Gives Stops (λ v t l. OneOf (λ b. IsTrue (all_true v b.conds)) branches) leaves
      (gathered stands terms kept s If Gives Stops (MatchesBranch n scope u.outs bs s) IsLawful (λ b v t l. IsTrue (all_true v b.conds)) (λ b more is here. branch_part b is more here) branches leaves lawful gathers)
      (λ v t l asks. law.cover s.vars v asks.ws l.heap (memory_serves v t l asks))
