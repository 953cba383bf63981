-- How leaves of cases are put together.
use Rattle.std.proofs.Common.{◌≡◌, ◌⊎◌, ⊎_elim, inl, inr, ℕ, suc, ◌+◌, List, [], ◌∷◌, ◌++◌, length, map, Option, Some, None, IsTrue, refl, sym, ap, subst, ◌∙◌, arith}
use Rattle.std.proofs.lemmas.List.{append-nil}
use Rattle.std.specs.Option.{option_and_then}
use Rattle.gil_values.specs.Pure.{PureValue}
use Rattle.gil_syntax.specs.declared.assertions.Param.{Param}
use Rattle.gil_syntax.specs.Evaluation.{Store}
use Rattle.gil_syntax.specs.Pure.{PurePredUse, PureItem, PurePredDef}
use Rattle.gil_syntax.specs.Programs.{find_pred}
use Rattle.gil_syntax.specs.Valid.{param_names}
use Rattle.mem_model.specs.Heaps.{Heap}
use Rattle.assert_logic.specs.LogicStates.{LogicState}
use Rattle.assert_logic.specs.Matching.{took_case, place_taken, CaseMatch, Cases, match_values, match_from, match_case, case_match, case_of, case_from, first_of, try_cases, try_pred, scope_of, values_of, case_store}
use Rattle.pure_terms.specs.Meaning.{all_true, IsProper, IsOver}
use Rattle.pure_terms.specs.Pure.{PureTerm, PureAtom, term_of}
use Rattle.sym_model.specs.Alternatives.{Hold}
use Rattle.sym_evaluation.specs.Meaning.{StandsFor, HaveValues, IsStoreOver}
use Rattle.sym_evaluation.specs.Pure.{PureStore, PureGoodCase}
use Rattle.sym_matching.specs.Matching.{SplitsCase, CaseStaysOver, AreTermsAt, TermsStayOver}
use Rattle.sym_matching.specs.Meaning.{IsReached, Gives as SplitGives, SaysSplit, AreConditions, IsFoundOver, AreTermsOfAll}
use Rattle.sym_matching.specs.Pure.{PureSplit}
use Rattle.sym_model.specs.Lists.{OneOf}
use Rattle.sym_model.specs.Terms.{StateTerms, all_of, AreEachOver}
use Rattle.sym_model.proofs.ListLaws.{each_append, each_to, each_map, one_map}
use Rattle.sym_states.specs.Meaning.{Serves, AreFacts, IsOverTable}
use Rattle.sym_states.specs.Pure.{PureState}
use Rattle.sym_states.proofs.Conditions.{met_parts, met_both}
use Rattle.footprint.specs.Assertions.{cases_at, ItemsGive, ItemsStop, AreAskedOver, CaseGives, CaseStops, CasesMatched}
use Rattle.footprint.specs.Cases.{AreOverTable, at_number, renumbered, EndsMatch, EndsCase, FinishesMatch, Finishes, CaseGive, CaseStop, CasesGive, CasesStop, CaseTried, NextCase, AsksPred, PredGives, PredStops, FoundGives, FoundStops, PredTried, PredMatched}
use Rattle.footprint.specs.Items.{SpreadsValues}
use Rattle.footprint.specs.Leaves.{Premise, Giving, Stopping, IsLater, IsMatch, IsStop, IsUndecided, AreLeaves}
use Rattle.footprint.specs.Pure.{PureMatch, PureStop, PureLeaves}
use Rattle.footprint.specs.Spreading.{joined, with_conds, spread, all_stop, stops_at, IsRenewed}
use Rattle.footprint.specs.Uses.{PureAsked, AsksUse}
use Rattle.footprint.proofs.AssertionLaws.{said_otherwise}
use Rattle.footprint.proofs.Outs.{same_values, Holding, OutsGive, OutsStop, outs_leaves}
use Rattle.footprint.proofs.Parts.{over_of, same_vars, IsPart, part_leaves, part_both, part_where, said_by, gathered, lifted, stops_each, stops_cover, all_stop_part}

-- ---- on values

first_of_more : (a b c : Option CaseMatch) → first_of a (first_of b c) ≡ first_of (first_of a b) c
first_of_more (Some x) b c = refl
first_of_more None b c = refl

first_of_none : (a : Option CaseMatch) → first_of a None ≡ a
first_of_none (Some x) = refl
first_of_none None = refl

module _ (cases : Cases) (d : PurePredDef) (body : List PureItem) (t : Store) (l : LogicState) where
  abbrev this_case : ℕ → Option CaseMatch
  this_case i = case_of d i (match_from cases (scope_of d) 0 body t l)

  pub cases_more : (k j : ℕ) (bodies : List (List PureItem)) → j ≡ k + length bodies → try_cases cases d k (bodies ++ body ∷ []) t l ≡ first_of (try_cases cases d k bodies t l) (this_case j)
  cases_more k j [] size = first_of_none (this_case k) ∙ ap this_case (omega (arith, size))
  cases_more k j (first ∷ bodies) size =
      ap (first_of (case_of d k (match_from cases (scope_of d) 0 first t l))) (cases_more (k + 1) j bodies (omega (arith, size)))
      ∙ first_of_more (case_of d k (match_from cases (scope_of d) 0 first t l)) (try_cases cases d (k + 1) bodies t l) (this_case j)

module _ {S : Type 0} (stands : S → List PureValue → Heap → Type 0) (terms : S → StateTerms) (kept : S → Type 0) where
  -- ---- the end of a case

  module _ (n : ℕ) (cases : Cases) (d : PurePredDef) (items : List PureItem) (s : PureState S) (bs : PureStore) where
    abbrev Begun : Premise
    Begun = Serves stands terms s bs

    abbrev Give : Giving
    Give = CaseGive cases d items

    abbrev Stop : Stopping
    Stop = CaseStop n cases d items

    abbrev IsItemsMatch : PureMatch S → Type 0
    IsItemsMatch m = IsMatch stands terms kept s Begun (ItemsGive cases (scope_of d) items) m

    with_terms : (m : PureMatch S) (ts : List PureTerm) → IsItemsMatch m → AreTermsAt m.store (param_names d.outs) (Some ts) → IsMatch stands terms kept s Begun Give m
    with_terms m ts is at = record {
      later = is.later;
      store_over = is.store_over;
      exact = λ v t l serves met.
          let (t', (l', ((taken, found), there))) = is.exact v t l serves met in
          let (ws, outs_are) = some_there v ts (values_of t' (param_names d.outs)) (at v t' there.store) in (
            t',
            (
              l',
              (
                record {
                  outs = ws;
                  found = λ i. (took_case i (map place_taken taken), ap (case_of d i) found ∙ ap (case_from i (record { store = t'; state = l'; taken = taken })) outs_are);
                  outs_are = outs_are;
                },
                there,
              ),
            ),
          );
    }
      where
        some_there : (v : List PureValue) (ts : List PureTerm) (o : Option (List PureValue)) → AreTermsOfAll v (Some ts) o → (ws : List PureValue) × (o ≡ Some ws)
        some_there v ts (Some ws) are = (ws, refl)
        some_there v ts None are = absurd are

    without_terms : (m : PureMatch S) → IsItemsMatch m → AreTermsAt m.store (param_names d.outs) None → IsStop stands terms kept s Begun Stop (record { item = n; conds = m.state.conds })
    without_terms m is at = record {
      longer = is.later.longer;
      over = subst (λ vars. AreOverTable vars m.state.conds) (same_vars stands terms kept s m.state is.later) is.later.over.conds;
      exact = λ v t l serves met.
          let (t', (l', ((taken, found), there))) = is.exact v t l serves met in
          let none = none_there v (values_of t' (param_names d.outs)) (at v t' there.store) in
          (refl, (λ i. ap (case_of d i) found ∙ ap (case_from i (record { store = t'; state = l'; taken = taken })) none));
    }
      where
        none_there : (v : List PureValue) (o : Option (List PureValue)) → AreTermsOfAll v None o → o ≡ None
        none_there v None are = refl
        none_there v (Some ws) are = absurd are

    ended_part : (m : PureMatch S) (leaves : PureLeaves S) → IsItemsMatch m → EndsMatch n d.outs m leaves → IsPart stands terms kept s Begun Give Stop (λ v t l. IsTrue (all_true v m.state.conds)) leaves
    ended_part m leaves is (Some ts, (at, here)) = subst (IsPart stands terms kept s Begun Give Stop (λ v t l. IsTrue (all_true v m.state.conds))) (sym here) (record {
      cover = λ v t l serves met. inl (inl met);
      matched = (with_terms m ts is at, tt);
      stopped = tt;
      undecided = tt;
    })
    ended_part m leaves is (None, (at, here)) = subst (IsPart stands terms kept s Begun Give Stop (λ v t l. IsTrue (all_true v m.state.conds))) (sym here) (record {
      cover = λ v t l serves met. inr (inl (inl met));
      matched = tt;
      stopped = (without_terms m is at, tt);
      undecided = tt;
    })

    pub end_leaves : (before after : PureLeaves S) → AreLeaves stands terms kept s Begun (ItemsGive cases (scope_of d) items) (ItemsStop cases (scope_of d) items) before → EndsCase n d.outs before after
        → AreLeaves stands terms kept s Begun Give Stop after
    end_leaves before after are (ended, (gathers, is)) =
        let Rest : Premise = λ v t l. OneOf (λ c. IsTrue (all_true v c.conds)) before.stopped ⊎ OneOf (λ u. IsTrue (all_true v u.conds)) before.undecided in
        let Found : Premise = λ v t l. OneOf (λ m. IsTrue (all_true v m.state.conds)) before.matched in
        let rest_of : PureLeaves S = record { matched = []; stopped = renumbered n before.stopped; undecided = before.undecided } in
        let there : IsPart stands terms kept s Begun Give Stop Found ended =
        gathered stands terms kept s Begun Give Stop (EndsMatch n d.outs) IsItemsMatch (λ m v t l. IsTrue (all_true v m.state.conds)) ended_part before.matched ended are.matched gathers in
        let rest : IsPart stands terms kept s Begun Give Stop Rest rest_of = record {
          cover = λ v t l serves one. inr (⊎_elim (λ stop. inl (one_map (λ c. IsTrue (all_true v c.conds)) (at_number n) before.stopped stop)) (λ und. inr und) one);
          matched = tt;
          stopped = each_map (IsStop stands terms kept s Begun Stop) (at_number n) before.stopped
              (each_to (IsStop stands terms kept s Begun (ItemsStop cases (scope_of d) items)) (λ c. IsStop stands terms kept s Begun Stop (at_number n c)) before.stopped
              (λ c stop. record {
                longer = stop.longer;
                over = stop.over;
                exact = λ v t l serves met. (refl, (λ i. ap (case_of d i) (stop.exact v t l serves met)));
              }) are.stopped);
          undecided = are.undecided;
        } in
        subst (AreLeaves stands terms kept s Begun Give Stop) (sym is)
        (part_leaves stands terms kept s Begun Give Stop (λ v t l. Rest v t l ⊎ Found v t l) (joined rest_of ended)
        (part_both stands terms kept s Begun Give Stop Rest Found rest_of ended rest there)
        (λ v t l serves. ⊎_elim (λ found. inr found) (λ other. inl other) (are.cover v t l serves)))

  -- ---- a state under other conditions

  module _ (s : PureState S) (bs : PureStore) (over : IsOverTable terms s) (store_over : IsStoreOver s.vars bs) (conds : List PureAtom) (conds_over : AreOverTable s.vars conds) (r : PureState S)
      (renewed : IsRenewed stands terms kept s conds r) where
    renewed_table : r.vars ≡ s.vars
    renewed_table = ap (λ (y : PureState S). y.vars) renewed.is

    renewed_conds : r.conds ≡ conds
    renewed_conds = ap (λ (y : PureState S). y.conds) renewed.is

    renewed_facts : r.facts ≡ s.facts
    renewed_facts = ap (λ (y : PureState S). y.facts) renewed.is

    pub renewed_over : IsOverTable terms r
    renewed_over = subst (IsOverTable terms) (sym renewed.is) (record {
      conds = conds_over;
      given = over.given;
      memory = subst (λ ts. AreEachOver s.vars (all_of ts)) (sym renewed.memory.same_terms) over.memory;
      facts = over.facts;
    })

    pub renewed_store_over : IsStoreOver r.vars bs
    renewed_store_over = subst (λ vars. IsStoreOver vars bs) (sym renewed_table) store_over

    renewed_serves : (v : List PureValue) (t : Store) (l : LogicState) → Serves stands terms s bs v t l → IsTrue (all_true v r.conds) → Serves stands terms r bs v t l
    renewed_serves v t l serves met = record {
      over = renewed_over;
      store_over = renewed_store_over;
      store = serves.store;
      state = record {
        proper = subst (λ vars. IsProper vars v) (sym renewed_table) serves.state.proper;
        meets = met;
        memory = renewed.memory.stands_for v l.heap serves.state.memory;
        facts = subst (λ cs. AreFacts v cs l.facts) (sym renewed_facts) serves.state.facts;
      };
    }

    renewed_later : (more : List PureAtom) → conds ≡ s.conds ++ more → IsLater stands terms kept s r
    renewed_later more grown = record {
      longer = (more, renewed_conds ∙ grown);
      same_else = renewed.is ∙ (λ i. record s { conds = sym renewed_conds i; memory = r.memory; facts = sym renewed_facts i });
      over = renewed_over;
      still_kept = renewed.memory.still_kept;
    }

  -- ---- the next case

  module _ (n : ℕ) (cases : Cases) (d : PurePredDef) (bodies : List (List PureItem)) (body : List PureItem) (s : PureState S) (bs : PureStore) (over : IsOverTable terms s) (store_over : IsStoreOver s.vars bs) where
    abbrev Start : Premise
    Start = Serves stands terms s bs

    abbrev Before : Giving
    Before = CasesGive cases d bodies

    abbrev After : Giving
    After = CasesGive cases d (bodies ++ body ∷ [])

    abbrev NoneBefore : Stopping
    NoneBefore = CasesStop n cases d bodies

    abbrev NoneAfter : Stopping
    NoneAfter = CasesStop n cases d (bodies ++ body ∷ [])

    all_is : (t : Store) (l : LogicState) → try_cases cases d 0 (bodies ++ body ∷ []) t l ≡ first_of (try_cases cases d 0 bodies t l) (this_case cases d body t l (length bodies))
    all_is t l = cases_more cases d body t l 0 (length bodies) bodies (omega arith)

    still_given : (v : List PureValue) (t : Store) (l : LogicState) (u : Store) (k : LogicState) → Before v t l u k → After v t l u k
    still_given v t l u k g = record {
      outs = g.outs;
      taken = g.taken;
      found = all_is t l ∙ ap (λ o. first_of o (this_case cases d body t l (length bodies))) g.found;
      outs_are = g.outs_are;
    }

    case_part : (c : PureStop) (leaves : PureLeaves S) → IsStop stands terms kept s Start NoneBefore c → CaseTried stands terms kept n cases d (scope_of d) body s bs c.conds leaves
        → IsPart stands terms kept s Start After NoneAfter (λ v t l. IsTrue (all_true v c.conds)) leaves
    case_part c leaves stop (r, (renewed, tried)) =
        let (more, grown) = stop.longer in
        let conds_are = renewed_conds s bs over store_over c.conds stop.over r renewed in
        part_where stands terms kept s Start After NoneAfter (λ v t l. IsTrue (all_true v r.conds)) (λ v t l. IsTrue (all_true v c.conds)) leaves
        (λ v t l serves met. subst (λ cs. IsTrue (all_true v cs)) (sym conds_are) met)
        (lifted stands terms kept s r Start (Serves stands terms r bs) After (CaseGive cases d body) NoneAfter (CaseStop n cases d body) (renewed_later s bs over store_over c.conds stop.over r renewed more grown)
        (λ v t l serves met.
        let none = (stop.exact v t l serves (subst (λ cs. IsTrue (all_true v cs)) conds_are met)).1 in
        record {
          next_store = t;
          next_state = l;
          premise = renewed_serves s bs over store_over c.conds stop.over r renewed v t l serves met;
          gives = λ u k g. let (taken, is) = g.found (length bodies) in record {
            outs = g.outs;
            taken = taken;
            found = all_is t l ∙ ap (λ o. first_of o (this_case cases d body t l (length bodies))) none ∙ is;
            outs_are = g.outs_are;
          };
          stops = λ k (number, is). (number, all_is t l ∙ ap (λ o. first_of o (this_case cases d body t l (length bodies))) none ∙ is (length bodies));
        }) leaves (tried refl))

    pub next_case_leaves : (before after : PureLeaves S) → AreLeaves stands terms kept s Start Before NoneBefore before → NextCase stands terms kept n cases d (scope_of d) body s bs before after
        → AreLeaves stands terms kept s Start After NoneAfter after
    next_case_leaves before after are (next, (gathers, is)) =
        let Rest : Premise = λ v t l. OneOf (λ m. IsTrue (all_true v m.state.conds)) before.matched ⊎ OneOf (λ u. IsTrue (all_true v u.conds)) before.undecided in
        let Open : Premise = λ v t l. OneOf (λ c. IsTrue (all_true v c.conds)) before.stopped in
        let rest_of : PureLeaves S = record { matched = before.matched; stopped = []; undecided = before.undecided } in
        let there : IsPart stands terms kept s Start After NoneAfter Open next =
        gathered stands terms kept s Start After NoneAfter (λ c. CaseTried stands terms kept n cases d (scope_of d) body s bs c.conds) (IsStop stands terms kept s Start NoneBefore) (λ c v t l. IsTrue (all_true v c.conds)) case_part before.stopped next are.stopped gathers in
        let rest : IsPart stands terms kept s Start Before NoneAfter Rest rest_of = record {
          cover = λ v t l serves one. ⊎_elim (λ found. inl found) (λ und. inr (inr und)) one;
          matched = are.matched;
          stopped = tt;
          undecided = are.undecided;
        } in
        let rest_after : IsPart stands terms kept s Start After NoneAfter Rest rest_of = said_by stands terms kept s Start Before After NoneAfter NoneAfter Rest rest_of still_given (λ v t l k stop. stop) rest in
        subst (AreLeaves stands terms kept s Start After NoneAfter) (sym is)
        (part_leaves stands terms kept s Start After NoneAfter (λ v t l. Rest v t l ⊎ Open v t l) (joined rest_of next)
        (part_both stands terms kept s Start After NoneAfter Rest Open rest_of next rest_after there)
        (λ v t l serves. ⊎_elim (λ found. inl (inl found)) (λ other. ⊎_elim (λ stop. inr stop) (λ und. inl (inr und)) other) (are.cover v t l serves)))

  -- no case is tried yet
  pub no_case_leaves : (n : ℕ) (cases : Cases) (d : PurePredDef) (s : PureState S) (bs : PureStore) → IsOverTable terms s
      → AreLeaves stands terms kept s (Serves stands terms s bs) (CasesGive cases d []) (CasesStop n cases d []) (record { matched = []; stopped = record { item = n; conds = s.conds } ∷ []; undecided = [] })
  no_case_leaves n cases d s bs over = record {
    cover = λ v t l serves. inr (inl (inl serves.state.meets));
    matched = tt;
    stopped = (record { longer = ([], sym (append-nil s.conds)); over = over.conds; exact = λ v t l serves met. (refl, refl) }, tt);
    undecided = tt;
  }

  -- ---- the cases of a predicate

  module _ (n : ℕ) (cases : Cases) (d : PurePredDef) (a : PureAsked) (s : PureState S) (over : IsOverTable terms s) (asked_over : AreAskedOver s.vars a) (x : PureSplit PureStore)
      (says : SplitsCase d a.ins a.known x) (names : CaseStaysOver a.ins a.known x) where
    abbrev Asks : Premise
    Asks = AsksPred stands terms kept s a

    abbrev Gives : Giving
    Gives = PredGives cases d a

    abbrev Stops : Stopping
    Stops = PredStops n cases d a

    said : (v : List PureValue) (t : Store) (l : LogicState) (asks : Asks v t l) → SaysSplit v (StandsFor v) x (case_store d asks.values.0 asks.values.1)
    said v t l asks = says s.vars v asks.values.0 asks.values.1 asks.state.proper asked_over.0 asked_over.1 asks.are.0 asks.are.1

    abbrev pub misfits : PureLeaves S
    misfits = record { matched = []; stopped = stops_at n s.conds x.none; undecided = [] }

    misfits_part : IsPart stands terms kept s Asks Gives Stops (λ v t l. Hold v x.none) misfits
    misfits_part = record {
      cover = λ v t l asks hold. inr (inl (stops_cover stands terms kept n s Asks Stops over v x.none asks.state.meets hold));
      matched = tt;
      stopped = stops_each stands terms kept n s Asks Stops over x.none
          (each_to (AreConditions s.vars) (AreOverTable s.vars) x.none (λ conds are. over_of s.vars conds are) (names s.vars asked_over.0 asked_over.1).none)
          (λ v t l asks hold. record {
            number = refl;
            values = asks.values;
            are = asks.are;
            none = ap (option_and_then (λ t0. try_cases cases d 0 d.cases t0 l)) ((said v t l asks).none hold);
          });
      undecided = tt;
    }

    pub misfit_leaves : x.found ≡ None → AreLeaves stands terms kept s Asks Gives Stops misfits
    misfit_leaves none =
        part_leaves stands terms kept s Asks Gives Stops (λ v t l. Hold v x.none) misfits misfits_part
        (λ v t l asks. ⊎_elim (λ reached. absurd (subst (IsReached v) none reached)) (λ hold. hold) (said v t l asks).cover)

    module _ (g : PureGoodCase PureStore) (is_g : x.found ≡ Some g) where
      abbrev q : PureState S
      q = with_conds s g.conds

      g_over : AreConditions s.vars g.conds × IsStoreOver s.vars g.result
      g_over = subst (IsFoundOver (IsStoreOver s.vars) s.vars) is_g (names s.vars asked_over.0 asked_over.1).found

      pub case_over : IsOverTable terms q
      case_over = record {
        conds = each_append (λ c. IsOver s.vars (term_of c)) s.conds g.conds over.conds (over_of s.vars g.conds g_over.0);
        given = over.given;
        memory = over.memory;
        facts = over.facts;
      }

      pub case_store_over : IsStoreOver s.vars g.result
      case_store_over = g_over.1

      pub pred_leaves : (more : PureLeaves S) → AreLeaves stands terms kept q (Serves stands terms q g.result) (CasesGive cases d d.cases) (CasesStop n cases d d.cases) more
          → AreLeaves stands terms kept s Asks Gives Stops (joined misfits more)
      pred_leaves more are =
          part_leaves stands terms kept s Asks Gives Stops (λ v t l. Hold v x.none ⊎ IsTrue (all_true v q.conds)) (joined misfits more)
          (part_both stands terms kept s Asks Gives Stops (λ v t l. Hold v x.none) (λ v t l. IsTrue (all_true v q.conds)) misfits more misfits_part
          (lifted stands terms kept s q Asks (Serves stands terms q g.result) Gives (CasesGive cases d d.cases) Stops (CasesStop n cases d d.cases)
          (record { longer = (g.conds, refl); same_else = refl; over = case_over; still_kept = λ k. k })
          (λ v t l asks met.
          let reached : IsReached v x.found = subst (IsReached v) (sym is_g) (met_parts v s.conds g.conds met).1 in
          let (t0, (store_is, stands_for)) = subst (λ (o : Option (PureGoodCase PureStore)). SplitGives (StandsFor v) o (case_store d asks.values.0 asks.values.1)) is_g ((said v t l asks).found reached) in
          record {
            next_store = t0;
            next_state = l;
            premise = record {
              over = case_over;
              store_over = g_over.1;
              store = stands_for;
              state = record { proper = asks.state.proper; meets = met; memory = asks.state.memory; facts = asks.state.facts };
            };
            gives = λ u k w. record {
              values = asks.values;
              are = asks.are;
              outs = w.outs;
              taken = w.taken;
              found = ap (option_and_then (λ t1. try_cases cases d 0 d.cases t1 l)) store_is ∙ w.found;
              outs_are = w.outs_are;
            };
            stops = λ k (number, none). record {
              number = number;
              values = asks.values;
              are = asks.are;
              none = ap (option_and_then (λ t1. try_cases cases d 0 d.cases t1 l)) store_is ∙ none;
            };
          }) more are))
          (λ v t l asks. ⊎_elim (λ reached. inr (met_both v s.conds g.conds asks.state.meets (subst (IsReached v) is_g reached))) (λ hold. inl hold) (said v t l asks).cover)

  -- ---- the outs of the use

  module _ (n : ℕ) (cases : Cases) (scope : List Param) (d : PurePredDef) (u : PurePredUse) (s : PureState S) (bs : PureStore) (a : PureAsked) (over : IsOverTable terms s) (store_over : IsStoreOver s.vars bs) where
    abbrev Used : Premise
    Used = AsksUse stands terms s bs a

    abbrev Found : Giving
    Found = FoundGives cases scope d u a

    abbrev Ends : Stopping
    Ends = FoundStops n cases scope d u a

    asks_pred : (v : List PureValue) (t : Store) (l : LogicState) → Used v t l → AsksPred stands terms kept s a v t l
    asks_pred v t l asks = record { over = over; state = asks.serves.state; values = asks.values; are = asks.are }

    abbrev IsPredMatch : PureMatch S → Type 0
    IsPredMatch m = IsMatch stands terms kept s (AsksPred stands terms kept s a) (PredGives cases d a) m

    module _ (m : PureMatch S) (is : IsPredMatch m) where
      table : m.state.vars ≡ s.vars
      table = same_vars stands terms kept s m.state is.later

      bs_over : IsStoreOver m.state.vars bs
      bs_over = subst (λ vars. IsStoreOver vars bs) (sym table) store_over

      with_outs : (ts : List PureTerm) (leaves : PureLeaves S) → AreTermsAt m.store (param_names d.outs) (Some ts) → TermsStayOver m.store (Some ts) → SpreadsValues n scope u.outs bs m.state ts leaves
          → IsPart stands terms kept s Used Found Ends (λ v t l. IsTrue (all_true v m.state.conds)) leaves
      with_outs ts leaves at names (x, (says, stays, plainly, origin, leaves_are)) =
          let ts_over : AreEachOver m.state.vars ts = names m.state.vars (subst (λ vars. IsStoreOver vars m.store) (sym table) is.store_over) in
          subst (IsPart stands terms kept s Used Found Ends (λ v t l. IsTrue (all_true v m.state.conds))) (sym leaves_are)
          (lifted stands terms kept s m.state Used (Holding stands terms m.state bs ts) Found (OutsGive scope u.outs ts) Ends (OutsStop n scope u.outs ts) is.later
          (λ v t l asks met.
          let (t', (l', (g, there))) = is.exact v t l (asks_pred v t l asks) met in
          let have : HaveValues v ts g.outs = subst (AreTermsOfAll v (Some ts)) g.outs_are (at v t' there.store) in
          record {
            next_store = t;
            next_state = l';
            premise = record {
              serves = record { over = is.later.over; store_over = bs_over; store = asks.serves.store; state = there.state };
              us = g.outs;
              have = have;
            };
            gives = λ y k (us, (have_us, found, left)).
                let same : us ≡ g.outs = same_values v ts us g.outs have_us have in
                record {
                  values = g.values;
                  are = g.are;
                  taken = g.taken;
                  is = ap (λ o. match_case scope u.outs o t) g.found ∙ ap (case_match (record { outs = g.outs; state = l'; taken = g.taken })) (subst (λ ws. match_values scope u.outs ws t ≡ Some y) same found)
                      ∙ ap (λ (z : LogicState). Some (record { store = y; state = z; taken = g.taken })) (sym left);
                };
            stops = λ k (number, (us, (have_us, none))).
                let same : us ≡ g.outs = same_values v ts us g.outs have_us have in
                record {
                  number = number;
                  values = g.values;
                  are = g.are;
                  is = ap (λ o. match_case scope u.outs o t) g.found ∙ ap (case_match (record { outs = g.outs; state = l'; taken = g.taken })) (subst (λ ws. match_values scope u.outs ws t ≡ None) same none);
                };
          }) (spread n m.state x)
          (outs_leaves stands terms kept n scope u.outs m.state bs ts x is.later.over bs_over ts_over says stays))

      without_outs : (leaves : PureLeaves S) → AreTermsAt m.store (param_names d.outs) None → leaves ≡ all_stop n m.state → IsPart stands terms kept s Used Found Ends (λ v t l. IsTrue (all_true v m.state.conds)) leaves
      without_outs leaves at leaves_are = subst (IsPart stands terms kept s Used Found Ends (λ v t l. IsTrue (all_true v m.state.conds))) (sym leaves_are) (record {
        cover = λ v t l asks met. inr (inl (inl met));
        matched = tt;
        stopped = (
          record {
            longer = is.later.longer;
            over = subst (λ vars. AreOverTable vars m.state.conds) table is.later.over.conds;
            exact = λ v t l asks met.
                let (t', (l', (g, there))) = is.exact v t l (asks_pred v t l asks) met in
                let none : ⊥ = subst (AreTermsOfAll v None) g.outs_are (at v t' there.store) in absurd none;
          },
          tt,
        );
        undecided = tt;
      })

      finish_part : (leaves : PureLeaves S) → FinishesMatch n scope u.outs bs d.outs m leaves → IsPart stands terms kept s Used Found Ends (λ v t l. IsTrue (all_true v m.state.conds)) leaves
      finish_part leaves (Some ts, (at, names, are_terms, here)) = with_outs ts leaves at names here
      finish_part leaves (None, (at, names, are_terms, here)) = without_outs leaves at here

    pub finish_leaves : (before after : PureLeaves S) → PredTried stands terms kept n cases d a s before → Finishes n scope u.outs bs d.outs before after → PredMatched stands terms kept n cases scope d u bs a s after
    finish_leaves before after are (next, (gathers, is)) =
        let Rest : Premise = λ v t l. OneOf (λ c. IsTrue (all_true v c.conds)) before.stopped ⊎ OneOf (λ w. IsTrue (all_true v w.conds)) before.undecided in
        let Matched : Premise = λ v t l. OneOf (λ m. IsTrue (all_true v m.state.conds)) before.matched in
        let rest_of : PureLeaves S = record { matched = []; stopped = before.stopped; undecided = before.undecided } in
        let there : IsPart stands terms kept s Used Found Ends Matched next =
        gathered stands terms kept s Used Found Ends (FinishesMatch n scope u.outs bs d.outs) IsPredMatch (λ m v t l. IsTrue (all_true v m.state.conds)) (λ m more one here. finish_part m one more here) before.matched next are.matched gathers in
        let rest : IsPart stands terms kept s Used Found Ends Rest rest_of = record {
          cover = λ v t l asks one. inr one;
          matched = tt;
          stopped = each_to (IsStop stands terms kept s (AsksPred stands terms kept s a) (PredStops n cases d a)) (IsStop stands terms kept s Used Ends) before.stopped
              (λ c stop. record {
                longer = stop.longer;
                over = stop.over;
                exact = λ v t l asks met. let none = stop.exact v t l (asks_pred v t l asks) met in record {
                  number = none.number;
                  values = none.values;
                  are = none.are;
                  is = ap (λ o. match_case scope u.outs o t) none.none;
                };
              }) are.stopped;
          undecided = each_to (IsUndecided stands terms kept s (AsksPred stands terms kept s a)) (IsUndecided stands terms kept s Used) before.undecided (λ w und. record { longer = und.longer; outside = und.outside }) are.undecided;
        } in
        subst (AreLeaves stands terms kept s Used Found Ends) (sym is)
        (part_leaves stands terms kept s Used Found Ends (λ v t l. Rest v t l ⊎ Matched v t l) (joined rest_of next)
        (part_both stands terms kept s Used Found Ends Rest Matched rest_of next rest there)
        (λ v t l asks. ⊎_elim (λ found. inr found) (λ other. inl other) (are.cover v t l (asks_pred v t l asks))))

  -- ---- the predicate of a name

  pub cases_found : (n k : ℕ) (preds : List PurePredDef) (scope : List Param) (d : PurePredDef) (u : PurePredUse) (s : PureState S) (bs : PureStore) (a : PureAsked) (leaves : PureLeaves S) → IsOverTable terms s
      → find_pred preds u.pred ≡ Some d → PredMatched stands terms kept n (cases_at preds k) scope d u bs a s leaves → CasesMatched stands terms kept n (cases_at preds (suc k)) scope u bs a s leaves
  cases_found n k preds scope d u s bs a leaves over found are =
      said_otherwise stands terms kept s (AsksUse stands terms s bs a) (AsksUse stands terms s bs a) (CaseGives (cases_at preds (suc k)) scope u a) (FoundGives (cases_at preds k) scope d u a)
      (CaseStops n (cases_at preds (suc k)) scope u a) (FoundStops n (cases_at preds k) scope d u a) leaves over
      (λ v t l asks. asks.serves.state.meets) (λ v t l asks. asks)
      (λ v t l y r asks g. record { values = g.values; are = g.are; taken = g.taken; is = ap (λ o. match_case scope u.outs (try_pred (cases_at preds k) o g.values.0 g.values.1 l) t) found ∙ g.is })
      (λ v t l r asks g. record { number = g.number; values = g.values; are = g.are; is = ap (λ o. match_case scope u.outs (try_pred (cases_at preds k) o g.values.0 g.values.1 l) t) found ∙ g.is })
      are

  pub cases_unfound : (n : ℕ) (cases : Cases) (scope : List Param) (u : PurePredUse) (s : PureState S) (bs : PureStore) (a : PureAsked) (leaves : PureLeaves S) → IsOverTable terms s
      → ((ws : List PureValue) (os : List (Option PureValue)) (l : LogicState) → cases u.pred ws os l ≡ None) → leaves ≡ all_stop n s → CasesMatched stands terms kept n cases scope u bs a s leaves
  cases_unfound n cases scope u s bs a leaves over none is =
      subst (CasesMatched stands terms kept n cases scope u bs a s) (sym is)
      (part_leaves stands terms kept s (AsksUse stands terms s bs a) (CaseGives cases scope u a) (CaseStops n cases scope u a) (λ v t l. IsTrue (all_true v s.conds)) (all_stop n s)
      (all_stop_part stands terms kept n s (AsksUse stands terms s bs a) (CaseStops n cases scope u a) over (CaseGives cases scope u a)
      (λ v t l asks met. record { number = refl; values = asks.values; are = asks.are; is = ap (λ o. match_case scope u.outs o t) (none asks.values.0 asks.values.1 l) }))
      (λ v t l asks. asks.serves.state.meets))
