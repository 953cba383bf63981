-- How leaves of uses and items are put together.
use Rattle.std.proofs.Common.{◌≡◌, ◌⊎◌, ⊎_elim, inl, inr, ℕ, List, [], ◌∷◌, ◌++◌, Option, Some, None, Result, Ok, Err, IsTrue, refl, sym, ap, subst, ◌∙◌}
use Rattle.std.proofs.lemmas.List.{append-nil}
use Rattle.gil_values.specs.Operators.{Fault}
use Rattle.gil_values.specs.Pure.{PureValue}
use Rattle.gil_syntax.specs.declared.assertions.Param.{Param}
use Rattle.gil_syntax.specs.Evaluation.{Store, Outcomes, evaluate_all}
use Rattle.gil_syntax.specs.Pure.{PurePredUse, uses}
use Rattle.mem_model.specs.declared.cores.Core.{Core}
use Rattle.mem_model.specs.CoreNames.{core_of}
use Rattle.mem_model.specs.Heaps.{Heap}
use Rattle.assert_logic.specs.LogicStates.{LogicState}
use Rattle.assert_logic.specs.Matching.{took_fact, FoundFact, Cases, no_cases, first_fact, fits_fact, fact_match, known_outs, match_fact_or, match_use, match_outcomes, match_item}
use Rattle.pure_terms.specs.Meaning.{all_true, IsProper, IsOver}
use Rattle.pure_terms.specs.Pure.{PureTerm, PureAtom, term_of}
use Rattle.sym_model.specs.Alternatives.{Hold}
use Rattle.sym_evaluation.specs.Meaning.{AreSame, IsStoreOver}
use Rattle.sym_evaluation.specs.Pure.{PureStore, PureGoodCase}
use Rattle.sym_matching.specs.Meaning.{IsReached, Gives as SplitGives, SaysSplit, AreConditions, AreOuts, AreOutsOver}
use Rattle.sym_matching.specs.Pure.{PureSplit, PureOuts}
use Rattle.sym_model.specs.Lists.{Each, OneOf}
use Rattle.sym_model.specs.Terms.{StateTerms, all_of, AreEachOver}
use Rattle.sym_model.proofs.ListLaws.{same_some, not_none, each_append, each_by_place, each_at}
use Rattle.sym_states.specs.Meaning.{Serves, AreFacts, IsOverTable}
use Rattle.sym_states.specs.Pure.{PureState}
use Rattle.sym_states.proofs.Conditions.{met_parts, met_both}
use Rattle.sym_states.proofs.PureItems.{store_serves}
use Rattle.footprint.specs.Assertions.{AreAskedOver, UseGives, UseStops, CaseGives, CaseStops, IsOpen, CasesMatched}
use Rattle.footprint.specs.Choosing.{PureFactCase, PureChoice, SaysFirst, ChoosesFact, ChoiceStaysOver}
use Rattle.footprint.specs.Items.{ItemGives, ItemStops, AsksIns, CoreGives, CoreStops}
use Rattle.footprint.specs.Leaves.{Premise, Giving, Stopping, IsLater, AreLeaves}
use Rattle.footprint.specs.Pure.{PureLeaves}
use Rattle.footprint.specs.Spreading.{joined, stops_at, with_conds, Gathers, IsCopyUnder}
use Rattle.footprint.specs.Uses.{PureAsked, AskedValues, asked_values, AreAsked, SplitsUse, IsAskedOver, UseStaysOver, AsksUse, FactGives, FactStops, TakesFact, AreCopiesUnder}
use Rattle.footprint.proofs.Parts.{AreOverTable, over_of, IsPart, part_leaves, part_both, said_by, gathered, lifted, stops_each, stops_cover}
use Rattle.footprint.proofs.UseLaws.{fact_part}

-- ---- the values of what is asked are one

same_outs : (v : List PureValue) (ks : PureOuts) (os rs : List (Option PureValue)) → AreOuts v ks os → AreOuts v ks rs → os ≡ rs
same_outs v [] [] [] first second = refl
same_outs v (k ∷ ks) (o ∷ os) (r ∷ rs) first second = (λ i. same_out k o r first.0 second.0 i ∷ same_outs v ks os rs first.1 second.1 i)
  where
    same_out : (k : Option PureTerm) (o r : Option PureValue) → AreSame v k o → AreSame v k r → o ≡ r
    same_out (Some t) (Some w) (Some z) one two = sym one ∙ two
    same_out (Some t) (Some w) None one two = absurd two
    same_out (Some t) None r one two = absurd one
    same_out None None None one two = refl
    same_out None None (Some z) one two = absurd two
    same_out None (Some w) r one two = absurd one
same_outs v [] (o ∷ os) rs first second = absurd first
same_outs v [] [] (r ∷ rs) first second = absurd second
same_outs v (k ∷ ks) [] rs first second = absurd first
same_outs v (k ∷ ks) (o ∷ os) [] first second = absurd second

pub same_asked : (v : List PureValue) (a : PureAsked) (x y : AskedValues) → AreAsked v a x → AreAsked v a y → x ≡ y
same_asked v a x y first second =
    let ins : x.0 ≡ y.0 = same_some (sym first.0 ∙ second.0) in
    let outs : x.1 ≡ y.1 = same_outs v a.known x.1 y.1 first.1 second.1 in
    (λ i. (ins i, outs i))

module _ {S : Type 0} (stands : S → List PureValue → Heap → Type 0) (terms : S → StateTerms) (kept : S → Type 0) where
  -- ---- the same state

  pub later_itself : (s : PureState S) → IsOverTable terms s → IsLater stands terms kept s s
  later_itself s over = record { longer = ([], sym (append-nil s.conds)); same_else = refl; over = over; still_kept = λ k. k }

  -- leaves that say something else
  pub said_otherwise : (s : PureState S) (If Then : Premise) (Gives More : Giving) (Stops Ends : Stopping) (leaves : PureLeaves S) → IsOverTable terms s
      → ((v : List PureValue) (t : Store) (l : LogicState) → If v t l → IsTrue (all_true v s.conds))
      → ((v : List PureValue) (t : Store) (l : LogicState) → If v t l → Then v t l)
      → ((v : List PureValue) (t : Store) (l : LogicState) (u : Store) (k : LogicState) → If v t l → More v t l u k → Gives v t l u k)
      → ((v : List PureValue) (t : Store) (l : LogicState) (n : ℕ) → If v t l → Ends v t l n → Stops v t l n)
      → AreLeaves stands terms kept s Then More Ends leaves → AreLeaves stands terms kept s If Gives Stops leaves
  said_otherwise s If Then Gives More Stops Ends leaves over meets premise gives ends are =
      part_leaves stands terms kept s If Gives Stops (λ v t l. IsTrue (all_true v s.conds)) leaves
      (lifted stands terms kept s s If Then Gives More Stops Ends (later_itself s over)
      (λ v t l holds met. record { next_store = t; next_state = l; premise = premise v t l holds; gives = λ u k. gives v t l u k holds; stops = λ n. ends v t l n holds }) leaves are)
      meets

  -- ---- a use of which nothing is known

  module _ (n : ℕ) (cases : Cases) (scope : List Param) (u : PurePredUse) (s : PureState S) (bs : PureStore) (over : IsOverTable terms s) (store_over : IsStoreOver s.vars bs)
      (x : PureSplit PureAsked) (says : SplitsUse bs u x) (names : UseStaysOver bs x) where
    abbrev If : Premise
    If = Serves stands terms s bs

    abbrev Gives : Giving
    Gives = ItemGives cases scope (uses u)

    abbrev Stops : Stopping
    Stops = ItemStops n cases scope (uses u)

    said : (v : List PureValue) (t : Store) (l : LogicState) → If v t l → SaysSplit v (AreAsked v) x (asked_values (evaluate_all u.ins t) (known_outs t u.outs))
    said v t l serves = says s.vars v t (store_serves stands terms s bs v t l serves)

    use_known : (o : Outcomes) (r : Result (List (Option PureValue)) Fault) (values : AskedValues) (t : Store) (l : LogicState) → asked_values o r ≡ Some values
        → match_outcomes cases scope o r u t l ≡ match_use cases scope (core_of u.pred) u values.0 values.1 t l
    use_known (Ok ws) (Ok os) values t l is = ap (λ (y : AskedValues). match_use cases scope (core_of u.pred) u y.0 y.1 t l) (same_some is)
    use_known (Ok ws) (Err f) values t l is = not_none is
    use_known (Err f) r values t l is = not_none is

    use_unknown : (o : Outcomes) (r : Result (List (Option PureValue)) Fault) (t : Store) (l : LogicState) → asked_values o r ≡ None → match_outcomes cases scope o r u t l ≡ None
    use_unknown (Ok ws) (Ok os) t l is = not_none (sym is)
    use_unknown (Ok ws) (Err f) t l is = refl
    use_unknown (Err f) r t l is = refl

    none_over : Each (AreOverTable s.vars) x.none
    none_over = (names s.vars store_over).1

    abbrev pub faults : PureLeaves S
    faults = record { matched = []; stopped = stops_at n s.conds x.none; undecided = [] }

    faults_part : IsPart stands terms kept s If Gives Stops (λ v t l. Hold v x.none) faults
    faults_part = record {
      cover = λ v t l serves hold. inr (inl (stops_cover stands terms kept n s If Stops over v x.none serves.state.meets hold));
      matched = tt;
      stopped = stops_each stands terms kept n s If Stops over x.none none_over
          (λ v t l serves hold. (refl, use_unknown (evaluate_all u.ins t) (known_outs t u.outs) t l ((said v t l serves).none hold)));
      undecided = tt;
    }

    -- it surely has no values
    pub unasked_leaves : x.found ≡ None → AreLeaves stands terms kept s If Gives Stops faults
    unasked_leaves none =
        part_leaves stands terms kept s If Gives Stops (λ v t l. Hold v x.none) faults faults_part
        (λ v t l serves. ⊎_elim (λ reached. absurd (subst (IsReached v) none reached)) (λ hold. hold) (said v t l serves).cover)

    module _ (g : PureGoodCase PureAsked) (is_g : x.found ≡ Some g) where
      abbrev q : PureState S
      q = with_conds s g.conds

      asked_over : Each (λ a. IsOver s.vars (term_of a)) g.conds × AreEachOver s.vars g.result.ins × AreOutsOver s.vars g.result.known
      asked_over = subst (IsAskedOver s.vars) is_g (names s.vars store_over).0

      pub q_over : IsOverTable terms q
      q_over = record {
        conds = each_append (λ a. IsOver s.vars (term_of a)) s.conds g.conds over.conds asked_over.0;
        given = over.given;
        memory = over.memory;
        facts = over.facts;
      }

      pub q_asked_over : AreAskedOver s.vars g.result
      q_asked_over = (asked_over.1, asked_over.2)

      asks : (v : List PureValue) (t : Store) (l : LogicState) → If v t l → IsTrue (all_true v q.conds) → (values : AskedValues) × ((asked_values (evaluate_all u.ins t) (known_outs t u.outs) ≡ Some values) × AreAsked v g.result values)
      asks v t l serves met =
          let reached : IsReached v x.found = subst (IsReached v) (sym is_g) (met_parts v s.conds g.conds met).1 in
          subst (λ (o : Option (PureGoodCase PureAsked)). SplitGives (AreAsked v) o (asked_values (evaluate_all u.ins t) (known_outs t u.outs))) is_g ((said v t l serves).found reached)

      pub asked_leaves : (more : PureLeaves S)
          → AreLeaves stands terms kept q (AsksUse stands terms q bs g.result) (UseGives cases scope (core_of u.pred) u g.result) (UseStops n cases scope (core_of u.pred) u g.result) more
          → AreLeaves stands terms kept s If Gives Stops (joined faults more)
      asked_leaves more are =
          part_leaves stands terms kept s If Gives Stops (λ v t l. Hold v x.none ⊎ IsTrue (all_true v q.conds)) (joined faults more)
          (part_both stands terms kept s If Gives Stops (λ v t l. Hold v x.none) (λ v t l. IsTrue (all_true v q.conds)) faults more faults_part
          (lifted stands terms kept s q If (AsksUse stands terms q bs g.result) Gives (UseGives cases scope (core_of u.pred) u g.result) Stops (UseStops n cases scope (core_of u.pred) u g.result)
          (record { longer = (g.conds, refl); same_else = refl; over = q_over; still_kept = λ k. k })
          (λ v t l serves met.
          let (values, (known, asked)) = asks v t l serves met in
          let here : match_item cases scope (uses u) t l ≡ match_use cases scope (core_of u.pred) u values.0 values.1 t l = use_known (evaluate_all u.ins t) (known_outs t u.outs) values t l known in
          record {
            next_store = t;
            next_state = l;
            premise = record {
              serves = record {
                over = q_over;
                store_over = store_over;
                store = serves.store;
                state = record { proper = serves.state.proper; meets = met; memory = serves.state.memory; facts = serves.state.facts };
              };
              values = values;
              are = asked;
            };
            gives = λ y k w. (w.taken, here ∙ ap (λ (z : AskedValues). match_use cases scope (core_of u.pred) u z.0 z.1 t l) (sym (same_asked v g.result w.values values w.are asked)) ∙ w.is);
            stops = λ k w. (w.number, here ∙ ap (λ (z : AskedValues). match_use cases scope (core_of u.pred) u z.0 z.1 t l) (sym (same_asked v g.result w.values values w.are asked)) ∙ w.is);
          }) more are))
          (λ v t l serves. ⊎_elim
          (λ reached. inr (met_both v s.conds g.conds serves.state.meets (subst (IsReached v) is_g reached)))
          (λ hold. inl hold) (said v t l serves).cover)

  -- ---- a core predicate

  pub core_use : (n : ℕ) (cases : Cases) (scope : List Param) (core : Core) (u : PurePredUse) (s : PureState S) (bs : PureStore) (a : PureAsked) (leaves : PureLeaves S) → core_of u.pred ≡ Some core → IsOverTable terms s
      → AreLeaves stands terms kept s (AsksIns stands terms s bs a.ins) (CoreGives scope u a.ins) (CoreStops n scope u a.ins) leaves
      → AreLeaves stands terms kept s (AsksUse stands terms s bs a) (UseGives cases scope (core_of u.pred) u a) (UseStops n cases scope (core_of u.pred) u a) leaves
  core_use n cases scope core u s bs a leaves named over are =
      said_otherwise s (AsksUse stands terms s bs a) (AsksIns stands terms s bs a.ins) (UseGives cases scope (core_of u.pred) u a) (CoreGives scope u a.ins) (UseStops n cases scope (core_of u.pred) u a) (CoreStops n scope u a.ins) leaves over
      (λ v t l asks. asks.serves.state.meets)
      (λ v t l asks. record { serves = asks.serves; ws = asks.values.0; have_ins = asks.are.0 })
      (λ v t l x k asks (ws, (have, (taken, is))).
      let same : ws ≡ asks.values.0 = same_some (sym have ∙ asks.are.0) in
      record { values = asks.values; are = asks.are; taken = taken; is = other asks.values.0 asks.values.1 t l ∙ ap (λ vs. match_use no_cases scope (core_of u.pred) u vs [] t l) (sym same) ∙ is })
      (λ v t l k asks (number, (ws, (have, is))).
      let same : ws ≡ asks.values.0 = same_some (sym have ∙ asks.are.0) in
      record { number = number; values = asks.values; are = asks.are; is = other asks.values.0 asks.values.1 t l ∙ ap (λ vs. match_use no_cases scope (core_of u.pred) u vs [] t l) (sym same) ∙ is })
      are
    where
      other : (ws : List PureValue) (os : List (Option PureValue)) (t : Store) (l : LogicState) → match_use cases scope (core_of u.pred) u ws os t l ≡ match_use no_cases scope (core_of u.pred) u ws [] t l
      other ws os t l = ap (λ o. match_use cases scope o u ws os t l) named ∙ ap (λ o. match_use no_cases scope o u ws [] t l) (sym named)

  -- ---- a user predicate

  module _ (n : ℕ) (cases : Cases) (scope : List Param) (u : PurePredUse) (s : PureState S) (bs : PureStore) (a : PureAsked) (over : IsOverTable terms s) (store_over : IsStoreOver s.vars bs)
      (asked_over : AreAskedOver s.vars a) (x : PureChoice) (chooses : ChoosesFact s.facts u.pred a.ins a.known x) (names : ChoiceStaysOver s.facts a.ins a.known x) where
    abbrev Asks : Premise
    Asks = AsksUse stands terms s bs a

    abbrev Found : Giving
    Found = UseGives cases scope None u a

    abbrev Ends : Stopping
    Ends = UseStops n cases scope None u a

    first : (v : List PureValue) (t : Store) (l : LogicState) (asks : Asks v t l) → SaysFirst v (fits_fact u.pred asks.values.0 asks.values.1) l.facts x
    first v t l asks = chooses s.vars v asks.values.0 asks.values.1 l.facts asks.serves.state.proper over.facts asked_over.0 asked_over.1 asks.serves.state.facts asks.are.0 asks.are.1

    choice_over : Each (λ c. AreConditions s.vars c.conds) x.found × Each (AreConditions s.vars) x.none
    choice_over = names s.vars over.facts asked_over.0 asked_over.1

    -- what holds of each case of the choice
    record IsChosen (c : PureFactCase) : Type 0 where
      conds_over : AreOverTable s.vars c.conds
      chosen : (v : List PureValue) (t : Store) (l : LogicState) (asks : Asks v t l) → IsTrue (all_true v c.conds)
          → (f : FoundFact) × ((first_fact (fits_fact u.pred asks.values.0 asks.values.1) l.facts ≡ Some f) × (f.place ≡ c.place))

    are_chosen : Each IsChosen x.found
    are_chosen = each_by_place IsChosen x.found (λ i c at. record {
      conds_over = over_of s.vars c.conds (each_at (λ (d : PureFactCase). AreConditions s.vars d.conds) x.found i c choice_over.0 at);
      chosen = λ v t l asks met. each_at (λ (d : PureFactCase). IsTrue (all_true v d.conds) → (f : FoundFact) × ((first_fact (fits_fact u.pred asks.values.0 asks.values.1) l.facts ≡ Some f) × (f.place ≡ d.place))) x.found i c (first v t l asks).found at met;
    })

    fact_found : (v : List PureValue) (t : Store) (l : LogicState) (t' : Store) (l' : LogicState) → FactGives scope u a v t l t' l' → Found v t l t' l'
    fact_found v t l t' l' g = record {
      values = g.values;
      are = g.are;
      taken = took_fact g.found.place;
      is = ap (λ o. match_fact_or cases scope o u g.values.0 g.values.1 t l) g.first ∙ ap (fact_match g.found l) g.matched
          ∙ ap (λ (y : LogicState). Some (record { store = t'; state = y; taken = took_fact g.found.place })) (sym g.left);
    }

    fact_ends : (v : List PureValue) (t : Store) (l : LogicState) (k : ℕ) → FactStops n scope u a v t l k → Ends v t l k
    fact_ends v t l k g = record {
      number = g.number;
      values = g.values;
      are = g.are;
      is = ap (λ o. match_fact_or cases scope o u g.values.0 g.values.1 t l) g.first ∙ ap (fact_match g.found l) g.unmatched;
    }

    facts_part : (leaves : PureLeaves S) → Gathers (TakesFact stands terms kept n scope u.outs bs s) x.found leaves
        → IsPart stands terms kept s Asks (FactGives scope u a) (FactStops n scope u a) (λ v t l. OneOf (λ c. IsTrue (all_true v c.conds)) x.found) leaves
    facts_part leaves gathers =
        gathered stands terms kept s Asks (FactGives scope u a) (FactStops n scope u a) (TakesFact stands terms kept n scope u.outs bs s) IsChosen (λ c v t l. IsTrue (all_true v c.conds))
        (λ c more is takes. fact_part stands terms kept n scope u s bs a over store_over c is.conds_over is.chosen more takes) x.found leaves are_chosen gathers

    -- what holds of each state in which no fact fits
    pub record IsWithoutFit (q : PureState S) : Type 0 where
      pub more : List PureAtom
      pub copy : IsCopyUnder stands terms kept s more q
      pub more_over : AreOverTable s.vars more
      pub none : (v : List PureValue) (t : Store) (l : LogicState) (asks : Asks v t l) → IsTrue (all_true v more) → first_fact (fits_fact u.pred asks.values.0 asks.values.1) l.facts ≡ None

    without_fit : (alts : List (List PureAtom)) (qs : List (PureState S)) → Each (AreConditions s.vars) alts
        → ((v : List PureValue) (t : Store) (l : LogicState) (asks : Asks v t l) → Hold v alts → first_fact (fits_fact u.pred asks.values.0 asks.values.1) l.facts ≡ None)
        → AreCopiesUnder stands terms kept s alts qs → Each IsWithoutFit qs
    without_fit [] [] over_alts none are = tt
    without_fit (more ∷ alts) (q ∷ qs) over_alts none are = (
      record { more = more; copy = are.0; more_over = over_of s.vars more over_alts.0; none = λ v t l asks met. none v t l asks (inl met) },
      without_fit alts qs over_alts.1 (λ v t l asks later. none v t l asks (inr later)) are.1,
    )
    without_fit [] (q ∷ qs) over_alts none are = absurd are
    without_fit (more ∷ alts) [] over_alts none are = absurd are

    pub are_without_fit : (qs : List (PureState S)) → AreCopiesUnder stands terms kept s x.none qs → Each IsWithoutFit qs
    are_without_fit qs are = without_fit x.none qs choice_over.1 (λ v t l asks hold. (first v t l asks).none hold) are

    copies_cover : (v : List PureValue) (alts : List (List PureAtom)) (qs : List (PureState S)) → IsTrue (all_true v s.conds) → AreCopiesUnder stands terms kept s alts qs → Hold v alts
        → OneOf (λ q. IsTrue (all_true v q.conds)) qs
    copies_cover v [] [] meets are hold = absurd hold
    copies_cover v (more ∷ alts) (q ∷ qs) meets are hold =
        ⊎_elim (λ met. inl (subst (λ (y : PureState S). IsTrue (all_true v y.conds)) (sym are.0.is) (met_both v s.conds more meets met))) (λ later. inr (copies_cover v alts qs meets are.1 later)) hold
    copies_cover v [] (q ∷ qs) meets are hold = absurd hold
    copies_cover v (more ∷ alts) [] meets are hold = absurd are

    module _ (q : PureState S) (w : IsWithoutFit q) where
      same_conds : q.conds ≡ s.conds ++ w.more
      same_conds = ap (λ (y : PureState S). y.conds) w.copy.is

      same_facts : q.facts ≡ s.facts
      same_facts = ap (λ (y : PureState S). y.facts) w.copy.is

      same_table : q.vars ≡ s.vars
      same_table = ap (λ (y : PureState S). y.vars) w.copy.is

      copy_over : IsOverTable terms q
      copy_over = subst (IsOverTable terms) (sym w.copy.is) (record {
        conds = each_append (λ c. IsOver s.vars (term_of c)) s.conds w.more over.conds w.more_over;
        given = over.given;
        memory = subst (λ ts. AreEachOver s.vars (all_of ts)) (sym w.copy.memory.same_terms) over.memory;
        facts = over.facts;
      })

      pub is_open : IsOpen terms bs a q
      is_open = record {
        over = copy_over;
        store_over = subst (λ vars. IsStoreOver vars bs) (sym same_table) store_over;
        asked_over = subst (λ vars. AreAskedOver vars a) (sym same_table) asked_over;
      }

      back : s.conds ++ w.more ≡ q.conds
      back = sym same_conds

      copy_later : IsLater stands terms kept s q
      copy_later = record {
        longer = (w.more, same_conds);
        same_else = w.copy.is ∙ (λ i. record s { conds = back i; memory = q.memory; facts = sym same_facts i });
        over = copy_over;
        still_kept = w.copy.memory.still_kept;
      }

      open_part : (leaves : PureLeaves S) → CasesMatched stands terms kept n cases scope u bs a q leaves → IsPart stands terms kept s Asks Found Ends (λ v t l. IsTrue (all_true v q.conds)) leaves
      open_part leaves are =
          lifted stands terms kept s q Asks (AsksUse stands terms q bs a) Found (CaseGives cases scope u a) Ends (CaseStops n cases scope u a) copy_later
          (λ v t l asks met.
          let met_more : IsTrue (all_true v w.more) = (met_parts v s.conds w.more (subst (λ cs. IsTrue (all_true v cs)) same_conds met)).1 in
          record {
            next_store = t;
            next_state = l;
            premise = record {
              serves = record {
                over = copy_over;
                store_over = is_open.store_over;
                store = asks.serves.store;
                state = record {
                  proper = subst (λ vars. IsProper vars v) (sym same_table) asks.serves.state.proper;
                  meets = met;
                  memory = w.copy.memory.stands_for v l.heap asks.serves.state.memory;
                  facts = subst (λ cs. AreFacts v cs l.facts) (sym same_facts) asks.serves.state.facts;
                };
              };
              values = asks.values;
              are = asks.are;
            };
            gives = λ y k g. let same : g.values ≡ asks.values = same_asked v a g.values asks.values g.are asks.are in record {
              values = g.values;
              are = g.are;
              taken = g.taken;
              is = ap (λ o. match_fact_or cases scope o u g.values.0 g.values.1 t l) (subst (λ (z : AskedValues). first_fact (fits_fact u.pred z.0 z.1) l.facts ≡ None) (sym same) (w.none v t l asks met_more)) ∙ g.is;
            };
            stops = λ k g. let same : g.values ≡ asks.values = same_asked v a g.values asks.values g.are asks.are in record {
              number = g.number;
              values = g.values;
              are = g.are;
              is = ap (λ o. match_fact_or cases scope o u g.values.0 g.values.1 t l) (subst (λ (z : AskedValues). first_fact (fits_fact u.pred z.0 z.1) l.facts ≡ None) (sym same) (w.none v t l asks met_more)) ∙ g.is;
            };
          }) leaves are

    -- facts that fit, and cases where none does
    pub user_leaves : (facts others : PureLeaves S) (qs : List (PureState S)) → Gathers (TakesFact stands terms kept n scope u.outs bs s) x.found facts → AreCopiesUnder stands terms kept s x.none qs
        → Gathers (CasesMatched stands terms kept n cases scope u bs a) qs others → AreLeaves stands terms kept s Asks Found Ends (joined facts others)
    user_leaves facts others qs of_facts are of_open =
        let first_part : IsPart stands terms kept s Asks Found Ends (λ v t l. OneOf (λ c. IsTrue (all_true v c.conds)) x.found) facts =
        said_by stands terms kept s Asks (FactGives scope u a) Found (FactStops n scope u a) Ends (λ v t l. OneOf (λ c. IsTrue (all_true v c.conds)) x.found) facts fact_found fact_ends (facts_part facts of_facts) in
        let second_part : IsPart stands terms kept s Asks Found Ends (λ v t l. OneOf (λ q. IsTrue (all_true v q.conds)) qs) others =
        gathered stands terms kept s Asks Found Ends (CasesMatched stands terms kept n cases scope u bs a) IsWithoutFit (λ q v t l. IsTrue (all_true v q.conds))
        (λ q more w matches. open_part q w more matches) qs others (are_without_fit qs are) of_open in
        part_leaves stands terms kept s Asks Found Ends (λ v t l. OneOf (λ c. IsTrue (all_true v c.conds)) x.found ⊎ OneOf (λ q. IsTrue (all_true v q.conds)) qs) (joined facts others)
        (part_both stands terms kept s Asks Found Ends (λ v t l. OneOf (λ c. IsTrue (all_true v c.conds)) x.found) (λ v t l. OneOf (λ q. IsTrue (all_true v q.conds)) qs) facts others first_part second_part)
        (λ v t l asks. ⊎_elim (λ found. inl found) (λ hold. inr (copies_cover v x.none qs asks.serves.state.meets are hold)) (first v t l asks).cover)
