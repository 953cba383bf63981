-- What is asked of a use, and what taking facts gives.
use Rattle.std.proofs.Common.{◌≡◌, ⊎_elim, inl, inr, ℕ, zero, suc, List, [], ◌∷◌, ◌++◌, map, remove, slice_get, Bool, true, false, cond, Option, Some, None, Result, Ok, Err, IsTrue, refl, sym, ap, subst, ◌∙◌, true≢false, add-one}
use Rattle.std.specs.Option.{option_map}
use Rattle.std.specs.Result.{result_ok}
use Rattle.gil_values.specs.Operators.{Fault}
use Rattle.gil_values.specs.Pure.{PureValue}
use Rattle.gil_syntax.specs.declared.assertions.Param.{Param}
use Rattle.gil_syntax.specs.Evaluation.{Store, Outcomes, evaluate_all}
use Rattle.gil_syntax.specs.Pure.{PurePredUse}
use Rattle.mem_model.specs.Heaps.{Heap}
use Rattle.assert_logic.specs.LogicStates.{Fact, LogicState}
use Rattle.assert_logic.specs.Matching.{FoundFact, found_after, first_fact, fits_fact, known_outs, match_values}
use Rattle.pure_terms.specs.declared.variables.Sort.{Sort}
use Rattle.pure_terms.specs.Meaning.{all_true, IsOver}
use Rattle.pure_terms.specs.Pure.{PureTerm, PureAtom, term_of}
use Rattle.sym_evaluation.specs.Meaning.{HaveValues, IsStoreOver, AreCasesOfAll, SayOutcome, IsGood, IsClosed}
use Rattle.sym_evaluation.specs.Pure.{PureStore, PureFaultCase, PureGoodCase, PureCases}
use Rattle.sym_evaluation.specs.Questions.{NameNoOthers, OnConditions, OnResult, AreTermsOf, AreEachOver as AreAllOver}
use Rattle.sym_matching.specs.Matching.{SplitsOuts, OutsStayOver}
use Rattle.sym_matching.specs.Meaning.{IsReached, Gives as SplitGives, SaysSplit, AreConditions, IsFoundOver, AreOuts, AreOutsOver}
use Rattle.sym_matching.specs.Pure.{PureSplit, PureOuts}
use Rattle.sym_model.specs.Lists.{Each, OneOf}
use Rattle.sym_model.specs.Terms.{StateTerms, all_of, AreEachOver}
use Rattle.sym_model.proofs.ListLaws.{same_some, not_none, each_append, each_to, each_at, each_map, one_left, one_right, one_parts, one_map, one_mapped}
use Rattle.sym_states.specs.Meaning.{IsFact, AreFacts, IsOverTable}
use Rattle.sym_states.specs.Pure.{PureFact, PureState}
use Rattle.sym_states.proofs.ArgumentLaws.{terms_count}
use Rattle.sym_states.proofs.Conditions.{met_parts, met_both}
use Rattle.footprint.specs.Choosing.{PureFactCase}
use Rattle.footprint.specs.Items.{SpreadsValues}
use Rattle.footprint.specs.Leaves.{Premise, IsLater}
use Rattle.footprint.specs.Pure.{PureLeaves}
use Rattle.footprint.specs.Spreading.{with_conds, spread, IsCopyUnder}
use Rattle.footprint.specs.Uses.{PureAsked, both_asked, asked_values, AreAsked, SplitsUse, IsAskedOver, UseStaysOver, HasAllIns, AsksUse, FactGives, FactStops, IsWithoutFact, TakesFactAt, TakesFact, AreCopiesUnder}
use Rattle.footprint.proofs.Outs.{same_values, Holding, OutsGive, OutsStop, outs_leaves}
use Rattle.footprint.proofs.Parts.{AreOverTable, over_of, IsPart, part_where, Onward, lifted}

-- ---- what is asked

module _ (v : List PureValue) where
  reached_both : (g : Option (PureGoodCase (List PureTerm))) (h : Option (PureGoodCase PureOuts)) → IsReached v g → IsReached v h → IsReached v (both_asked g h)
  reached_both (Some g) (Some h) first second = met_both v g.conds h.conds first second
  reached_both (Some g) None first second = absurd second
  reached_both None h first second = absurd first

  reached_each : (g : Option (PureGoodCase (List PureTerm))) (h : Option (PureGoodCase PureOuts)) → IsReached v (both_asked g h) → IsReached v g × IsReached v h
  reached_each (Some g) (Some h) met = met_parts v g.conds h.conds met
  reached_each (Some g) None met = absurd met
  reached_each None h met = absurd met

  gives_both : (g : Option (PureGoodCase (List PureTerm))) (h : Option (PureGoodCase PureOuts)) (ws : List PureValue) (os : List (Option PureValue)) → IsGood v (λ x. HaveValues v x ws) g
      → SplitGives (AreOuts v) h (Some os) → SplitGives (AreAsked v) (both_asked g h) (Some (ws, os))
  gives_both (Some g) (Some h) ws os good (a, (is, are)) = ((ws, os), (refl, (good.1, subst (AreOuts v h.result) (sym (same_some is)) are)))
  gives_both (Some g) None ws os good gives = absurd gives
  gives_both None h ws os good gives = absurd good

  good_reached : (g : Option (PureGoodCase (List PureTerm))) (ws : List PureValue) → IsGood v (λ x. HaveValues v x ws) g → IsReached v g
  good_reached (Some g) ws good = good.0
  good_reached None ws good = good

  closed_unreached : (g : Option (PureGoodCase (List PureTerm))) → IsClosed v g → IsReached v g → ⊥
  closed_unreached (Some g) closed met = true≢false (sym met ∙ closed)
  closed_unreached None closed met = met

  none_given : {X A : Type 0} (Is : X → A → Type 0) (o : Option (PureGoodCase X)) → SplitGives Is o None → ⊥
  none_given Is (Some g) (a, (is, are)) = not_none is
  none_given Is None gives = gives

  module _ (cases : PureCases (List PureTerm)) (known : PureSplit PureOuts) where
    abbrev asked : PureSplit PureAsked
    asked = record { found = both_asked cases.good known.found; none = map (λ c. c.conds) cases.faults ++ known.none }

    AllTrue : List PureAtom → Type 0
    AllTrue conds = IsTrue (all_true v conds)

    says_asked : (o : Outcomes) (r : Result (List (Option PureValue)) Fault) → SayOutcome v (HaveValues v) o cases → SaysSplit v (AreOuts v) known (result_ok r) → SaysSplit v (AreAsked v) asked (asked_values o r)
    says_asked (Ok ws) (Ok os) first second = record {
      cover = ⊎_elim (λ reached. inl (reached_both cases.good known.found (good_reached cases.good ws first.0) reached))
          (λ hold. inr (one_right (λ conds. IsTrue (all_true v conds)) (map (λ c. c.conds) cases.faults) known.none hold)) second.cover;
      found = λ reached. gives_both cases.good known.found ws os first.0 (second.found (reached_each cases.good known.found reached).1);
      none = λ hold. ⊎_elim
          (λ fault. absurd (never cases.faults first.1 (one_mapped (λ conds. IsTrue (all_true v conds)) (λ c. c.conds) cases.faults fault)))
          (λ out. not_none (sym (second.none out)))
          (one_parts (λ conds. IsTrue (all_true v conds)) (map (λ c. c.conds) cases.faults) known.none hold);
    }
      where
        never : (cs : List PureFaultCase) → Each (λ c. all_true v c.conds ≡ false) cs → OneOf (λ c. IsTrue (all_true v c.conds)) cs → ⊥
        never [] all one = one
        never (c ∷ cs) all one = ⊎_elim (λ met. true≢false (sym met ∙ all.0)) (λ later. never cs all.1 later) one
    says_asked (Ok ws) (Err f) first second = record {
      cover = ⊎_elim (λ reached. absurd (none_given (AreOuts v) known.found (second.found reached)))
          (λ hold. inr (one_right (λ conds. IsTrue (all_true v conds)) (map (λ c. c.conds) cases.faults) known.none hold)) second.cover;
      found = λ reached. absurd (none_given (AreOuts v) known.found (second.found (reached_each cases.good known.found reached).1));
      none = λ hold. refl;
    }
    says_asked (Err f) r first second = record {
      cover = inr (one_left (λ conds. IsTrue (all_true v conds)) (map (λ c. c.conds) cases.faults) known.none (one_map (λ conds. IsTrue (all_true v conds)) (λ c. c.conds) cases.faults first.1));
      found = λ reached. absurd (closed_unreached cases.good first.0 (reached_each cases.good known.found reached).0);
      none = λ hold. refl;
    }

module _ (bs : PureStore) (u : PurePredUse) (cases : PureCases (List PureTerm)) (known : PureSplit PureOuts) where
  pub splits_use : AreCasesOfAll bs u.ins cases → SplitsOuts bs u.outs known → SplitsUse bs u (record { found = both_asked cases.good known.found; none = map (λ c. c.conds) cases.faults ++ known.none })
  splits_use first second vars v t serves = says_asked v cases known (evaluate_all u.ins t) (known_outs t u.outs) (first vars v t serves) (second vars v t serves)

  found_over : (vars : List Sort) (g : Option (PureGoodCase (List PureTerm))) (h : Option (PureGoodCase PureOuts)) → OnConditions (λ a. IsOver vars (term_of a)) g → OnResult (AreAllOver vars) g
      → IsFoundOver (AreOutsOver vars) vars h → IsAskedOver vars (both_asked g h)
  found_over vars (Some g) (Some h) conds result found = (each_append (λ a. IsOver vars (term_of a)) g.conds h.conds conds (over_of vars h.conds found.0), result, found.1)
  found_over vars (Some g) None conds result found = tt
  found_over vars None h conds result found = tt

  pub use_over : NameNoOthers AreAllOver bs cases → OutsStayOver bs known → UseStaysOver bs (record { found = both_asked cases.good known.found; none = map (λ c. c.conds) cases.faults ++ known.none })
  use_over first second vars over =
      let one = first vars over in
      let two = second vars over in (
        found_over vars cases.good known.found one.0.1 one.1 two.found,
        each_append (AreOverTable vars) (map (λ c. c.conds) cases.faults) known.none
            (each_map (AreOverTable vars) (λ c. c.conds) cases.faults one.0.0)
            (each_to (AreConditions vars) (AreOverTable vars) known.none (λ conds are. over_of vars conds are) two.none),
      )

  pub has_all_ins : (g : Option (PureGoodCase (List PureTerm))) (h : Option (PureGoodCase PureOuts)) → OnResult (AreTermsOf bs u.ins) g → HasAllIns u (both_asked g h)
  has_all_ins (Some g) (Some h) is = terms_count bs u.ins g.result is
  has_all_ins (Some g) None is = tt
  has_all_ins None h is = tt

-- ---- facts by place

pub found_place : (fits : Fact → Bool) (fs : List Fact) (x : FoundFact) → first_fact fits fs ≡ Some x → (slice_get fs x.place ≡ Some x.fact) × (x.others ≡ remove fs x.place)
found_place fits [] x is = not_none is
found_place fits (f ∷ fs) x is = by (λ y. found_place fits fs y) (fits f) (first_fact fits fs) refl is
  where
    by : ((y : FoundFact) → first_fact fits fs ≡ Some y → (slice_get fs y.place ≡ Some y.fact) × (y.others ≡ remove fs y.place)) → (b : Bool) (o : Option FoundFact) → first_fact fits fs ≡ o
        → cond b (Some (record { fact = f; place = 0; others = fs })) (option_map (found_after f) o) ≡ Some x → (slice_get (f ∷ fs) x.place ≡ Some x.fact) × (x.others ≡ remove (f ∷ fs) x.place)
    by later true o first found = subst (λ (y : FoundFact). (slice_get (f ∷ fs) y.place ≡ Some y.fact) × (y.others ≡ remove (f ∷ fs) y.place)) (same_some found) (refl, refl)
    by later false None first found = not_none found
    by later false (Some y) first found =
        let (at, others) = later y first in
        subst (λ (z : FoundFact). (slice_get (f ∷ fs) z.place ≡ Some z.fact) × (z.others ≡ remove (f ∷ fs) z.place)) (same_some found)
        (subst (λ n. slice_get (f ∷ fs) n ≡ Some y.fact) (sym (add-one y.place)) at, subst (λ n. (f ∷ y.others) ≡ remove (f ∷ fs) n) (sym (add-one y.place)) (ap (λ xs. f ∷ xs) others))

fact_at : (v : List PureValue) (cs : List PureFact) (fs : List Fact) (i : ℕ) (f : Fact) → AreFacts v cs fs → slice_get fs i ≡ Some f → (c : PureFact) × ((slice_get cs i ≡ Some c) × IsFact v c f)
fact_at v [] [] i f are at = not_none at
fact_at v (c ∷ cs) (g ∷ fs) zero f are at = (c, (refl, subst (IsFact v c) (same_some at) are.0))
fact_at v (c ∷ cs) (g ∷ fs) (suc i) f are at = fact_at v cs fs i f are.1 at
fact_at v [] (g ∷ fs) i f are at = absurd are
fact_at v (c ∷ cs) [] i f are at = absurd are

facts_without : (v : List PureValue) (cs : List PureFact) (fs : List Fact) (i : ℕ) → AreFacts v cs fs → AreFacts v (remove cs i) (remove fs i)
facts_without v [] [] zero are = tt
facts_without v [] [] (suc i) are = tt
facts_without v (c ∷ cs) (f ∷ fs) zero are = are.1
facts_without v (c ∷ cs) (f ∷ fs) (suc i) are = (are.0, facts_without v cs fs i are.1)
facts_without v [] (f ∷ fs) i are = absurd are
facts_without v (c ∷ cs) [] i are = absurd are

each_without : {A : Type 0} (P : A → Type 0) (xs : List A) (i : ℕ) → Each P xs → Each P (remove xs i)
each_without P [] zero all = tt
each_without P [] (suc i) all = tt
each_without P (x ∷ xs) zero all = all.1
each_without P (x ∷ xs) (suc i) all = (all.0, each_without P xs i all.1)

-- ---- one fact

module _ {S : Type 0} (stands : S → List PureValue → Heap → Type 0) (terms : S → StateTerms) (kept : S → Type 0) (n : ℕ) (scope : List Param) (u : PurePredUse)
    (s : PureState S) (bs : PureStore) (a : PureAsked) (over : IsOverTable terms s) (store_over : IsStoreOver s.vars bs) (c : PureFactCase) (conds_over : AreOverTable s.vars c.conds)
    (chosen : (v : List PureValue) (t : Store) (l : LogicState) (asks : AsksUse stands terms s bs a v t l) → IsTrue (all_true v c.conds)
    → (f : FoundFact) × ((first_fact (fits_fact u.pred asks.values.0 asks.values.1) l.facts ≡ Some f) × (f.place ≡ c.place))) where
  abbrev If : Premise
  If = AsksUse stands terms s bs a

  abbrev Met : Premise
  Met v t l = IsTrue (all_true v c.conds)

  -- the state without the fact, over a memory
  abbrev left : S → PureState S
  left m = record (with_conds s c.conds) { memory = m; facts = remove s.facts c.place }

  module _ (fact : PureFact) (at : slice_get s.facts c.place ≡ Some fact) (r : PureState S) (without : IsWithoutFact stands terms kept s c r) where
    abbrev q : PureState S
    q = left r.memory

    q_over : IsOverTable terms q
    q_over = record {
      conds = each_append (λ x. IsOver s.vars (term_of x)) s.conds c.conds over.conds conds_over;
      given = over.given;
      memory = subst (λ ts. AreEachOver s.vars (all_of ts)) (sym without.memory.same_terms) over.memory;
      facts = each_without (λ d. AreEachOver s.vars (d.ins ++ d.outs)) s.facts c.place over.facts;
    }

    q_later : IsLater stands terms kept s q
    q_later = record { longer = (c.conds, refl); same_else = refl; over = q_over; still_kept = without.memory.still_kept }

    outs_over : AreEachOver s.vars fact.outs
    outs_over = right_of fact.ins (each_at (λ (d : PureFact). AreEachOver s.vars (d.ins ++ d.outs)) s.facts c.place fact over.facts at)
      where
        right_of : (xs : List PureTerm) → AreEachOver s.vars (xs ++ fact.outs) → AreEachOver s.vars fact.outs
        right_of [] all = all
        right_of (x ∷ xs) all = right_of xs all.1

    onward : (v : List PureValue) (t : Store) (l : LogicState) → If v t l → IsTrue (all_true v q.conds)
        → Onward stands terms kept (Holding stands terms q bs fact.outs) (FactGives scope u a) (OutsGive scope u.outs fact.outs) (FactStops n scope u a) (OutsStop n scope u.outs fact.outs) v t l
    onward v t l asks met =
        let met_c = (met_parts v s.conds c.conds met).1 in
        let (f, (first, place)) = chosen v t l asks met_c in
        let (here, others) = found_place (fits_fact u.pred asks.values.0 asks.values.1) l.facts f first in
        let at_place : slice_get l.facts c.place ≡ Some f.fact = subst (λ k. slice_get l.facts k ≡ Some f.fact) place here in
        let (d, (d_at, is_fact)) = fact_at v s.facts l.facts c.place f.fact asks.serves.state.facts at_place in
        let same : d ≡ fact = same_some (sym d_at ∙ at) in
        let have : HaveValues v fact.outs f.fact.outs = (subst (λ x. IsFact v x f.fact) same is_fact).outs in
        let others_are : f.others ≡ remove l.facts c.place = others ∙ ap (remove l.facts) place in
        record {
          next_store = t;
          next_state = record l { facts = f.others };
          premise = record {
            serves = record {
              over = q_over;
              store_over = store_over;
              store = asks.serves.store;
              state = record {
                proper = asks.serves.state.proper;
                meets = met;
                memory = without.memory.stands_for v l.heap asks.serves.state.memory;
                facts = subst (AreFacts v (remove s.facts c.place)) (sym others_are) (facts_without v s.facts l.facts c.place asks.serves.state.facts);
              };
            };
            us = f.fact.outs;
            have = have;
          };
          gives = λ x k (us, (have_us, found, is)). record {
            values = asks.values;
            are = asks.are;
            found = f;
            first = first;
            matched = subst (λ ws. match_values scope u.outs ws t ≡ Some x) (same_values v fact.outs us f.fact.outs have_us have) found;
            left = is;
          };
          stops = λ m (number, (us, (have_us, none))). record {
            number = number;
            values = asks.values;
            are = asks.are;
            found = f;
            first = first;
            unmatched = subst (λ ws. match_values scope u.outs ws t ≡ None) (same_values v fact.outs us f.fact.outs have_us have) none;
          };
        }

    taken_part : (leaves : PureLeaves S) → SpreadsValues n scope u.outs bs q fact.outs leaves → IsPart stands terms kept s If (FactGives scope u a) (FactStops n scope u a) Met leaves
    taken_part leaves (x, (says, names, plainly, origin, is)) =
        part_where stands terms kept s If (FactGives scope u a) (FactStops n scope u a) (λ v t l. IsTrue (all_true v q.conds)) Met leaves
        (λ v t l asks met. met_both v s.conds c.conds asks.serves.state.meets met)
        (subst (IsPart stands terms kept s If (FactGives scope u a) (FactStops n scope u a) (λ v t l. IsTrue (all_true v q.conds))) (sym is)
        (lifted stands terms kept s q If (Holding stands terms q bs fact.outs) (FactGives scope u a) (OutsGive scope u.outs fact.outs) (FactStops n scope u a) (OutsStop n scope u.outs fact.outs) q_later onward (spread n q x)
        (outs_leaves stands terms kept n scope u.outs q bs fact.outs x q_over store_over outs_over says names)))

  by_fact : (o : Option PureFact) (leaves : PureLeaves S) → slice_get s.facts c.place ≡ o → TakesFactAt stands terms kept n scope u.outs bs s c o leaves
      → IsPart stands terms kept s If (FactGives scope u a) (FactStops n scope u a) Met leaves
  by_fact (Some fact) leaves at (r, (without, spreads)) =
      taken_part fact at r without leaves (subst (λ x. SpreadsValues n scope u.outs bs x fact.outs leaves) without.is spreads)
  by_fact None leaves at is =
      subst (IsPart stands terms kept s If (FactGives scope u a) (FactStops n scope u a) Met) (sym is) (record {
        cover = λ v t l asks met.
            let (f, (first, place)) = chosen v t l asks met in
            let (here, others) = found_place (fits_fact u.pred asks.values.0 asks.values.1) l.facts f first in
            let (d, (d_at, is_fact)) = fact_at v s.facts l.facts c.place f.fact asks.serves.state.facts (subst (λ k. slice_get l.facts k ≡ Some f.fact) place here) in
            not_none (sym at ∙ d_at);
        matched = tt;
        stopped = tt;
        undecided = tt;
      })

  pub fact_part : (leaves : PureLeaves S) → TakesFact stands terms kept n scope u.outs bs s c leaves → IsPart stands terms kept s If (FactGives scope u a) (FactStops n scope u a) Met leaves
  fact_part leaves takes = by_fact (slice_get s.facts c.place) leaves refl takes

-- ---- copies

pub copies_more : {S : Type 0} (stands : S → List PureValue → Heap → Type 0) (terms : S → StateTerms) (kept : S → Type 0) (s : PureState S) (alts : List (List PureAtom)) (rs : List (PureState S))
    (more : List PureAtom) (r : PureState S) → AreCopiesUnder stands terms kept s alts rs → IsCopyUnder stands terms kept s more r → AreCopiesUnder stands terms kept s (alts ++ more ∷ []) (rs ++ r ∷ [])
copies_more stands terms kept s [] [] more r are is = (is, tt)
copies_more stands terms kept s (a ∷ alts) (q ∷ rs) more r are is = (are.0, copies_more stands terms kept s alts rs more r are.1 is)
copies_more stands terms kept s [] (q ∷ rs) more r are is = absurd are
copies_more stands terms kept s (a ∷ alts) [] more r are is = absurd are
