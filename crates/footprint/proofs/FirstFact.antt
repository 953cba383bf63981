-- Which fact is the first one that fits, fact after fact.
use Rattle.std.proofs.Common.{◌≡◌, ◌⊎◌, ⊎_elim, inl, inr, ℕ, suc, ◌+◌, ◌<◌, take, get_or, List, [], ◌∷◌, ◌++◌, length, map, Bool, true, false, ◌&&◌, cond, Option, Some, None, IsTrue, refl, sym, ap, subst, ◌∙◌, true≢false, add-one}
use Rattle.std.specs.Option.{option_map}
use Rattle.std.proofs.lemmas.List.{take_more, map-append}
use Rattle.std.specs.Str.{bytes_eq}
use Rattle.gil_values.specs.Equality.{same_elements}
use Rattle.gil_values.specs.Pure.{PureValue}
use Rattle.assert_logic.specs.LogicStates.{Fact}
use Rattle.assert_logic.specs.Matching.{FoundFact, found_after, first_fact, fits_fact, all_agree}
use Rattle.pure_terms.specs.declared.variables.Sort.{Sort}
use Rattle.pure_terms.specs.Meaning.{all_true, IsOver}
use Rattle.pure_terms.specs.Pure.{PureTerm, PureAtom}
use Rattle.sym_model.specs.Alternatives.{Alternatives, Hold, always, both}
use Rattle.sym_model.proofs.Combined.{both_from, both_parts}
use Rattle.sym_matching.specs.Matching.{TestsElements, TestsOuts, ElementsStayOver, AgreementStaysOver}
use Rattle.sym_matching.specs.Meaning.{AreMet, SaysTest, IsCondition, AreConditions, AreConditionsIfAny}
use Rattle.sym_matching.specs.Pure.{PureTest, PureOuts}
use Rattle.sym_model.specs.Lists.{Each, OneOf}
use Rattle.sym_model.specs.Terms.{AreEachOver}
use Rattle.sym_model.proofs.ListLaws.{each_append, each_to, each_left, each_right, one_left, one_right, one_parts}
use Rattle.sym_states.specs.Meaning.{IsFact, AreFacts}
use Rattle.sym_states.specs.declared.states.PredChunk.{PredChunk}
use Rattle.sym_states.specs.Pure.{PureFact}
use Rattle.sym_states.specs.View.{fact_view, facts_view}
use Rattle.sym_states.proofs.Conditions.{met_parts, met_both}
use Rattle.footprint.specs.Choosing.{PureFactCase, PureChoice, both_met, placed_cases, TestsFact, FactStaysOver, SaysFirst, ChoosesFact, ChoiceStaysOver}

-- ---- on values

-- the first fact that fits, where there is one fact more at the end
abbrev then_first : Option FoundFact → Bool → Fact → List Fact → Option FoundFact
then_first (Some x) b f fs = Some (record x { others = x.others ++ f ∷ [] })
then_first None b f fs = cond b (Some (record { fact = f; place = length fs; others = fs })) None

first_of_more : (fits : Fact → Bool) (fs : List Fact) (f : Fact) → first_fact fits (fs ++ f ∷ []) ≡ then_first (first_fact fits fs) (fits f) f fs
first_of_more fits [] f = by (fits f)
  where
    by : (b : Bool) → cond b (Some (record { fact = f; place = 0; others = [] })) None ≡ then_first None b f []
    by true = refl
    by false = refl
first_of_more fits (g ∷ fs) f = ap (λ o. cond (fits g) (Some (record { fact = g; place = 0; others = fs ++ f ∷ [] })) (option_map (found_after g) o)) (first_of_more fits fs f) ∙ by (fits g) (first_fact fits fs) (fits f)
  where
    by : (b : Bool) (o : Option FoundFact) (c : Bool)
        → cond b (Some (record { fact = g; place = 0; others = fs ++ f ∷ [] })) (option_map (found_after g) (then_first o c f fs))
        ≡ then_first (cond b (Some (record { fact = g; place = 0; others = fs })) (option_map (found_after g) o)) c f (g ∷ fs)
    by true o c = refl
    by false (Some x) c = refl
    by false None true = ap (λ n. Some (record { fact = f; place = n; others = g ∷ fs })) (add-one (length fs))
    by false None false = refl

-- ---- tests

module _ (v : List PureValue) where
  met_both_of : (a b : Option (List PureAtom)) → AreMet v a → AreMet v b → AreMet v (both_met a b)
  met_both_of (Some a) (Some b) first second = met_both v a b first second
  met_both_of (Some a) None first second = absurd second
  met_both_of None b first second = absurd first

  met_each : (a b : Option (List PureAtom)) → AreMet v (both_met a b) → AreMet v a × AreMet v b
  met_each (Some a) (Some b) met = met_parts v a b met
  met_each (Some a) None met = absurd met
  met_each None b met = absurd met

  either_false : (a b : Bool) → (a ≡ false) ⊎ (b ≡ false) → (a && b) ≡ false
  either_false false b is = refl
  either_false true b (inl never) = absurd (true≢false never)
  either_false true b (inr is) = is

  both_true : (a b : Bool) → a ≡ true → b ≡ true → (a && b) ≡ true
  both_true a b first second = λ i. first i && second i

  -- both are so
  pub says_both : (x y : PureTest) (a b : Bool) → SaysTest v x a → SaysTest v y b → SaysTest v (record { when = both_met x.when y.when; otherwise = x.otherwise ++ y.otherwise }) (a && b)
  says_both x y a b first second = record {
    cover = ⊎_elim
        (λ met. ⊎_elim (λ more. inl (met_both_of x.when y.when met more)) (λ no. inr (one_right (λ conds. IsTrue (all_true v conds)) x.otherwise y.otherwise no)) second.cover)
        (λ no. inr (one_left (λ conds. IsTrue (all_true v conds)) x.otherwise y.otherwise no)) first.cover;
    when = λ met. let (one, two) = met_each x.when y.when met in both_true a b (first.when one) (second.when two);
    otherwise = λ no. either_false a b (⊎_elim (λ here. inl (first.otherwise here)) (λ there. inr (second.otherwise there)) (one_parts (λ conds. IsTrue (all_true v conds)) x.otherwise y.otherwise no));
  }

  -- it surely isn't so
  pub says_never : SaysTest v (record { when = None; otherwise = always }) false
  says_never = record { cover = inr (inl refl); when = λ met. absurd met; otherwise = λ no. refl }

conditions_of_both : (vars : List Sort) (a b : Option (List PureAtom)) → AreConditionsIfAny vars a → AreConditionsIfAny vars b → AreConditionsIfAny vars (both_met a b)
conditions_of_both vars (Some a) (Some b) first second = each_append (IsCondition vars) a b first second
conditions_of_both vars (Some a) None first second = tt
conditions_of_both vars None b first second = tt

module _ (c : PureFact) (pred : List ℕ) (ins : List PureTerm) (known : PureOuts) where
  -- a fact of another predicate
  pub other_fact : bytes_eq c.pred pred ≡ false → TestsFact c pred ins known (record { when = None; otherwise = always })
  other_fact other vars v ws os f proper c_over ins_over known_over is have are =
      subst (SaysTest v (record { when = None; otherwise = always })) (sym (λ i. (ap (λ x. bytes_eq x pred) (sym is.pred) ∙ other) i && same_elements f.ins ws && all_agree os f.outs)) (says_never v)

  pub tested_fact : (x y : PureTest) → bytes_eq c.pred pred ≡ true → TestsElements c.ins ins x → TestsOuts known c.outs y
      → TestsFact c pred ins known (record { when = both_met x.when y.when; otherwise = x.otherwise ++ y.otherwise })
  tested_fact x y same elements agreement vars v ws os f proper c_over ins_over known_over is have are =
      subst (SaysTest v (record { when = both_met x.when y.when; otherwise = x.otherwise ++ y.otherwise }))
      (sym (λ i. (ap (λ z. bytes_eq z pred) (sym is.pred) ∙ same) i && same_elements f.ins ws && all_agree os f.outs))
      (says_both v x y (same_elements f.ins ws) (all_agree os f.outs)
      (elements vars v f.ins ws proper (each_left (IsOver vars) c.ins c.outs c_over) ins_over is.ins have)
      (agreement vars v os f.outs proper known_over (each_right (IsOver vars) c.ins c.outs c_over) are is.outs))

  pub never_over : FactStaysOver c ins known (record { when = None; otherwise = always })
  never_over vars c_over ins_over known_over = record { when = tt; otherwise = (tt, tt) }

  pub tests_over : (x y : PureTest) → ElementsStayOver c.ins ins x → AgreementStaysOver known c.outs y → FactStaysOver c ins known (record { when = both_met x.when y.when; otherwise = x.otherwise ++ y.otherwise })
  tests_over x y elements agreement vars c_over ins_over known_over =
      let first = elements vars (each_left (IsOver vars) c.ins c.outs c_over) ins_over in
      let second = agreement vars known_over (each_right (IsOver vars) c.ins c.outs c_over) in
      record {
        when = conditions_of_both vars x.when y.when first.when second.when;
        otherwise = each_append (AreConditions vars) x.otherwise y.otherwise first.otherwise second.otherwise;
      }

-- ---- one fact more

abbrev pub more_choice : PureChoice → PureTest → ℕ → PureChoice
more_choice x test place = record { found = x.found ++ placed_cases x.none test.when place; none = both x.none test.otherwise }

module _ (v : List PureValue) (fits : Fact → Bool) (fs : List Fact) (f : Fact) where
  abbrev Found : PureFactCase → Type 0
  Found c = IsTrue (all_true v c.conds) → (x : FoundFact) × ((first_fact fits (fs ++ f ∷ []) ≡ Some x) × (x.place ≡ c.place))

  still_found : (c : PureFactCase) → (IsTrue (all_true v c.conds) → (x : FoundFact) × ((first_fact fits fs ≡ Some x) × (x.place ≡ c.place))) → Found c
  still_found c found met =
      let (x, (is, place)) = found met in
      (record x { others = x.others ++ f ∷ [] }, (first_of_more fits fs f ∙ ap (λ o. then_first o (fits f) f fs) is, place))

  placed_found : (alts : Alternatives) (when : Option (List PureAtom)) → (Hold v alts → first_fact fits fs ≡ None) → (AreMet v when → fits f ≡ true) → Each Found (placed_cases alts when (length fs))
  placed_found alts None none fit = tt
  placed_found [] (Some when) none fit = tt
  placed_found (a ∷ alts) (Some when) none fit = (
    λ met. let (here, there) = met_parts v a when met in (
      record { fact = f; place = length fs; others = fs },
      (first_of_more fits fs f ∙ (λ i. then_first (none (inl here) i) (fit there i) f fs), refl),
    ),
    placed_found alts (Some when) (λ later. none (inr later)) fit,
  )

  placed_cover : (alts : Alternatives) (when : Option (List PureAtom)) → Hold v alts → AreMet v when → OneOf (λ c. IsTrue (all_true v c.conds)) (placed_cases alts when (length fs))
  placed_cover alts None hold met = absurd met
  placed_cover [] (Some when) hold met = absurd hold
  placed_cover (a ∷ alts) (Some when) hold met = ⊎_elim (λ here. inl (met_both v a when here met)) (λ later. inr (placed_cover alts (Some when) later met)) hold

  pub says_more : (x : PureChoice) (test : PureTest) → SaysFirst v fits fs x → SaysTest v test (fits f) → SaysFirst v fits (fs ++ f ∷ []) (more_choice x test (length fs))
  says_more x test before now = record {
    cover = ⊎_elim
        (λ found. inl (one_left (λ c. IsTrue (all_true v c.conds)) x.found (placed_cases x.none test.when (length fs)) found))
        (λ hold. ⊎_elim (λ met. inl (one_right (λ c. IsTrue (all_true v c.conds)) x.found (placed_cases x.none test.when (length fs)) (placed_cover x.none test.when hold met)))
        (λ no. inr (both_from v x.none test.otherwise hold no)) now.cover) before.cover;
    found = each_append Found x.found (placed_cases x.none test.when (length fs)) (each_to (λ c. IsTrue (all_true v c.conds) → (y : FoundFact) × ((first_fact fits fs ≡ Some y) × (y.place ≡ c.place))) Found x.found still_found before.found)
        (placed_found x.none test.when before.none now.when);
    none = λ hold. let (here, there) = both_parts v x.none test.otherwise hold in first_of_more fits fs f ∙ (λ i. then_first (before.none here i) (now.otherwise there i) f fs);
  }

-- facts and the last one
last_fact : (v : List PureValue) (cs : List PureFact) (c : PureFact) (fs : List Fact) → AreFacts v (cs ++ c ∷ []) fs
    → (gs : List Fact) × ((f : Fact) × ((fs ≡ gs ++ f ∷ []) × AreFacts v cs gs × IsFact v c f × (length gs ≡ length cs)))
last_fact v [] c (f ∷ []) are = ([], (f, (refl, tt, are.0, refl)))
last_fact v [] c (f ∷ g ∷ fs) are = absurd are.1
last_fact v [] c [] are = absurd are
last_fact v (d ∷ cs) c (f ∷ fs) are =
    let (gs, (g, (is, before, last, size))) = last_fact v cs c fs are.1 in (f ∷ gs, (g, (ap (λ xs. f ∷ xs) is, (are.0, before), last, ap suc size)))
last_fact v (d ∷ cs) c [] are = absurd are

module _ (pred : List ℕ) (ins : List PureTerm) (known : PureOuts) where
  pub chooses_none : ChoosesFact [] pred ins known (record { found = []; none = always }) × ChoiceStaysOver [] ins known (record { found = []; none = always })
  chooses_none = (
    λ vars v ws os fs proper cs_over ins_over known_over are have outs. none v (fits_fact pred ws os) fs are,
    λ vars cs_over ins_over known_over. (tt, (tt, tt)),
  )
    where
      none : (v : List PureValue) (fits : Fact → Bool) (fs : List Fact) → AreFacts v [] fs → SaysFirst v fits fs (record { found = []; none = always })
      none v fits [] are = record { cover = inr (inl refl); found = tt; none = λ hold. refl }
      none v fits (f ∷ fs) are = absurd are

  pub chooses_more : (cs : List PureFact) (c : PureFact) (x : PureChoice) (test : PureTest) → ChoosesFact cs pred ins known x → TestsFact c pred ins known test
      → ChoosesFact (cs ++ c ∷ []) pred ins known (more_choice x test (length cs))
  chooses_more cs c x test before now vars v ws os fs proper over ins_over known_over are have outs =
      let (gs, (f, (is, earlier, last, size))) = last_fact v cs c fs are in
      let Over : PureFact → Type 0 = λ d. AreEachOver vars (d.ins ++ d.outs) in
      let first = before vars v ws os gs proper (each_left Over cs (c ∷ []) over) ins_over known_over earlier have outs in
      let second = now vars v ws os f proper (each_right Over cs (c ∷ []) over).0 ins_over known_over last have outs in
      subst (λ ys. SaysFirst v (fits_fact pred ws os) ys (more_choice x test (length cs))) (sym is)
      (subst (λ k. SaysFirst v (fits_fact pred ws os) (gs ++ f ∷ []) (more_choice x test k)) size (says_more v (fits_fact pred ws os) gs f x test first second))

  placed_over : (vars : List Sort) (alts : Alternatives) (when : Option (List PureAtom)) (n : ℕ) → Each (AreConditions vars) alts → AreConditionsIfAny vars when → Each (λ c. AreConditions vars c.conds) (placed_cases alts when n)
  placed_over vars alts None n all over = tt
  placed_over vars [] (Some when) n all over = tt
  placed_over vars (a ∷ alts) (Some when) n all over = (each_append (IsCondition vars) a when all.0 over, placed_over vars alts (Some when) n all.1 over)

  with_each : (vars : List Sort) (a : List PureAtom) (ys : Alternatives) → AreConditions vars a → Each (AreConditions vars) ys → Each (AreConditions vars) (map (λ b. a ++ b) ys)
  with_each vars a [] here all = tt
  with_each vars a (y ∷ ys) here all = (each_append (IsCondition vars) a y here all.0, with_each vars a ys here all.1)

  both_over : (vars : List Sort) (xs ys : Alternatives) → Each (AreConditions vars) xs → Each (AreConditions vars) ys → Each (AreConditions vars) (both xs ys)
  both_over vars [] ys all more = tt
  both_over vars (x ∷ xs) ys all more = each_append (AreConditions vars) (map (λ b. x ++ b) ys) (both xs ys) (with_each vars x ys all.0 more) (both_over vars xs ys all.1 more)

  pub choice_more_over : (cs : List PureFact) (c : PureFact) (x : PureChoice) (test : PureTest) (n : ℕ) → ChoiceStaysOver cs ins known x → FactStaysOver c ins known test
      → ChoiceStaysOver (cs ++ c ∷ []) ins known (more_choice x test n)
  choice_more_over cs c x test n before now vars over ins_over known_over =
      let Over : PureFact → Type 0 = λ d. AreEachOver vars (d.ins ++ d.outs) in
      let first = before vars (each_left Over cs (c ∷ []) over) ins_over known_over in
      let second = now vars (each_right Over cs (c ∷ []) over).0 ins_over known_over in (
        each_append (λ d. AreConditions vars d.conds) x.found (placed_cases x.none test.when n) first.0 (placed_over vars x.none test.when n first.1 second.when),
        both_over vars x.none test.otherwise first.1 second.otherwise,
      )

-- ---- facts as the code has them

pub facts_seen : (xs : List PredChunk) (i : ℕ) (x : PredChunk) → i < length xs → x ≡ get_or xs i x → facts_view (take (i + 1) xs) ≡ facts_view (take i xs) ++ fact_view x ∷ []
facts_seen xs i x below is = ap facts_view (take_more xs i x below ∙ ap (λ y. take i xs ++ y ∷ []) (sym is)) ∙ map-append fact_view (take i xs) (x ∷ [])
