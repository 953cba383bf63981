-- The first fact is found behind the conditions under which none before it is.
use Rattle.std.proofs.Common.{◌≡◌, ◌⊎◌, ⊎_elim, inl, inr, ℕ, suc, List, [], ◌∷◌, ◌++◌, map, length, Bool, true, false, ◌&&◌, cond, Option, Some, None, IsTrue, refl, sym, ap, subst, ◌∙◌, arith}
use Rattle.std.specs.Option.{option_map}
use Rattle.std.specs.Str.{bytes_eq}
use Rattle.std.proofs.lemmas.Bool.{and_parts}
use Rattle.std.proofs.lemmas.List.Folds.{list_all-append}
use Rattle.gil_values.specs.Equality.{same_elements}
use Rattle.gil_values.specs.Pure.{PureValue}
use Rattle.assert_logic.specs.LogicStates.{Fact}
use Rattle.assert_logic.specs.Matching.{FoundFact, found_after, first_fact, fits_fact, all_agree}
use Rattle.pure_terms.specs.declared.variables.Sort.{Sort}
use Rattle.pure_terms.specs.Meaning.{truth, all_true, IsOver}
use Rattle.pure_terms.specs.Pure.{PureTerm, PureAtom}
use Rattle.sym_model.specs.Alternatives.{Alternatives, Hold, both, always}
use Rattle.sym_model.proofs.Combined.{both_from, both_parts}
use Rattle.sym_matching.specs.Matching.{TestsElements, TestsOuts, ElementsStayOver, AgreementStaysOver}
use Rattle.sym_matching.specs.Meaning.{AreMet, SaysTest, IsCondition, AreConditions, AreConditionsIfAny, IsTestOver}
use Rattle.sym_matching.specs.Origins.{TestComesFrom, AsksElements, AsksOuts}
use Rattle.sym_matching.specs.Pure.{PureTest, PureOuts}
use Rattle.sym_model.specs.Lists.{Each, OneOf}
use Rattle.sym_model.specs.Terms.{AreEachOver}
use Rattle.sym_model.proofs.ListLaws.{same_some, not_none, each_append, each_left, each_right, each_to, each_map, one_left, one_right, one_parts, one_map, one_to, each_flat}
use Rattle.sym_states.specs.Meaning.{AreFacts, IsFact}
use Rattle.sym_states.specs.Pure.{PureFact}
use Rattle.sym_unfolding.specs.Searching.{PureFound, PureSearch, joined_conditions, both_tests, TestsFact, found_if, looked_at, SaysFirst, IsSearchOver, LooksAt, Searches}
use Rattle.sym_unfolding.proofs.SearchOrigins.{both_come, searches_past, searches_closer}

abbrev AllTrue : List PureValue → List PureAtom → Type 0
AllTrue v conds = IsTrue (all_true v conds)

pub joined_true : (v : List PureValue) (a b : List PureAtom) → AllTrue v a → AllTrue v b → AllTrue v (a ++ b)
joined_true v a b first second = list_all-append (truth v) a b ∙ ap (λ c. c && all_true v b) first ∙ second

pub true_parts : (v : List PureValue) (a b : List PureAtom) → AllTrue v (a ++ b) → AllTrue v a × AllTrue v b
true_parts v a b all = and_parts (all_true v a) (all_true v b) (sym (list_all-append (truth v) a b) ∙ all)

-- ---- tests

both_met : (v : List PureValue) (a b : Option (List PureAtom)) → AreMet v a → AreMet v b → AreMet v (joined_conditions a b)
both_met v (Some a) (Some b) first second = joined_true v a b first second
both_met v None b first second = absurd first
both_met v (Some a) None first second = absurd second

met_parts : (v : List PureValue) (a b : Option (List PureAtom)) → AreMet v (joined_conditions a b) → AreMet v a × AreMet v b
met_parts v (Some a) (Some b) met = true_parts v a b met
met_parts v (Some a) None met = absurd met
met_parts v None b met = absurd met

both_say : (v : List PureValue) (s t : PureTest) (a b : Bool) → SaysTest v s a → SaysTest v t b → SaysTest v (both_tests s t) (a && b)
both_say v s t a b first second = record {
  cover = ⊎_elim
      (λ met. ⊎_elim (λ more. inl (both_met v s.when t.when met more)) (λ other. inr (one_right (AllTrue v) s.otherwise t.otherwise other)) second.cover)
      (λ other. inr (one_left (AllTrue v) s.otherwise t.otherwise other)) first.cover;
  when = λ met. let (one, two) = met_parts v s.when t.when met in (λ i. first.when one i && b) ∙ second.when two;
  otherwise = λ other. ⊎_elim (λ one. ap (λ c. c && b) (first.otherwise one)) (λ two. ap (λ c. a && c) (second.otherwise two) ∙ and_false a) (one_parts (AllTrue v) s.otherwise t.otherwise other);
}
  where
    and_false : (c : Bool) → (c && false) ≡ false
    and_false true = refl
    and_false false = refl

joined_over : (vars : List Sort) (a b : Option (List PureAtom)) → AreConditionsIfAny vars a → AreConditionsIfAny vars b → AreConditionsIfAny vars (joined_conditions a b)
joined_over vars (Some a) (Some b) first second = each_append (IsCondition vars) a b first second
joined_over vars (Some a) None first second = tt
joined_over vars None b first second = tt

both_over : (vars : List Sort) (s t : PureTest) → IsTestOver vars s → IsTestOver vars t → IsTestOver vars (both_tests s t)
both_over vars s t first second = record {
  when = joined_over vars s.when t.when first.when second.when;
  otherwise = each_append (AreConditions vars) s.otherwise t.otherwise first.otherwise second.otherwise;
}

pub tests_fact : (ins : List PureTerm) (outs : PureOuts) (c : PureFact) (s t : PureTest) → TestsElements c.ins ins s → ElementsStayOver c.ins ins s → TestComesFrom (AsksElements c.ins ins) s → TestsOuts outs c.outs t → AgreementStaysOver outs c.outs t → TestComesFrom (AsksOuts outs c.outs) t → TestsFact ins outs c (both_tests s t)
tests_fact ins outs c s t says_ins names_ins from_ins says_outs names_outs from_outs = record {
  says = λ vars v f ws os proper ins_over outs_over over is have are.
      both_say v s t (same_elements f.ins ws) (all_agree os f.outs)
      (says_ins vars v f.ins ws proper (each_left (IsOver vars) c.ins c.outs over) ins_over is.ins have)
      (says_outs vars v os f.outs proper outs_over (each_right (IsOver vars) c.ins c.outs over) are is.outs);
  names = λ vars ins_over outs_over over.
      both_over vars s t (names_ins vars (each_left (IsOver vars) c.ins c.outs over) ins_over) (names_outs vars outs_over (each_right (IsOver vars) c.ins c.outs over));
  origin = both_come ins outs c s t from_ins from_outs;
}

-- ---- the first fact among one more

first_kept : (fits : Fact → Bool) (fs : List Fact) (f : Fact) (g : FoundFact) → first_fact fits fs ≡ Some g → first_fact fits (fs ++ f ∷ []) ≡ Some (record g { others = g.others ++ f ∷ [] })
first_kept fits [] f g is = not_none is
first_kept fits (h ∷ fs) f g is = by (fits h) (first_fact fits fs) refl (first_kept fits fs f) is
  where
    by : (b : Bool) (o : Option FoundFact) → first_fact fits fs ≡ o → ((k : FoundFact) → o ≡ Some k → first_fact fits (fs ++ f ∷ []) ≡ Some (record k { others = k.others ++ f ∷ [] }))
        → cond b (Some (record { fact = h; place = 0; others = fs })) (option_map (found_after h) o) ≡ Some g
        → cond b (Some (record { fact = h; place = 0; others = fs ++ f ∷ [] })) (option_map (found_after h) (first_fact fits (fs ++ f ∷ []))) ≡ Some (record g { others = g.others ++ f ∷ [] })
    by true o there later found = ap (λ (k : FoundFact). Some (record k { others = k.others ++ f ∷ [] })) (same_some found)
    by false (Some k) there later found = ap (option_map (found_after h)) (later k refl) ∙ ap (λ (x : FoundFact). Some (record x { others = x.others ++ f ∷ [] })) (same_some found)
    by false None there later found = not_none found

first_last : (fits : Fact → Bool) (fs : List Fact) (f : Fact) → first_fact fits fs ≡ None → fits f ≡ true → (g : FoundFact) × ((first_fact fits (fs ++ f ∷ []) ≡ Some g) × (g.place ≡ length fs))
first_last fits [] f none is = (record { fact = f; place = 0; others = [] }, (ap (λ b. cond b (Some (record { fact = f; place = 0; others = [] })) None) is, refl))
first_last fits (h ∷ fs) f none is = by (fits h) (first_fact fits fs) refl none (λ n. first_last fits fs f n is)
  where
    by : (b : Bool) (o : Option FoundFact) → first_fact fits fs ≡ o → cond b (Some (record { fact = h; place = 0; others = fs })) (option_map (found_after h) o) ≡ None
        → (first_fact fits fs ≡ None → (g : FoundFact) × ((first_fact fits (fs ++ f ∷ []) ≡ Some g) × (g.place ≡ length fs)))
        → (g : FoundFact) × ((cond b (Some (record { fact = h; place = 0; others = fs ++ f ∷ [] })) (option_map (found_after h) (first_fact fits (fs ++ f ∷ []))) ≡ Some g) × (g.place ≡ suc (length fs)))
    by true o there absent later = not_none (sym absent)
    by false (Some k) there absent later = not_none (sym absent)
    by false None there absent later = let (g, (found, place)) = later there in (found_after h g, (ap (option_map (found_after h)) found, omega (arith, place)))

first_none : (fits : Fact → Bool) (fs : List Fact) (f : Fact) → first_fact fits fs ≡ None → fits f ≡ false → first_fact fits (fs ++ f ∷ []) ≡ None
first_none fits [] f none other = ap (λ b. cond b (Some (record { fact = f; place = 0; others = [] })) None) other
first_none fits (h ∷ fs) f none other = by (fits h) (first_fact fits fs) refl none (λ n. first_none fits fs f n other)
  where
    by : (b : Bool) (o : Option FoundFact) → first_fact fits fs ≡ o → cond b (Some (record { fact = h; place = 0; others = fs })) (option_map (found_after h) o) ≡ None
        → (first_fact fits fs ≡ None → first_fact fits (fs ++ f ∷ []) ≡ None)
        → cond b (Some (record { fact = h; place = 0; others = fs ++ f ∷ [] })) (option_map (found_after h) (first_fact fits (fs ++ f ∷ []))) ≡ None
    by true o there absent later = not_none (sym absent)
    by false (Some k) there absent later = not_none (sym absent)
    by false None there absent later = ap (option_map (found_after h)) (later there)

-- ---- what the search says

module _ (v : List PureValue) (fits : Fact → Bool) (fs : List Fact) (f : Fact) where
  abbrev IsAt : Option FoundFact → PureFound → Type 0
  IsAt o p = AllTrue v p.conds → (g : FoundFact) × ((o ≡ Some g) × (g.place ≡ p.place))

  still_found : (p : PureFound) → IsAt (first_fact fits fs) p → IsAt (first_fact fits (fs ++ f ∷ [])) p
  still_found p at met = let (g, (is, place)) = at met in (record g { others = g.others ++ f ∷ [] }, (first_kept fits fs f g is, place))

  pub says_other : (s : PureSearch) → fits f ≡ false → SaysFirst v s (first_fact fits fs) → SaysFirst v s (first_fact fits (fs ++ f ∷ []))
  says_other s other says = record {
    cover = says.cover;
    found = each_to (IsAt (first_fact fits fs)) (IsAt (first_fact fits (fs ++ f ∷ []))) s.found still_found says.found;
    none = λ none. first_none fits fs f (says.none none) other;
  }

  module _ (test : PureTest) (place : ℕ) (s : PureSearch) (at : place ≡ length fs) (tests : SaysTest v test (fits f)) (says : SaysFirst v s (first_fact fits fs)) where
    behind_found : (o : Option (List PureAtom)) → AreMet v o → Hold v s.none → OneOf (λ p. AllTrue v p.conds) (found_if o s.none place)
    behind_found (Some conds) met none = one_map (λ p. AllTrue v p.conds) (λ first. record { conds = first ++ conds; place = place }) s.none (one_to (AllTrue v) (λ first. AllTrue v (first ++ conds)) s.none (λ first is. joined_true v first conds is met) none)
    behind_found None met none = absurd met

    covers : OneOf (λ p. AllTrue v p.conds) (looked_at test place s).found ⊎ Hold v (looked_at test place s).none
    covers = ⊎_elim
        (λ found. inl (one_left (λ p. AllTrue v p.conds) s.found (found_if test.when s.none place) found))
        (λ none. ⊎_elim (λ met. inl (one_right (λ p. AllTrue v p.conds) s.found (found_if test.when s.none place) (behind_found test.when met none))) (λ other. inr (both_from v s.none test.otherwise none other)) tests.cover)
        says.cover

    new_found : (o : Option (List PureAtom)) → (AreMet v o → fits f ≡ true) → Each (IsAt (first_fact fits (fs ++ f ∷ []))) (found_if o s.none place)
    new_found None fit = tt
    new_found (Some conds) fit = each_map (IsAt (first_fact fits (fs ++ f ∷ []))) (λ first. record { conds = first ++ conds; place = place }) s.none (each_here s.none says.none)
      where
        each_here : (none : Alternatives) → (Hold v none → first_fact fits fs ≡ None) → Each (λ first. IsAt (first_fact fits (fs ++ f ∷ [])) (record { conds = first ++ conds; place = place })) none
        each_here [] absent = tt
        each_here (first ∷ rest) absent = (
          (λ met.
              let (one, two) = true_parts v first conds met in
              let (g, (is, there)) = first_last fits fs f (absent (inl one)) (fit two) in
              (g, (is, there ∙ sym at))),
          each_here rest (λ later. absent (inr later)),
        )

    pub says_looked : SaysFirst v (looked_at test place s) (first_fact fits (fs ++ f ∷ []))
    says_looked = record {
      cover = covers;
      found = each_append (IsAt (first_fact fits (fs ++ f ∷ []))) s.found (found_if test.when s.none place)
          (each_to (IsAt (first_fact fits fs)) (IsAt (first_fact fits (fs ++ f ∷ []))) s.found still_found says.found) (new_found test.when tests.when);
      none = λ none. let (before, other) = both_parts v s.none test.otherwise none in first_none fits fs f (says.none before) (tests.otherwise other);
    }

-- ---- what is named

module _ (vars : List Sort) where
  alternatives_over : (x y : Alternatives) → Each (AreConditions vars) x → Each (AreConditions vars) y → Each (AreConditions vars) (both x y)
  alternatives_over x y first second =
      each_flat (AreConditions vars) (λ a. map (λ b. a ++ b) y) x (each_to (AreConditions vars) (λ a. Each (AreConditions vars) (map (λ b. a ++ b) y)) x
      (λ a over. each_map (AreConditions vars) (λ b. a ++ b) y (each_to (AreConditions vars) (λ b. AreConditions vars (a ++ b)) y (λ b more. each_append (IsCondition vars) a b over more) second)) first)

  found_over : (o : Option (List PureAtom)) (none : Alternatives) (place : ℕ) → AreConditionsIfAny vars o → Each (AreConditions vars) none → Each (λ p. AreConditions vars p.conds) (found_if o none place)
  found_over None none place over all = tt
  found_over (Some conds) none place over all =
      each_map (λ p. AreConditions vars p.conds) (λ first. record { conds = first ++ conds; place = place }) none (each_to (AreConditions vars) (λ first. AreConditions vars (first ++ conds)) none (λ first is. each_append (IsCondition vars) first conds is over) all)

  pub looked_over : (test : PureTest) (place : ℕ) (s : PureSearch) → IsTestOver vars test → IsSearchOver vars s → IsSearchOver vars (looked_at test place s)
  looked_over test place s tests over = record {
    found = each_append (λ p. AreConditions vars p.conds) s.found (found_if test.when s.none place) over.found (found_over test.when s.none place tests.when over.none);
    none = alternatives_over s.none test.otherwise over.none tests.otherwise;
  }

-- ---- the code's steps

pub looks_past : (x : List ℕ) (ins : List PureTerm) (outs : PureOuts) (place : ℕ) (c : PureFact) (s : PureSearch) → bytes_eq c.pred x ≡ false → LooksAt x ins outs place c s s
looks_past x ins outs place c s other = record {
  says = λ vars v f fs ws os proper ins_over outs_over over is have are at says.
      says_other v (fits_fact x ws os) fs f s (ap (λ b. b && same_elements f.ins ws && all_agree os f.outs) (ap (λ y. bytes_eq y x) (sym is.pred) ∙ other)) says;
  names = λ vars ins_over outs_over over before. before;
  origin = λ facts at come. searches_past x ins outs facts c s come;
}

pub looks_closer : (x : List ℕ) (ins : List PureTerm) (outs : PureOuts) (place : ℕ) (c : PureFact) (test : PureTest) (s : PureSearch) → bytes_eq c.pred x ≡ true → TestsFact ins outs c test → LooksAt x ins outs place c s (looked_at test place s)
looks_closer x ins outs place c test s same tests = record {
  says = λ vars v f fs ws os proper ins_over outs_over over is have are at says.
      let fit : (same_elements f.ins ws && all_agree os f.outs) ≡ fits_fact x ws os f = sym (ap (λ b. b && same_elements f.ins ws && all_agree os f.outs) (ap (λ y. bytes_eq y x) (sym is.pred) ∙ same)) in
      says_looked v (fits_fact x ws os) fs f test place s at (subst (SaysTest v test) fit (tests.says vars v f ws os proper ins_over outs_over over is have are)) says;
  names = λ vars ins_over outs_over over before. looked_over vars test place s (tests.names vars ins_over outs_over over) before;
  origin = λ facts at come. searches_closer x ins outs facts c test place s same tests.origin at come;
}

pub nothing_searched : (x : List ℕ) (ins : List PureTerm) (outs : PureOuts) → Searches x ins outs [] (record { found = []; none = always })
nothing_searched x ins outs = record {
  says = λ vars v fs ws os proper ins_over outs_over over facts have are. none_there v x ws os fs facts;
  names = λ vars ins_over outs_over over. record { found = tt; none = (tt, tt) };
  origin = record { found = tt; none = (tt, tt); places = tt };
}
  where
    none_there : (v : List PureValue) (y : List ℕ) (ws : List PureValue) (os : List (Option PureValue)) (fs : List Fact) → AreFacts v [] fs → SaysFirst v (record { found = []; none = always }) (first_fact (fits_fact y ws os) fs)
    none_there v y ws os [] facts = record { cover = inr (inl refl); found = tt; none = λ none. refl }
    none_there v y ws os (f ∷ fs) facts = absurd facts

facts_parts : (v : List PureValue) (cs : List PureFact) (c : PureFact) (fs : List Fact) → AreFacts v (cs ++ c ∷ []) fs → (gs : List Fact) × ((f : Fact) × ((fs ≡ gs ++ f ∷ []) × AreFacts v cs gs × IsFact v c f × (length cs ≡ length gs)))
facts_parts v [] c [] are = absurd are
facts_parts v [] c (f ∷ []) are = ([], (f, (refl, tt, are.0, refl)))
facts_parts v [] c (f ∷ g ∷ fs) are = absurd are.1
facts_parts v (d ∷ cs) c [] are = absurd are
facts_parts v (d ∷ cs) c (f ∷ fs) are = let (gs, (g, (is, first, last, as_many))) = facts_parts v cs c fs are.1 in (f ∷ gs, (g, (ap (λ hs. f ∷ hs) is, (are.0, first), last, ap suc as_many)))

pub searched_more : (x : List ℕ) (ins : List PureTerm) (outs : PureOuts) (cs : List PureFact) (c : PureFact) (s t : PureSearch) (place : ℕ) → place ≡ length cs → Searches x ins outs cs s → LooksAt x ins outs place c s t → Searches x ins outs (cs ++ c ∷ []) t
searched_more x ins outs cs c s t place at so_far looks = record {
  says = λ vars v fs ws os proper ins_over outs_over over facts have are.
      let (gs, (f, (is, first, last, as_many))) = facts_parts v cs c fs facts in
      subst (λ hs. SaysFirst v t (first_fact (fits_fact x ws os) hs)) (sym is)
      (looks.says vars v f gs ws os proper ins_over outs_over (each_right (λ d. AreEachOver vars (d.ins ++ d.outs)) cs (c ∷ []) over).0 last have are (at ∙ as_many)
      (so_far.says vars v gs ws os proper ins_over outs_over (each_left (λ d. AreEachOver vars (d.ins ++ d.outs)) cs (c ∷ []) over) first have are));
  names = λ vars ins_over outs_over over.
      looks.names vars ins_over outs_over (each_right (λ d. AreEachOver vars (d.ins ++ d.outs)) cs (c ∷ []) over).0 (so_far.names vars ins_over outs_over (each_left (λ d. AreEachOver vars (d.ins ++ d.outs)) cs (c ∷ []) over));
  origin = looks.origin cs at so_far.origin;
}
