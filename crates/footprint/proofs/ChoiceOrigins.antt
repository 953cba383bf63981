-- Where the conditions of choosing a fact come from, and those of what is asked of a use.
use Rattle.std.proofs.Common.{◌≡◌, inl, inr, ℕ, List, [], ◌∷◌, ◌++◌, length, map, slice_get, true, Option, Some, None, refl, ◌∙◌}
use Rattle.std.specs.Str.{bytes_eq}
use Rattle.std.proofs.lemmas.Option.{slice_get_within}
use Rattle.std.proofs.lemmas.Slice.Eq.{bytes_eq-Decides}
use Rattle.gil_syntax.specs.Pure.{PurePredUse}
use Rattle.pure_terms.specs.Pure.{PureTerm, PureAtom}
use Rattle.pure_terms.proofs.VariableLaws.{slice_get-append}
use Rattle.sym_evaluation.specs.Pure.{PureStore, PureFaultCase, PureGoodCase, PureCases}
use Rattle.sym_evaluation.specs.Questions.{AreTermsOf, IsAsked, OnConditions, OnResult, AllComeFrom}
use Rattle.sym_model.specs.Alternatives.{Alternatives, always, both}
use Rattle.sym_model.specs.Lists.{Each, OneOf}
use Rattle.sym_model.proofs.ListLaws.{each_append, each_to, each_map, one_left, one_right}
use Rattle.sym_states.specs.Producing.{IsAskedAmong}
use Rattle.sym_states.specs.Pure.{PureFact}
use Rattle.sym_matching.specs.Origins.{AsksElements, AsksOuts, OnEachIfAny, TestComesFrom, FoundComesFrom, AreKnownOuts, OutsComeFrom}
use Rattle.sym_matching.specs.Pure.{PureTest, PureSplit, PureOuts}
use Rattle.footprint.specs.Choosing.{PureFactCase, PureChoice, both_met, both_tests, placed_cases}
use Rattle.footprint.specs.Coming.{AskedComesFrom, AsksFact, AsksFactOf, WhereMet, FactComesFrom, HasPlace, ChoiceComesFrom}
use Rattle.footprint.specs.Origins.{AreAskedTerms}
use Rattle.footprint.specs.Uses.{PureAsked, both_asked}
use Rattle.footprint.proofs.FirstFact.{more_choice}

-- ---- one fact

met_from : (P : PureAtom → Type 0) (a b : Option (List PureAtom)) → OnEachIfAny P a → OnEachIfAny P b → OnEachIfAny P (both_met a b)
met_from P (Some a) (Some b) first second = each_append P a b first second
met_from P (Some a) None first second = tt
met_from P None b first second = tt

met_for : (P : Type 0) (o : Option (List PureAtom)) → P → WhereMet P o
met_for P None holds = tt
met_for P (Some conds) holds = holds

module _ (c : PureFact) (x : List ℕ) (ins : List PureTerm) (known : PureOuts) where
  -- one of another predicate
  pub other_from : FactComesFrom c x ins known (record { when = None; otherwise = always })
  other_from = record { conditions = record { when = tt; otherwise = (tt, tt) }; named = tt }

  any_to : (P Q : PureAtom → Type 0) → ((a : PureAtom) → P a → Q a) → (o : Option (List PureAtom)) → OnEachIfAny P o → OnEachIfAny Q o
  any_to P Q to None all = tt
  any_to P Q to (Some conds) all = each_to P Q conds to all

  test_to : (P Q : PureAtom → Type 0) → ((a : PureAtom) → P a → Q a) → (t : PureTest) → TestComesFrom P t → TestComesFrom Q t
  test_to P Q to t is = record { when = any_to P Q to t.when is.when; otherwise = each_to (Each P) (Each Q) t.otherwise (λ conds all. each_to P Q conds to all) is.otherwise }

  pub tested_from : (t r : PureTest) → bytes_eq c.pred x ≡ true → TestComesFrom (AsksElements c.ins ins) t → TestComesFrom (AsksOuts known c.outs) r → FactComesFrom c x ins known (both_tests t r)
  tested_from t r same elements outs =
      let Asks : PureAtom → Type 0 = λ a. AsksFact x ins known a c in
      let named : c.pred ≡ x = (bytes_eq-Decides c.pred x).0 same in
      let first : TestComesFrom Asks t = test_to (AsksElements c.ins ins) Asks (λ a asks. (named, inl asks)) t elements in
      let second : TestComesFrom Asks r = test_to (AsksOuts known c.outs) Asks (λ a asks. (named, inr asks)) r outs in
      record {
        conditions = record {
          when = met_from Asks t.when r.when first.when second.when;
          otherwise = each_append (Each Asks) t.otherwise r.otherwise first.otherwise second.otherwise;
        };
        named = met_for (c.pred ≡ x) (both_met t.when r.when) named;
      }

-- ---- one fact more

at_length : {X : Type 0} (xs : List X) (y : X) (ys : List X) → slice_get (xs ++ y ∷ ys) (length xs) ≡ Some y
at_length [] y ys = refl
at_length (x ∷ xs) y ys = at_length xs y ys

module _ (x : List ℕ) (ins : List PureTerm) (known : PureOuts) where
  pub choice_begins : ChoiceComesFrom [] x ins known (record { found = []; none = always })
  choice_begins = record { found = tt; none = (tt, tt) }

  module _ (cs : List PureFact) (c : PureFact) where
    abbrev Asks : PureAtom → Type 0
    Asks a = AsksFactOf (cs ++ c ∷ []) x ins known a

    abbrev IsPlaced : PureFactCase → Type 0
    IsPlaced f = Each Asks f.conds × HasPlace (cs ++ c ∷ []) x f.place

    before : (a : PureAtom) → AsksFactOf cs x ins known a → Asks a
    before a asks = one_left (AsksFact x ins known a) cs (c ∷ []) asks

    now : (a : PureAtom) → AsksFact x ins known a c → Asks a
    now a asks = one_right (AsksFact x ins known a) cs (c ∷ []) (inl asks)

    still_placed : (f : PureFactCase) → Each (AsksFactOf cs x ins known) f.conds × HasPlace cs x f.place → IsPlaced f
    still_placed f (asks, (d, (at, named))) =
        (each_to (AsksFactOf cs x ins known) Asks f.conds before asks, (d, (slice_get-append cs (c ∷ []) f.place (slice_get_within cs f.place d at) ∙ at, named)))

    placed_from : (alternatives : Alternatives) (when : Option (List PureAtom)) → Each (Each Asks) alternatives → OnEachIfAny Asks when → WhereMet (c.pred ≡ x) when
        → Each IsPlaced (placed_cases alternatives when (length cs))
    placed_from alternatives None all asks named = tt
    placed_from alternatives (Some when) all asks named =
        each_map IsPlaced (λ conds. record { conds = conds ++ when; place = length cs }) alternatives
        (each_to (Each Asks) (λ conds. IsPlaced (record { conds = conds ++ when; place = length cs })) alternatives
        (λ conds each. (each_append Asks conds when each asks, (c, (at_length cs c [], named)))) all)

    behind_each : (a : List PureAtom) (ys : Alternatives) → Each Asks a → Each (Each Asks) ys → Each (Each Asks) (map (λ b. a ++ b) ys)
    behind_each a ys here all = each_map (Each Asks) (λ b. a ++ b) ys (each_to (Each Asks) (λ b. Each Asks (a ++ b)) ys (λ b each. each_append Asks a b here each) all)

    both_from : (xs ys : Alternatives) → Each (Each Asks) xs → Each (Each Asks) ys → Each (Each Asks) (both xs ys)
    both_from [] ys all more = tt
    both_from (a ∷ xs) ys all more = each_append (Each Asks) (map (λ b. a ++ b) ys) (both xs ys) (behind_each a ys all.0 more) (both_from xs ys all.1 more)

    pub choice_more : (choice : PureChoice) (test : PureTest) → ChoiceComesFrom cs x ins known choice → FactComesFrom c x ins known test
        → ChoiceComesFrom (cs ++ c ∷ []) x ins known (more_choice choice test (length cs))
    choice_more choice test first second =
        let none : Each (Each Asks) choice.none = each_to (Each (AsksFactOf cs x ins known)) (Each Asks) choice.none (λ conds each. each_to (AsksFactOf cs x ins known) Asks conds before each) first.none in
        record {
          found = each_append IsPlaced choice.found (placed_cases choice.none test.when (length cs))
              (each_to (λ f. Each (AsksFactOf cs x ins known) f.conds × HasPlace cs x f.place) IsPlaced choice.found still_placed first.found)
              (placed_from choice.none test.when none (any_to c x ins known (λ a. AsksFact x ins known a c) Asks now test.when second.conditions.when) second.named);
          none = both_from choice.none test.otherwise none
              (each_to (Each (λ a. AsksFact x ins known a c)) (Each Asks) test.otherwise (λ conds each. each_to (λ a. AsksFact x ins known a c) Asks conds now each) second.conditions.otherwise);
        }

-- ---- what is asked of a use

module _ (bs : PureStore) (u : PurePredUse) where
  abbrev AsksUse : PureAtom → Type 0
  AsksUse a = IsAskedAmong bs (u.ins ++ u.outs) a

  abbrev AsksIns : PureAtom → Type 0
  AsksIns a = OneOf (λ e. IsAsked bs e a) u.ins

  abbrev AsksKnown : PureAtom → Type 0
  AsksKnown a = OneOf (λ e. IsAsked bs e a) u.outs

  ins_asked : (a : PureAtom) → AsksIns a → AsksUse a
  ins_asked a asks = one_left (λ e. IsAsked bs e a) u.ins u.outs asks

  outs_asked : (a : PureAtom) → AsksKnown a → AsksUse a
  outs_asked a asks = one_right (λ e. IsAsked bs e a) u.ins u.outs asks

  abbrev AreTheirs : PureAsked → Type 0
  AreTheirs a = AreAskedTerms bs u a.ins a.known

  found_asked : (g : Option (PureGoodCase (List PureTerm))) (h : Option (PureGoodCase PureOuts)) → OnConditions AsksIns g → OnResult (AreTermsOf bs u.ins) g → FoundComesFrom AsksKnown (AreKnownOuts bs u.outs) h
      → FoundComesFrom AsksUse AreTheirs (both_asked g h)
  found_asked (Some g) (Some h) asks are known =
      (each_append AsksUse g.conds h.conds (each_to AsksIns AsksUse g.conds ins_asked asks) (each_to AsksKnown AsksUse h.conds outs_asked known.0), record { ins_are = are; known_are = known.1 })
  found_asked (Some g) None asks are known = tt
  found_asked None h asks are known = tt

  pub asked_from : (cases : PureCases (List PureTerm)) (known : PureSplit PureOuts) → AllComeFrom bs u.ins cases → OutsComeFrom bs u.outs known
      → AskedComesFrom bs u (record { found = both_asked cases.good known.found; none = map (λ c. c.conds) cases.faults ++ known.none })
  asked_from cases known ins outs = record {
    found = found_asked cases.good known.found ins.0.1 ins.1 outs.found;
    none = each_append (Each AsksUse) (map (λ c. c.conds) cases.faults) known.none
        (each_map (Each AsksUse) (λ (c : PureFaultCase). c.conds) cases.faults
        (each_to (λ (c : PureFaultCase). Each AsksIns c.conds) (λ c. Each AsksUse c.conds) cases.faults (λ c each. each_to AsksIns AsksUse c.conds ins_asked each) ins.0.0))
        (each_to (Each AsksKnown) (Each AsksUse) known.none (λ conds each. each_to AsksKnown AsksUse conds outs_asked each) outs.none);
  }
