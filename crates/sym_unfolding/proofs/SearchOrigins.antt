-- Where the conditions of searching a fact come from, and the places that are found.
use Rattle.std.proofs.Common.{◌≡◌, inl, inr, ℕ, zero, suc, List, [], ◌∷◌, ◌++◌, map, length, slice_get, true, Option, Some, None, refl, sym, subst}
use Rattle.std.specs.Str.{bytes_eq}
use Rattle.pure_terms.specs.Pure.{PureTerm, PureAtom}
use Rattle.sym_matching.specs.Origins.{OnEachIfAny, TestComesFrom, AsksElements, AsksOuts}
use Rattle.sym_matching.specs.Pure.{PureTest, PureOuts}
use Rattle.sym_model.specs.Alternatives.{Alternatives, both}
use Rattle.sym_model.specs.Lists.{Each}
use Rattle.sym_model.proofs.ListLaws.{not_none, each_append, each_to, each_map, each_flat, each_by_place, one_left, one_right}
use Rattle.sym_states.specs.Pure.{PureFact}
use Rattle.sym_states.proofs.Names.{names_same}
use Rattle.sym_unfolding.specs.Origins.{AsksFact, AsksSearch}
use Rattle.sym_unfolding.specs.Searching.{PureFound, PureSearch, joined_conditions, both_tests, found_if, looked_at, SearchComesFrom}

-- ---- tests

if_any_to : (P Q : PureAtom → Type 0) (o : Option (List PureAtom)) → ((a : PureAtom) → P a → Q a) → OnEachIfAny P o → OnEachIfAny Q o
if_any_to P Q None f is = tt
if_any_to P Q (Some conds) f is = each_to P Q conds f is

alternatives_to : (P Q : PureAtom → Type 0) (x : Alternatives) → ((a : PureAtom) → P a → Q a) → Each (Each P) x → Each (Each Q) x
alternatives_to P Q x f all = each_to (Each P) (Each Q) x (λ conds is. each_to P Q conds f is) all

joined_from : (P : PureAtom → Type 0) (a b : Option (List PureAtom)) → OnEachIfAny P a → OnEachIfAny P b → OnEachIfAny P (joined_conditions a b)
joined_from P (Some a) (Some b) first second = each_append P a b first second
joined_from P (Some a) None first second = tt
joined_from P None b first second = tt

-- both tests of a fact
pub both_come : (ins : List PureTerm) (outs : PureOuts) (c : PureFact) (s t : PureTest) → TestComesFrom (AsksElements c.ins ins) s → TestComesFrom (AsksOuts outs c.outs) t → TestComesFrom (λ a. AsksFact ins outs a c) (both_tests s t)
both_come ins outs c s t first second =
    let Asks : PureAtom → Type 0 = λ (a : PureAtom). AsksFact ins outs a c in
    record {
      when = joined_from Asks s.when t.when (if_any_to (AsksElements c.ins ins) Asks s.when (λ a is. inl is) first.when) (if_any_to (AsksOuts outs c.outs) Asks t.when (λ a is. inr is) second.when);
      otherwise = each_append (Each Asks) s.otherwise t.otherwise (alternatives_to (AsksElements c.ins ins) Asks s.otherwise (λ a is. inl is) first.otherwise)
          (alternatives_to (AsksOuts outs c.outs) Asks t.otherwise (λ a is. inr is) second.otherwise);
    }

-- ---- the search

both_conditions : (P : PureAtom → Type 0) (x y : Alternatives) → Each (Each P) x → Each (Each P) y → Each (Each P) (both x y)
both_conditions P x y first second =
    each_flat (Each P) (λ a. map (λ b. a ++ b) y) x
    (each_to (Each P) (λ a. Each (Each P) (map (λ b. a ++ b) y)) x
    (λ a is. each_map (Each P) (λ b. a ++ b) y (each_to (Each P) (λ b. Each P (a ++ b)) y (λ b more. each_append P a b is more) second)) first)

found_conditions : (P : PureAtom → Type 0) (o : Option (List PureAtom)) (none : Alternatives) (place : ℕ) → OnEachIfAny P o → Each (Each P) none → Each (λ f. Each P f.conds) (found_if o none place)
found_conditions P None none place is all = tt
found_conditions P (Some conds) none place is all =
    each_map (λ f. Each P f.conds) (λ first. record { conds = first ++ conds; place = place }) none (each_to (Each P) (λ first. Each P (first ++ conds)) none (λ first so. each_append P first conds so is) all)

found_places : (Q : ℕ → Type 0) (o : Option (List PureAtom)) (none : Alternatives) (place : ℕ) → Q place → Each (λ f. Q f.place) (found_if o none place)
found_places Q None none place is = tt
found_places Q (Some conds) none place is =
    each_map (λ (f : PureFound). Q f.place) (λ first. record { conds = first ++ conds; place = place }) none (each_by_place (λ (first : List PureAtom). Q place) none (λ i first at. is))

still_at : {A : Type 0} (xs ys : List A) (i : ℕ) (x : A) → slice_get xs i ≡ Some x → slice_get (xs ++ ys) i ≡ Some x
still_at [] ys i x at = not_none at
still_at (y ∷ xs) ys zero x at = at
still_at (y ∷ xs) ys (suc i) x at = still_at xs ys i x at

last_at : {A : Type 0} (xs : List A) (y : A) → slice_get (xs ++ y ∷ []) (length xs) ≡ Some y
last_at [] y = refl
last_at (x ∷ xs) y = last_at xs y

module _ (x : List ℕ) (ins : List PureTerm) (outs : PureOuts) (facts : List PureFact) (c : PureFact) where
  abbrev Before : PureAtom → Type 0
  Before a = AsksSearch x ins outs facts a

  abbrev After : PureAtom → Type 0
  After a = AsksSearch x ins outs (facts ++ c ∷ []) a

  -- a fact of the name stands at the place
  abbrev IsAt : List PureFact → ℕ → Type 0
  IsAt cs place = (d : PureFact) × ((slice_get cs place ≡ Some d) × (d.pred ≡ x))

  -- the fact has the ins and outs
  abbrev AsksHere : PureAtom → Type 0
  AsksHere a = AsksFact ins outs a c

  asks_longer : (a : PureAtom) → Before a → After a
  asks_longer a asks = one_left (λ d. (d.pred ≡ x) × AsksFact ins outs a d) facts (c ∷ []) asks

  pub searches_past : (s : PureSearch) → SearchComesFrom x ins outs facts s → SearchComesFrom x ins outs (facts ++ c ∷ []) s
  searches_past s is = record {
    found = each_to (λ f. Each Before f.conds) (λ f. Each After f.conds) s.found (λ f all. each_to Before After f.conds asks_longer all) is.found;
    none = alternatives_to Before After s.none asks_longer is.none;
    places = each_to (λ f. IsAt facts f.place) (λ f. IsAt (facts ++ c ∷ []) f.place) s.found (λ f at. (at.0, (still_at facts (c ∷ []) f.place at.0 at.1.0, at.1.1))) is.places;
  }

  pub searches_closer : (test : PureTest) (place : ℕ) (s : PureSearch) → bytes_eq c.pred x ≡ true → TestComesFrom (λ a. AsksFact ins outs a c) test → place ≡ length facts → SearchComesFrom x ins outs facts s
      → SearchComesFrom x ins outs (facts ++ c ∷ []) (looked_at test place s)
  searches_closer test place s same tests at is =
      let past = searches_past s is in
      record {
        found = each_append (λ f. Each After f.conds) s.found (found_if test.when s.none place) past.found
            (found_conditions After test.when s.none place (if_any_to AsksHere After test.when asks_here tests.when) past.none);
        none = both_conditions After s.none test.otherwise past.none (alternatives_to AsksHere After test.otherwise asks_here tests.otherwise);
        places = each_append (λ f. IsAt (facts ++ c ∷ []) f.place) s.found (found_if test.when s.none place) past.places
            (found_places (IsAt (facts ++ c ∷ [])) test.when s.none place (c, (subst (λ i. slice_get (facts ++ c ∷ []) i ≡ Some c) (sym at) (last_at facts c), names_same c.pred x same)));
      }
    where
      asks_here : (a : PureAtom) → AsksHere a → After a
      asks_here a asks = one_right (λ d. (d.pred ≡ x) × AsksFact ins outs a d) facts (c ∷ []) (inl (names_same c.pred x same, asks))
