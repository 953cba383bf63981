-- Searching the first fact with given ins and outs.
use Rattle.std.specs.Prelude.{◌≡◌, ◌⊎◌, ℕ, List, [], ◌∷◌, ◌++◌, map, length, slice_get, ◌&&◌, Option, Some, None, IsTrue}
use Rattle.gil_values.specs.Equality.{same_elements}
use Rattle.gil_values.specs.Pure.{PureValue}
use Rattle.assert_logic.specs.LogicStates.{Fact}
use Rattle.assert_logic.specs.Matching.{FoundFact, first_fact, fits_fact, all_agree}
use Rattle.pure_terms.specs.declared.variables.Sort.{Sort}
use Rattle.pure_terms.specs.Meaning.{all_true, IsProper}
use Rattle.pure_terms.specs.Pure.{PureTerm, PureAtom}
use Rattle.sym_model.specs.Alternatives.{Alternatives, Hold, both}
use Rattle.sym_evaluation.specs.Meaning.{HaveValues}
use Rattle.sym_matching.specs.Meaning.{SaysTest, AreOuts, AreOutsOver, AreConditions, IsTestOver}
use Rattle.sym_matching.specs.Origins.{TestComesFrom}
use Rattle.sym_matching.specs.Pure.{PureTest, PureOuts}
use Rattle.sym_model.specs.Lists.{Each, OneOf}
use Rattle.sym_model.specs.Terms.{AreEachOver}
use Rattle.sym_states.specs.Meaning.{AreFacts, IsFact}
use Rattle.sym_states.specs.Pure.{PureFact}
use Rattle.sym_unfolding.specs.Origins.{AsksFact, AsksSearch}

pub record PureFound : Type 0 where
  pub conds : List PureAtom
  pub place : ℕ

pub record PureSearch : Type 0 where
  pub found : List PureFound
  pub none : Alternatives

-- ---- tests of facts

abbrev pub joined_conditions : Option (List PureAtom) → Option (List PureAtom) → Option (List PureAtom)
joined_conditions (Some a) (Some b) = Some (a ++ b)
joined_conditions _ _ = None

abbrev pub both_tests : PureTest → PureTest → PureTest
both_tests s t = record { when = joined_conditions s.when t.when; otherwise = s.otherwise ++ t.otherwise }

-- the test says whether the fact has these ins and outs
pub record TestsFact (ins : List PureTerm) (outs : PureOuts) (c : PureFact) (test : PureTest) : Type 0 where
  pub says : (vars : List Sort) (v : List PureValue) (f : Fact) (ws : List PureValue) (os : List (Option PureValue)) → IsProper vars v
      → AreEachOver vars ins → AreOutsOver vars outs → AreEachOver vars (c.ins ++ c.outs) → IsFact v c f → HaveValues v ins ws → AreOuts v outs os
      → SaysTest v test (same_elements f.ins ws && all_agree os f.outs)
  pub names : (vars : List Sort) → AreEachOver vars ins → AreOutsOver vars outs → AreEachOver vars (c.ins ++ c.outs) → IsTestOver vars test
  pub origin : TestComesFrom (λ a. AsksFact ins outs a c) test

-- ---- the search

-- the place is found behind each of the alternatives
abbrev pub found_behind : Alternatives → List PureAtom → ℕ → List PureFound
found_behind before conds place = map (λ first. record { conds = first ++ conds; place = place }) before

abbrev pub found_if : Option (List PureAtom) → Alternatives → ℕ → List PureFound
found_if (Some conds) before place = found_behind before conds place
found_if None before place = []

abbrev pub looked_at : PureTest → ℕ → PureSearch → PureSearch
looked_at test place s = record { found = s.found ++ found_if test.when s.none place; none = both s.none test.otherwise }

-- The search says which fact is the first one: some place is found, or there is none.
pub record SaysFirst (v : List PureValue) (s : PureSearch) (o : Option FoundFact) : Type 0 where
  pub cover : OneOf (λ f. IsTrue (all_true v f.conds)) s.found ⊎ Hold v s.none
  pub found : Each (λ f. IsTrue (all_true v f.conds) → (g : FoundFact) × ((o ≡ Some g) × (g.place ≡ f.place))) s.found
  pub none : Hold v s.none → o ≡ None

pub record IsSearchOver (vars : List Sort) (s : PureSearch) : Type 0 where
  pub found : Each (λ f. AreConditions vars f.conds) s.found
  pub none : Each (AreConditions vars) s.none

-- The conditions of the search are those that facts of this name have the ins and outs, and at a place that was found such a fact stands.
pub record SearchComesFrom (x : List ℕ) (ins : List PureTerm) (outs : PureOuts) (facts : List PureFact) (s : PureSearch) : Type 0 where
  pub found : Each (λ f. Each (AsksSearch x ins outs facts) f.conds) s.found
  pub none : Each (Each (AsksSearch x ins outs facts)) s.none
  pub places : Each (λ f. (c : PureFact) × ((slice_get facts f.place ≡ Some c) × (c.pred ≡ x))) s.found

-- what was sought among some facts is sought among one more
pub record LooksAt (x : List ℕ) (ins : List PureTerm) (outs : PureOuts) (place : ℕ) (c : PureFact) (before after : PureSearch) : Type 0 where
  pub says : (vars : List Sort) (v : List PureValue) (f : Fact) (fs : List Fact) (ws : List PureValue) (os : List (Option PureValue)) → IsProper vars v
      → AreEachOver vars ins → AreOutsOver vars outs → AreEachOver vars (c.ins ++ c.outs) → IsFact v c f → HaveValues v ins ws → AreOuts v outs os
      → place ≡ length fs → SaysFirst v before (first_fact (fits_fact x ws os) fs) → SaysFirst v after (first_fact (fits_fact x ws os) (fs ++ f ∷ []))
  pub names : (vars : List Sort) → AreEachOver vars ins → AreOutsOver vars outs → AreEachOver vars (c.ins ++ c.outs) → IsSearchOver vars before → IsSearchOver vars after
  pub origin : (facts : List PureFact) → place ≡ length facts → SearchComesFrom x ins outs facts before
      → SearchComesFrom x ins outs (facts ++ c ∷ []) after

pub record Searches (x : List ℕ) (ins : List PureTerm) (outs : PureOuts) (facts : List PureFact) (s : PureSearch) : Type 0 where
  pub says : (vars : List Sort) (v : List PureValue) (fs : List Fact) (ws : List PureValue) (os : List (Option PureValue)) → IsProper vars v
      → AreEachOver vars ins → AreOutsOver vars outs → Each (λ c. AreEachOver vars (c.ins ++ c.outs)) facts → AreFacts v facts fs → HaveValues v ins ws → AreOuts v outs os
      → SaysFirst v s (first_fact (fits_fact x ws os) fs)
  pub names : (vars : List Sort) → AreEachOver vars ins → AreOutsOver vars outs → Each (λ c. AreEachOver vars (c.ins ++ c.outs)) facts → IsSearchOver vars s
  pub origin : SearchComesFrom x ins outs facts s
