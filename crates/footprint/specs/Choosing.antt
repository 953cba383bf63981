-- Which fact a use takes, on terms.
use Rattle.std.specs.Prelude.{◌≡◌, ◌⊎◌, ℕ, List, [], ◌++◌, map, Option, Some, None, IsTrue, Bool}
use Rattle.gil_values.specs.Pure.{PureValue}
use Rattle.assert_logic.specs.LogicStates.{Fact}
use Rattle.assert_logic.specs.Matching.{FoundFact, first_fact, fits_fact}
use Rattle.pure_terms.specs.declared.variables.Sort.{Sort}
use Rattle.pure_terms.specs.Meaning.{all_true, IsProper}
use Rattle.pure_terms.specs.Pure.{PureTerm, PureAtom}
use Rattle.sym_model.specs.Alternatives.{Alternatives, Hold}
use Rattle.sym_evaluation.specs.Meaning.{HaveValues}
use Rattle.sym_matching.specs.Meaning.{SaysTest, IsTestOver, AreConditions, AreOuts, AreOutsOver}
use Rattle.sym_matching.specs.Pure.{PureTest, PureOuts}
use Rattle.sym_model.specs.Lists.{Each, OneOf}
use Rattle.sym_model.specs.Terms.{AreEachOver}
use Rattle.sym_states.specs.Meaning.{IsFact, AreFacts}
use Rattle.sym_states.specs.Pure.{PureFact}

pub record PureFactCase : Type 0 where
  pub conds : List PureAtom
  pub place : ℕ

pub record PureChoice : Type 0 where
  pub found : List PureFactCase
  pub none : Alternatives

abbrev pub both_met : Option (List PureAtom) → Option (List PureAtom) → Option (List PureAtom)
both_met (Some a) (Some b) = Some (a ++ b)
both_met _ _ = None

-- both are so
abbrev pub both_tests : PureTest → PureTest → PureTest
both_tests x y = record { when = both_met x.when y.when; otherwise = x.otherwise ++ y.otherwise }

-- for each of the alternatives a case with this place, where its fact fits
abbrev pub placed_cases : Alternatives → Option (List PureAtom) → ℕ → List PureFactCase
placed_cases alternatives None place = []
placed_cases alternatives (Some when) place = map (λ conds. record { conds = conds ++ when; place = place }) alternatives

-- whether a fact fits a use with these terms
abbrev pub TestsFact : PureFact → List ℕ → List PureTerm → PureOuts → PureTest → Type 0
TestsFact c pred ins known test =
    (vars : List Sort) (v ws : List PureValue) (os : List (Option PureValue)) (f : Fact) → IsProper vars v
    → AreEachOver vars (c.ins ++ c.outs) → AreEachOver vars ins → AreOutsOver vars known → IsFact v c f → HaveValues v ins ws → AreOuts v known os
    → SaysTest v test (fits_fact pred ws os f)

abbrev pub FactStaysOver : PureFact → List PureTerm → PureOuts → PureTest → Type 0
FactStaysOver c ins known test =
    (vars : List Sort) → AreEachOver vars (c.ins ++ c.outs) → AreEachOver vars ins → AreOutsOver vars known → IsTestOver vars test

-- The choice says under the valuation which fact is the first one that fits: that of a case whose conditions are true, and none where the
-- other conditions hold. One of these is so.
pub record SaysFirst (v : List PureValue) (fits : Fact → Bool) (fs : List Fact) (x : PureChoice) : Type 0 where
  pub cover : OneOf (λ c. IsTrue (all_true v c.conds)) x.found ⊎ Hold v x.none
  pub found : Each (λ c. IsTrue (all_true v c.conds) → (f : FoundFact) × ((first_fact fits fs ≡ Some f) × (f.place ≡ c.place))) x.found
  pub none : Hold v x.none → first_fact fits fs ≡ None

abbrev pub ChoosesFact : List PureFact → List ℕ → List PureTerm → PureOuts → PureChoice → Type 0
ChoosesFact cs pred ins known x =
    (vars : List Sort) (v ws : List PureValue) (os : List (Option PureValue)) (fs : List Fact) → IsProper vars v
    → Each (λ c. AreEachOver vars (c.ins ++ c.outs)) cs → AreEachOver vars ins → AreOutsOver vars known → AreFacts v cs fs → HaveValues v ins ws
    → AreOuts v known os → SaysFirst v (fits_fact pred ws os) fs x

abbrev pub ChoiceStaysOver : List PureFact → List PureTerm → PureOuts → PureChoice → Type 0
ChoiceStaysOver cs ins known x =
    (vars : List Sort) → Each (λ c. AreEachOver vars (c.ins ++ c.outs)) cs → AreEachOver vars ins → AreOutsOver vars known
    → Each (λ c. AreConditions vars c.conds) x.found × Each (AreConditions vars) x.none
