-- What tests and splits say under a valuation.
use Rattle.std.specs.Prelude.{◌≡◌, ◌⊎◌, List, [], ◌∷◌, Bool, true, false, Option, Some, None, IsTrue, ⊤}
use Rattle.gil_values.specs.Pure.{PureValue}
use Rattle.pure_terms.specs.declared.variables.Sort.{Sort}
use Rattle.pure_terms.specs.Meaning.{all_true, IsOver}
use Rattle.pure_terms.specs.Pure.{PureTerm, PureAtom, term_of}
use Rattle.sym_model.specs.Alternatives.{Hold}
use Rattle.sym_evaluation.specs.Meaning.{AreSame, HaveValues}
use Rattle.sym_evaluation.specs.Pure.{PureGoodCase}
use Rattle.sym_model.specs.Lists.{Each}
use Rattle.sym_model.specs.Meaning.{is_open}
use Rattle.sym_matching.specs.Pure.{PureTest, PureSplit, PureOuts}

-- there are conditions, and all are true
abbrev pub AreMet : List PureValue → Option (List PureAtom) → Type 0
AreMet v None = ⊥
AreMet v (Some conds) = IsTrue (all_true v conds)

-- The test says under the valuation whether this is true.
pub record SaysTest (v : List PureValue) (x : PureTest) (b : Bool) : Type 0 where
  pub cover : AreMet v x.when ⊎ Hold v x.otherwise
  pub when : AreMet v x.when → b ≡ true
  pub otherwise : Hold v x.otherwise → b ≡ false

-- something is found, and its conditions are true
abbrev pub IsReached : {X : Type 0} → List PureValue → Option (PureGoodCase X) → Type 0
IsReached v None = ⊥
IsReached v (Some g) = IsTrue (all_true v g.conds)

-- what is found stands for this
abbrev pub Gives : {X A : Type 0} → (X → A → Type 0) → Option (PureGoodCase X) → Option A → Type 0
Gives {X} {A} Is (Some g) o = (a : A) × ((o ≡ Some a) × Is g.result a)
Gives Is None o = ⊥

-- The split says under the valuation what this is: what is found stands for it where its conditions are true, and it is nothing where
-- one of the other lists of conditions is. One of these is so.
pub record SaysSplit {X A : Type 0} (v : List PureValue) (Is : X → A → Type 0) (x : PureSplit X) (o : Option A) : Type 0 where
  pub cover : IsReached v x.found ⊎ Hold v x.none
  pub found : IsReached v x.found → Gives Is x.found o
  pub none : Hold v x.none → o ≡ None

-- ---- what is named

-- the condition names only variables of the table, and isn't that a literal form is needed
abbrev pub IsCondition : List Sort → PureAtom → Type 0
IsCondition vars a = IsOver vars (term_of a) × (is_open a ≡ false)

abbrev pub AreConditions : List Sort → List PureAtom → Type 0
AreConditions vars conds = Each (IsCondition vars) conds

abbrev pub AreConditionsIfAny : List Sort → Option (List PureAtom) → Type 0
AreConditionsIfAny vars None = Unit {0}
AreConditionsIfAny vars (Some conds) = AreConditions vars conds

abbrev pub IsFoundOver : {X : Type 0} → (X → Type 0) → List Sort → Option (PureGoodCase X) → Type 0
IsFoundOver Over vars None = Unit {0}
IsFoundOver Over vars (Some g) = AreConditions vars g.conds × Over g.result

pub record IsTestOver (vars : List Sort) (x : PureTest) : Type 0 where
  pub when : AreConditionsIfAny vars x.when
  pub otherwise : Each (AreConditions vars) x.otherwise

-- the same of a split; of what is found this holds
pub record IsSplitOver {X : Type 0} (Over : X → Type 0) (vars : List Sort) (x : PureSplit X) : Type 0 where
  pub found : IsFoundOver Over vars x.found
  pub none : Each (AreConditions vars) x.none

-- ---- outs

-- an out that has a term has its value, and any other one has none
abbrev pub AreOuts : List PureValue → PureOuts → List (Option PureValue) → Type 0
AreOuts v [] [] = ⊤
AreOuts v (k ∷ ks) (o ∷ os) = AreSame v k o × AreOuts v ks os
AreOuts v _ _ = ⊥

abbrev pub IsOutOver : List Sort → Option PureTerm → Type 0
IsOutOver vars None = Unit {0}
IsOutOver vars (Some t) = IsOver vars t

abbrev pub AreOutsOver : List Sort → PureOuts → Type 0
AreOutsOver vars ks = Each (IsOutOver vars) ks

-- there are terms, and they have these values, or there are neither
abbrev pub AreTermsOfAll : List PureValue → Option (List PureTerm) → Option (List PureValue) → Type 0
AreTermsOfAll v None None = ⊤
AreTermsOfAll v (Some ts) (Some ws) = HaveValues v ts ws
AreTermsOfAll v _ _ = ⊥

abbrev pub AreEachOverIfAny : List Sort → Option (List PureTerm) → Type 0
AreEachOverIfAny vars None = Unit {0}
AreEachOverIfAny vars (Some ts) = Each (IsOver vars) ts
