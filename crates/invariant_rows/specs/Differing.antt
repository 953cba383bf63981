-- Where what an invariant leaves isn't what it left before.
use Rattle.std.specs.Prelude.{◌≡◌, ◌⊎◌, ℕ, ◌<◌, List, ◌∷◌, ◌++◌, length, Option, Some, None, IsSome, ⊤}
use Rattle.gil_values.specs.Pure.{PureValue}
use Rattle.gil_syntax.specs.Evaluation.{Store, value_of}
use Rattle.gil_syntax.specs.Pure.{PureParts}
use Rattle.mem_model.specs.declared.keys.MemoryName.{MemoryName}
use Rattle.mem_model.specs.Actions.{Actions}
use Rattle.mem_model.specs.Heaps.{Heap}
use Rattle.assert_logic.specs.LogicStates.{Fact, LogicState}
use Rattle.checked_runs.specs.Checked.{Checked, Entry, Passed, AreSame, IsAsBefore, unlisted_in}
use Rattle.pure_terms.specs.declared.variables.Sort.{Sort}
use Rattle.pure_terms.specs.Meaning.{value, IsProper, IsOver}
use Rattle.pure_terms.specs.Pure.{PureTerm}
use Rattle.sym_model.specs.Alternatives.{Alternatives, Hold}
use Rattle.sym_evaluation.specs.Meaning.{HaveValues, StandsFor, IsStoreOver}
use Rattle.sym_evaluation.specs.Pure.{PureStore}
use Rattle.sym_matching.specs.Meaning.{AreConditions}
use Rattle.sym_model.specs.Cores.{zero_term}
use Rattle.sym_model.specs.Listing.{AreUnion}
use Rattle.sym_model.specs.Lists.{Each, OneOf}
use Rattle.sym_model.specs.Pure.{PureUse}
use Rattle.sym_model.specs.Terms.{StateTerms, all_of, AreEachOver}
use Rattle.sym_states.specs.Meaning.{IsFact, AreFacts}
use Rattle.sym_states.specs.Pure.{PureFact}
use Rattle.checked_paths.specs.Meaning.{AreFactsOver, IsPassed, IsPassedOver}
use Rattle.checked_paths.specs.Pure.{PurePassed}

-- conditions under which there is a difference, and a term where beside them it isn't known whether there is one
pub record PureDifference : Type 0 where
  pub alternatives : Alternatives
  pub unclear : Option PureTerm

-- where one of the alternatives holds this isn't so, and else it is
pub record Tells (v : List PureValue) (x : Alternatives) (P : Type 0) : Type 0 where
  pub otherwise : Hold v x → ¬ P
  pub cover : Hold v x ⊎ P

-- Where one of the alternatives holds this isn't so, and else it is, unless that is unclear. The term has a value.
pub record TellsIfClear (v : List PureValue) (d : PureDifference) (P : Type 0) : Type 0 where
  pub otherwise : Hold v d.alternatives → ¬ P
  pub cover : d.unclear ≡ None → Hold v d.alternatives ⊎ P
  pub has_value : (t : PureTerm) → d.unclear ≡ Some t → IsSome (value v t)

-- ---- values, facts and stores

-- the alternatives name only variables of the table, and tell under each proper valuation whether the terms have the same values
abbrev pub TellsTerms : List PureTerm → List PureTerm → Alternatives → Type 0
TellsTerms ss ts x =
    (vars : List Sort) → AreEachOver vars ss → AreEachOver vars ts
    → Each (AreConditions vars) x
    × ((v us ws : List PureValue) → IsProper vars v → HaveValues v ss us → HaveValues v ts ws → Tells v x (us ≡ ws))

-- the same of facts
abbrev pub TellsFact : PureFact → PureFact → Alternatives → Type 0
TellsFact c d x =
    (vars : List Sort) → AreEachOver vars (c.ins ++ c.outs) → AreEachOver vars (d.ins ++ d.outs)
    → Each (AreConditions vars) x × ((v : List PureValue) (f g : Fact) → IsProper vars v → IsFact v c f → IsFact v d g → Tells v x (f ≡ g))

abbrev pub TellsFacts : List PureFact → List PureFact → Alternatives → Type 0
TellsFacts cs ds x =
    (vars : List Sort) → AreFactsOver vars cs → AreFactsOver vars ds
    → Each (AreConditions vars) x
    × ((v : List PureValue) (fs gs : List Fact) → IsProper vars v → AreFacts v cs fs → AreFacts v ds gs → Tells v x (fs ≡ gs))

module _ (bs cs : PureStore) where
  -- whether a name has the same value in both stores, or none in both
  abbrev pub TellsName : List ℕ → Alternatives → Type 0
  TellsName y x =
      (vars : List Sort) → IsStoreOver vars bs → IsStoreOver vars cs
      → Each (AreConditions vars) x
      × ((v : List PureValue) (s t : Store) → IsProper vars v → StandsFor v bs s → StandsFor v cs t → Tells v x (value_of s y ≡ value_of t y))

  -- the same of the names of a store
  abbrev pub TellsNames : PureStore → Alternatives → Type 0
  TellsNames names x =
      (vars : List Sort) → IsStoreOver vars bs → IsStoreOver vars cs
      → Each (AreConditions vars) x
      × ((v : List PureValue) (s t : Store) → IsProper vars v → StandsFor v bs s → StandsFor v cs t
      → Tells v x (Each (λ b. value_of s b.name ≡ value_of t b.name) names))

  -- the same of all names
  abbrev pub TellsStores : Alternatives → Type 0
  TellsStores x =
      (vars : List Sort) → IsStoreOver vars bs → IsStoreOver vars cs
      → Each (AreConditions vars) x
      × ((v : List PureValue) (s t : Store) → IsProper vars v → StandsFor v bs s → StandsFor v cs t → Tells v x (AreSame s t))

-- ---- heaps

abbrev pub AreUsesOver : List Sort → List PureUse → Type 0
AreUsesOver vars us = Each (λ u. AreEachOver vars (u.ins ++ u.outs)) us

abbrev pub IsOverIfAny : List Sort → Option PureTerm → Type 0
IsOverIfAny vars (Some t) = IsOver vars t
IsOverIfAny vars None = ⊤

-- whether the heaps of two lists of uses are the same
abbrev pub TellsHeaps : List PureUse → List PureUse → PureDifference → Type 0
TellsHeaps us ts d =
    (vars : List Sort) → AreUsesOver vars us → AreUsesOver vars ts
    → Each (AreConditions vars) d.alternatives × IsOverIfAny vars d.unclear
    × ((v : List PureValue) (g h : Heap) → IsProper vars v → AreUnion v us g → AreUnion v ts h → TellsIfClear v d (g ≡ h))

-- the same with one use more before each list
abbrev pub TellsNext : PureUse → PureUse → PureDifference → PureDifference → Type 0
TellsNext u t later d = (us ts : List PureUse) → TellsHeaps us ts later → TellsHeaps (u ∷ us) (t ∷ ts) d

-- the use has ins, and one out
abbrev pub HoldsOne : PureUse → Type 0
HoldsOne u = (0 < length u.ins) × (length u.outs ≡ 1)

-- of one core predicate, with the same ins, and both with one out: so they say the value of one key
pub record HaveSameKey (u t : PureUse) : Type 0 where
  pub core : u.core ≡ t.core
  pub ins : u.ins ≡ t.ins
  pub first : HoldsOne u
  pub second : HoldsOne t

-- one of the ins, or a literal
abbrev pub IsTermOfKey : PureUse → PureTerm → Type 0
IsTermOfKey u t = OneOf (λ s. s ≡ t) u.ins ⊎ (t ≡ zero_term)

-- ---- what is left

-- In each program: under each proper valuation under which the memory, the facts and the store of the variables that aren't listed stand for
-- something, and the passed invariant does, whether these are as they were before.
abbrev pub TellsDifference : {S : Type 0} → (S → List PureValue → Heap → Type 0) → (S → StateTerms) → S → List PureFact → PureStore
    → PurePassed S → PureDifference → Type 0
TellsDifference stands terms memory facts unlisted former d =
    (vars : List Sort) → AreEachOver vars (all_of (terms memory)) → AreFactsOver vars facts → IsStoreOver vars unlisted
    → IsPassedOver terms vars former
    → Each (AreConditions vars) d.alternatives × IsOverIfAny vars d.unclear
    × ((p : PureParts) (name : MemoryName) (m : Actions) (entry : Entry) (v : List PureValue) (xs : List (List ℕ)) (q : Passed)
    (left : LogicState) (c : Checked) → IsProper vars v → stands memory v left.heap → AreFacts v facts left.facts
    → StandsFor v unlisted (unlisted_in xs c.machine.current.store) → IsPassed stands v former q
    → TellsIfClear v d (IsAsBefore p name m entry xs q left c))
