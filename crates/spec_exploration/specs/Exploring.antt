-- Explorations of checked paths, and what holds of their starts where nothing is left.
use Rattle.std.specs.Prelude.{◌≡◌, ◌⊎◌, ℕ, ◌-◌, ◌≤◌, List, [], ◌∷◌, ◌++◌, Bool, Option, Some, None, IfSome, IsSome, map, ⊤}
use Rattle.gil_syntax.specs.Pure.{PureParts}
use Rattle.mem_model.specs.declared.keys.MemoryName.{MemoryName}
use Rattle.mem_model.specs.Actions.{Actions}
use Rattle.mem_model.specs.Heaps.{Heap}
use Rattle.gil_values.specs.declared.places.Place.{Place}
use Rattle.gil_values.specs.Pure.{PureValue}
use Rattle.sym_model.specs.Lists.{Each, OneOf}
use Rattle.sym_model.specs.Terms.{StateTerms}
use Rattle.sym_paths.specs.Pure.{PurePath}
use Rattle.sym_paths.specs.Steps.{IsPlaceOf}
use Rattle.checked_paths.specs.Accounting.{AreChosen, IsAccounted, OfFurther}
use Rattle.checked_paths.specs.Causes.{PureCause, bound, cause_view, shown_of}
use Rattle.checked_paths.specs.Covering.{IsCaused}
use Rattle.checked_paths.specs.declared.checking.Entered.{Entered}
use Rattle.checked_paths.specs.declared.nexts.Cause.{Cause}
use Rattle.checked_paths.specs.Meaning.{MayGoOn}
use Rattle.checked_paths.specs.Pure.{PureEntry, PureChecking, PureNext, further, over, caused}
use Rattle.checked_paths.specs.View.{checking_view}
use Rattle.spec_causes.specs.declared.meeting.Met.{Met}
use Rattle.spec_causes.specs.Reaching.{IsReached, IsFoundCause}
use Rattle.spec_causes.specs.Showing.{IsShownAs}
use Rattle.spec_exploration.specs.Calls.{IsUsedByRuns}
use Rattle.spec_exploration.specs.declared.exploration.Exploration.{Exploration}

-- the paths that are left, the next one last; the cause that was found, if there is one; and the names of the specifications used
pub record PureExploration (S : Type 0) : Type 0 where
  pub left : List (PureChecking S)
  pub cause : Option Cause
  pub uses : List (List ℕ)

abbrev pub exploration_view : {S : Type 0} → Exploration S → PureExploration S
exploration_view x = record { left = map checking_view x.left.items; cause = x.found.cause; uses = x.found.uses }

-- the paths among answers that go on
abbrev pub furthers : {S : Type 0} → List (PureNext S) → List (PureChecking S)
furthers [] = []
furthers (further x ∷ ns) = x ∷ furthers ns
furthers (over ∷ ns) = furthers ns
furthers (caused cause ∷ ns) = furthers ns

-- some cause is named, and it is the old one or the new one
pub record IsNamed (old : Option Cause) (new : Cause) (o : Option Cause) : Type 0 where
  pub some : IsSome o
  pub which : (o ≡ old) ⊎ (o ≡ Some new)

-- The paths that go on are left besides; a cause among the answers is not forgotten, and each cause is an old one or among them.
pub record AreTaken {S : Type 0} (before : PureExploration S) (ns : List (PureNext S)) (after : PureExploration S) : Type 0 where
  pub left : after.left ≡ before.left ++ furthers ns
  pub no_cause : after.cause ≡ None → (before.cause ≡ None) × Each (λ n. ¬ IsCaused n) ns
  pub cause : (c : Cause) → after.cause ≡ Some c → (before.cause ≡ Some c) ⊎ OneOf (λ n. n ≡ caused c) ns
  pub uses : after.uses ≡ before.uses

-- the cause shows the path where it stands: the bound was reached
abbrev pub IsCutAt : {S : Type 0} → PureParts → PurePath S → PureCause → Type 0
IsCutAt p path cause = (here : Place) × (IsPlaceOf p path.stack here × (cause ≡ bound (shown_of here path)))

-- each path that is left may go on
abbrev pub ArePlaced : {S : Type 0} → PureParts → (S → StateTerms) → PureEntry → PureExploration S → Type 0
ArePlaced p terms e x = Each (MayGoOn p terms e) x.left

-- a start that goes on may do so, and has done no step
abbrev pub StartPlaced : {S : Type 0} → PureParts → (S → StateTerms) → PureEntry → PureNext S → Type 0
StartPlaced p terms e (further x) = MayGoOn p terms e x × (x.path.steps ≡ 0)
StartPlaced p terms e over = ⊤
StartPlaced p terms e (caused cause) = ⊤

-- the cause is shown, if there is one, beside the terms of the entry
abbrev pub IsMetOf : Option Cause → Entered → Option Met → Type 0
IsMetOf (Some cause) entered (Some met) = (met.entered ≡ entered) × IsShownAs (cause_view cause) (cause_view met.cause)
IsMetOf None entered None = ⊤
IsMetOf _ _ _ = ⊥

module _ {S : Type 0} (p : PureParts) (memory : MemoryName) (m : Actions) (stands : S → List PureValue → Heap → Type 0)
    (e : PureEntry) (most : ℕ) where
  -- no cause was found, the specifications used are chosen ones, and each path that is left is accounted for within the bound
  pub record IsSettled (chosen : List ℕ → Bool) (x : PureExploration S) : Type 0 where
    pub no_cause : x.cause ≡ None
    pub names_chosen : AreChosen chosen x.uses
    pub accounted : Each (λ y. IsAccounted p memory m stands e chosen (most - y.path.steps) y) x.left

  -- where the later exploration is settled, so is the earlier one
  abbrev pub IsSettledBy : PureExploration S → PureExploration S → Type 0
  IsSettledBy before after = (chosen : List ℕ → Bool) → IsSettled chosen after → IsSettled chosen before

  -- where the exploration is settled, each path that comes of the starts is accounted for
  abbrev pub SettlesStarts : List (PureNext S) → PureExploration S → Type 0
  SettlesStarts starts x =
      (chosen : List ℕ → Bool) → IsSettled chosen x → Each (OfFurther (IsAccounted p memory m stands e chosen most)) starts

module _ {S : Type 0} (p : PureParts) (memory : MemoryName) (m : Actions) (stands : S → List PureValue → Heap → Type 0)
    (terms : S → StateTerms) (e : PureEntry) (most : ℕ) where
  -- runs reach the path, within the bound
  pub record IsReachedWithin (x : PureChecking S) : Type 0 where
    pub reached : IsReached p memory m stands terms e x
    pub within : x.path.steps ≤ most

  -- an answer is a path that runs reach, or a cause with its runs
  abbrev pub IsReachedNext : PureNext S → Type 0
  IsReachedNext (further x) = IsReachedWithin x
  IsReachedNext over = ⊤
  IsReachedNext (caused cause) = IsFoundCause p memory m e most (cause_view cause)

  -- runs reach each path that is left, the cause that was found is one with its runs, and runs use each specification that is named
  pub record AreReached (x : PureExploration S) : Type 0 where
    pub left : Each IsReachedWithin x.left
    pub cause : IfSome x.cause (λ c. IsFoundCause p memory m e most (cause_view c))
    pub uses : Each (IsUsedByRuns p memory m e.spec most) x.uses
