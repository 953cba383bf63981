-- What checked runs show: where none of a set of specifications that use only each other has a fault, each of them holds.
use Rattle.std.specs.Prelude.{◌≡◌, ℕ, List, Bool, Some, IsTrue}
use Rattle.gil_syntax.specs.Programs.{find_spec}
use Rattle.gil_syntax.specs.Pure.{PureSpec, PureParts}
use Rattle.gil_syntax.specs.Valid.{IsValid}
use Rattle.gil_syntax.specs.WellMade.{is_well_made}
use Rattle.mem_model.specs.declared.keys.MemoryName.{MemoryName}
use Rattle.mem_model.specs.Actions.{Actions, IsMemory}
use Rattle.assert_logic.specs.Modes.{HasModes}
use Rattle.checked_runs.specs.Checked.{HasNoFault, UsesOnly}
use Rattle.checked_runs.specs.Specifications.{SpecHolds}

-- a specification of the program with one of these names
pub record IsChosen (p : PureParts) (chosen : List ℕ → Bool) (s : PureSpec) : Type 0 where
  pub found : find_spec p.specs s.name ≡ Some s
  pub is_chosen : IsTrue (chosen s.name)

-- No checked run of a specification with one of these names has a fault, and each specification that one uses has one of them too.
pub record AreVerified (p : PureParts) (memory : MemoryName) (m : Actions) (chosen : List ℕ → Bool) : Type 0 where
  pub no_fault : (s : PureSpec) → IsChosen p chosen s → HasNoFault p memory m s
  pub uses_only : (s : PureSpec) → IsChosen p chosen s → UsesOnly p memory m chosen s

-- The frame theorem. Mutual recursion is no circle: what a call is told by its specification was shown of fewer steps.
abbrev pub VerifiedSpecificationsHold : Type 0
VerifiedSpecificationsHold =
    (p : PureParts) (memory : MemoryName) (m : Actions) (chosen : List ℕ → Bool)
    → IsTrue (is_well_made p) → IsValid p → HasModes p memory → IsMemory memory m → AreVerified p memory m chosen
    → (s : PureSpec) → IsChosen p chosen s → SpecHolds p memory m s
