-- What comes next of a path at a command, and the paths of a step.
use Rattle.std.specs.Prelude.{ℕ, ℤ, List, [], ◌∷◌, IsTrue}
use Rattle.gil_values.specs.declared.places.Place.{Place}
use Rattle.gil_values.specs.Pure.{PureValue}
use Rattle.gil_syntax.specs.Pure.{PureParts, PureCommand}
use Rattle.gil_syntax.specs.Simple.{is_simple_command}
use Rattle.mem_model.specs.Actions.{Actions}
use Rattle.mem_model.specs.Heaps.{Heap}
use Rattle.pure_terms.specs.Pure.{PureTerm}
use Rattle.sym_engine.specs.Forms.{NeedWhatMattersIn}
use Rattle.sym_engine.specs.Lawful.{AreLawfulIn, IsOwnAt, IsAskedByMemoryAt}
use Rattle.sym_engine.specs.Narrow.{StayNarrowIn, StaysNarrow}
use Rattle.sym_engine.specs.Placed.{GoesOnAtCommands}
use Rattle.sym_engine.specs.Plain.{StayPlainIn}
use Rattle.sym_model.specs.Lists.{Each}
use Rattle.sym_model.specs.Terms.{StateTerms}
use Rattle.sym_paths.specs.Forms.{NeedsWhatMatters}
use Rattle.sym_paths.specs.Pure.{PurePath}
use Rattle.sym_paths.specs.Steps.{AreNextPaths, IsPlainPath, StaysWithin}
use Rattle.sym_step.specs.View.{PureNext, alone, asked as are_asked}

module _ {S : Type 0} (p : PureParts) (m : Actions) (stands : S → List PureValue → Heap → Type 0) (terms : S → StateTerms)
    (asked : List ℕ → List PureTerm → List PureTerm × List PureTerm) (depends : S → List ℕ → List PureTerm → List PureValue → Heap → PureTerm → Type 0)
    (plain : S → ℤ → ℤ → Type 0) (keeps_plain keeps_narrow : Type 0) (path : PurePath S) where
  -- The paths of a step: they keep the laws of a step, those that go on stand at commands, at commands of simple form plain paths stay
  -- plain, at those of narrow form narrow paths stay narrow, and at actions they need only literal forms that matter.
  pub record AreStepped (nexts : List (PurePath S)) : Type 0 where
    pub next : AreNextPaths p m stands terms (IsOwnAt stands terms asked m p path) (IsAskedByMemoryAt stands terms asked m p path) path nexts
    pub placed : Each (GoesOnAtCommands p) nexts
    pub simple : keeps_plain → StaysWithin p (λ c. IsTrue (is_simple_command c)) (IsPlainPath plain) path nexts
    pub narrow : keeps_narrow → StaysNarrow p terms path nexts
    pub forms : Each (NeedsWhatMatters p stands depends path) nexts

  -- What comes next at the command of this place: the one path of the step, or lawful candidates.
  abbrev pub IsNext : Place → PureCommand → PureNext S → Type 0
  IsNext here command (alone next) = AreStepped (next ∷ [])
  IsNext here command (are_asked cs) =
      AreLawfulIn stands terms asked m p path here command cs × (keeps_plain → StayPlainIn plain p path command cs)
      × NeedWhatMattersIn stands terms depends p path command cs × (keeps_narrow → StayNarrowIn terms p path command cs)
