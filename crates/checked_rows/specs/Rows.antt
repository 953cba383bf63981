-- What the row of a command answers.
use Rattle.std.specs.Prelude.{◌≡◌, ℕ, List, [], ◌∷◌, Some}
use Rattle.gil_values.specs.declared.places.Place.{Place}
use Rattle.gil_values.specs.Pure.{PureValue}
use Rattle.gil_syntax.specs.Pure.{PureParts, PureCommand, PureNumberedCommand}
use Rattle.mem_model.specs.declared.keys.MemoryName.{MemoryName}
use Rattle.mem_model.specs.Actions.{Actions}
use Rattle.mem_model.specs.Heaps.{Heap}
use Rattle.sym_model.specs.Terms.{StateTerms}
use Rattle.sym_paths.specs.Steps.{IsPlaceOf}
use Rattle.sym_paths.specs.Meaning.{command_of_path}
use Rattle.checked_paths.specs.Covering.{AreNexts}
use Rattle.checked_paths.specs.Exactness.{AreExact}
use Rattle.checked_paths.specs.Meaning.{MayGoOn}
use Rattle.checked_paths.specs.declared.nexts.Cause.{Cause}
use Rattle.checked_paths.specs.Pure.{PureEntry, PureChecking, PureNext, caused}

-- Where the checked path may go on, and stands at this command, these are the answers of its step, which uses the specifications with
-- these names.
abbrev pub AreRowOf : {S : Type 0} → PureParts → MemoryName → Actions → (S → List PureValue → Heap → Type 0) → (S → StateTerms)
    → PureEntry → PureChecking S → PureCommand → List (List ℕ) → List (PureNext S) → Type 0
AreRowOf p memory m stands terms e x command names nexts =
    (c : PureNumberedCommand) → MayGoOn p terms e x → command_of_path p x.path ≡ Some c → c.command ≡ command
    → AreNexts p memory m stands terms e x names nexts

-- ... and so does what they say of the checked runs: each path that goes on is followed by some, and each cause is one to which they come.
abbrev pub IsExactRowOf : {S : Type 0} → PureParts → MemoryName → Actions → (S → List PureValue → Heap → Type 0) → (S → StateTerms)
    → PureEntry → PureChecking S → PureCommand → Place → List (PureNext S) → Type 0
IsExactRowOf p memory m stands terms e x command here nexts =
    (c : PureNumberedCommand) → MayGoOn p terms e x → command_of_path p x.path ≡ Some c → c.command ≡ command → IsPlaceOf p x.path.stack here
    → AreExact p memory m stands e x nexts

-- one answer, which is a cause
abbrev pub IsCauseAlone : {S : Type 0} → List (PureNext S) → Type 0
IsCauseAlone nexts = (cause : Cause) × (nexts ≡ caused cause ∷ [])
