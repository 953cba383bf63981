-- The first place of a list at which there is a fault.
use Rattle.std.specs.Prelude.{◌≡◌, ℕ, ◌<◌, Option, Some, None}
use Rattle.assert_logic.specs.declared.checking.ModeKind.{ModeKind}

-- it is found with its fault, and no place before it has one; or no place has one
abbrev pub IsFirst : (ℕ → Option ModeKind) → Option (ℕ × ModeKind) → Type 0
IsFirst fault (Some found) = (fault found.0 ≡ Some found.1) × ((i : ℕ) → i < found.0 → fault i ≡ None)
IsFirst fault None = (i : ℕ) → fault i ≡ None
