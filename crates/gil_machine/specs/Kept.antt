-- Stores as the code keeps them: the values of slots.
use Rattle.std.specs.Prelude.{◌≡◌, ℕ, List, if◌then◌else◌, nat_eq, slice_index_or, Option, Some, None}
use Rattle.gil_values.specs.Pure.{PureValue}
use Rattle.gil_syntax.specs.Evaluation.{Store, value_of}
use Rattle.gil_machine.specs.SlotNames.{Names, name_at}

abbrev pub Kept : Type 0
Kept = List (Option PureValue)

abbrev pub kept_value : Kept → ℕ → Option PureValue
kept_value kept i = slice_index_or kept i None

-- each slot has the value that the store gives its name
abbrev pub Keeps : Names → Kept → Store → Type 0
Keeps names kept s = (i : ℕ) → kept_value kept i ≡ value_of s (name_at names i)

-- the slot has this value, and every other slot is as before
abbrev pub Sets : Kept → Kept → ℕ → PureValue → Type 0
Sets old new i v = (j : ℕ) → kept_value new j ≡ (if nat_eq i j then Some v else kept_value old j)
