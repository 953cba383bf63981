-- What stood its test.
use Rattle.std.specs.Prelude.{◌≡◌, ℕ, List, length}
use Rattle.linear_core.specs.declared.confirming.Confirmed.{Confirmed}
use Rattle.linear_core.specs.declared.differences.Difference.{Difference}
use Rattle.linear_core.specs.Walks.{AreModerate, AreMet, IsCycle}

-- moderate numbers of so many nodes meet all differences, or there is a cycle, or nothing is said
abbrev pub IsConfirmed : List Difference → ℕ → Confirmed → Type 0
IsConfirmed differences count (Confirmed.Numbers reaches) = (length reaches ≡ count) × AreModerate reaches × AreMet differences reaches (length differences)
IsConfirmed differences count (Confirmed.Cycle fs) = IsCycle differences fs
IsConfirmed differences count Confirmed.Nothing = Unit {0}
