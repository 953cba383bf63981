-- How a count of faults rises: a number of 64 bits whose last value stays.
use Rattle.std.specs.Prelude.{ℕ, ◌+◌, ◌-◌, ◌^◌, ◌≤◌, min}

-- one more, and the last value again where it is reached
abbrev pub next_count : ℕ → ℕ
next_count count = min (count + 1) (2 ^ 64 - 1)

-- A fault was counted since. A count that stands at its last value counts as risen.
abbrev pub FaultRose : ℕ → ℕ → Type 0
FaultRose old new = next_count old ≤ new
