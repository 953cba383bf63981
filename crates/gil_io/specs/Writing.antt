-- What a sink has taken, and what it has room for.
use Rattle.std.specs.Prelude.{◌<◌, ◌≤◌, ℕ, List, Option, IfSome, length, take}
use Rattle.std.specs.Io.KnownBytes.{Appends}

-- the front of the bytes, and not all of them
abbrev pub TakesPart : Option (List ℕ) → Option (List ℕ) → List ℕ → Type 0
TakesPart old new bytes = (count : ℕ) × (count < length bytes) × Appends old new (take count bytes)

-- no room is left, where the sink tells its room and its bytes
abbrev pub IsUsedUp : Option ℕ → Option (List ℕ) → Type 0
IsUsedUp room taken = IfSome room (λ most. IfSome taken (λ bytes. most ≤ length bytes))
