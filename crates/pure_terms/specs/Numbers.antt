-- Ranges of whole numbers.
use Rattle.std.specs.Prelude.{◌-◌, ◌^◌, ℤ, pos, neg_ℤ, int_le, Bool, ◌&&◌}

-- whether a number lies between two others, these included
abbrev pub is_between : ℤ → ℤ → ℤ → Bool
is_between low high n = int_le low n && int_le n high

-- whether the code can hold the number: -2^127 to 2^127 - 1
abbrev pub is_held : ℤ → Bool
is_held n = is_between (neg_ℤ (pos (2 ^ 127))) (pos (2 ^ 127 - 1)) n
