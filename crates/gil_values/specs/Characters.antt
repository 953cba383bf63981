-- The characters of texts.
use Rattle.std.specs.Prelude.{◌≡◌, ◌⊎◌, ℕ, ◌≤◌, List, All}

-- 0x20 to 0x7E, and LF
abbrev pub IsTextCharacter : ℕ → Type 0
IsTextCharacter c = ((32 ≤ c) × (c ≤ 126)) ⊎ (c ≡ 10)

abbrev pub IsText : List ℕ → Type 0
IsText cs = All IsTextCharacter cs
