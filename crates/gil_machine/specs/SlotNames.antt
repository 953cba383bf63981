-- Slots: the variables of a procedure by numbers, each with its name.
use Rattle.std.specs.Prelude.{◌≡◌, ℕ, ◌<◌, ◌≤◌, List, [], ◌∷◌, map, length, slice_index_or, nat_eq}
use Rattle.std.specs.Str.{bytes_eq}
use denote.Ref.{Bor}
use Rattle.gil_syntax.specs.Names.{place_of, first_place}
use Rattle.gil_machine.specs.declared.slots.SlotNames.{SlotNames}

abbrev pub Names : Type 0
Names = List (List ℕ)

abbrev pub names_of : List (Bor (List ℕ)) → Names
names_of texts = map (λ text. text.now) texts

-- the name of a slot; past the last slot it is one that no text is
abbrev pub name_at : Names → ℕ → List ℕ
name_at names i = slice_index_or names i (0 ∷ [])

-- each slot has a name of its own
abbrev pub IsTable : Names → Type 0
IsTable names = (i j : ℕ) → i < length names → bytes_eq (name_at names i) (name_at names j) ≡ nat_eq i j

-- slots were added, and those before keep their names
pub record Grows (old new : Names) : Type 0 where
  pub longer : length old ≤ length new
  pub same : (i : ℕ) → i < length old → name_at new i ≡ name_at old i

-- the table of the code: each name has the slot where it stands
pub record IsNames (s : SlotNames) : Type 0 where
  pub table : IsTable (names_of s.names.items)
  pub places : (x : List ℕ) → place_of s.slots x ≡ first_place (names_of s.names.items) x
