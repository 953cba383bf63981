-- The keys of heaps: their order, and the subkeys that each memory has.
use Rattle.std.specs.Prelude.{ℕ, ℤ, pos, List, [], ◌∷◌, map, Bool, true, false}
use Rattle.std.specs.Ordering.{int_cmp, on}
use Rattle.std.specs.Cmp.Lexicographic.{slice_cmp}
use Rattle.std.specs.declared.cmp.Ordering.{Ordering}
use Rattle.mem_model.specs.declared.keys.Key.{Key}
use Rattle.mem_model.specs.declared.keys.Sub.{Sub}
use Rattle.mem_model.specs.declared.keys.Sub.TheVariants.{Name, At, Shape, Bound, Dom, Proto, Gone}
use Rattle.mem_model.specs.declared.keys.MemoryName.{MemoryName}
use Rattle.mem_model.specs.declared.keys.MemoryName.TheVariants.{Record, Block, Object}

abbrev pub key : ℕ → Sub → Key
key l s = record { loc = l; sub = s }

-- a subkey as numbers: its variant, and what it holds
abbrev pub sub_numbers : Sub → List ℤ
sub_numbers (Name p) = pos 0 ∷ map pos p
sub_numbers (At i) = pos 1 ∷ i ∷ []
sub_numbers Shape = pos 2 ∷ []
sub_numbers Bound = pos 3 ∷ []
sub_numbers Dom = pos 4 ∷ []
sub_numbers Proto = pos 5 ∷ []
sub_numbers Gone = pos 6 ∷ []

abbrev pub key_numbers : Key → List ℤ
key_numbers k = pos k.loc ∷ sub_numbers k.sub

-- keys in order: by location, then by the subkey's variant, then by what it holds. Only equal keys tie.
abbrev pub key_cmp : Key → Key → Ordering
key_cmp = on key_numbers (slice_cmp int_cmp)

-- whether heaps of this memory may have the subkey
abbrev pub has_subkey : MemoryName → Sub → Bool
has_subkey Record (Name p) = true
has_subkey Record Shape = true
has_subkey Record Gone = true
has_subkey Block (At i) = true
has_subkey Block Bound = true
has_subkey Block Gone = true
has_subkey Object (Name p) = true
has_subkey Object Dom = true
has_subkey Object Proto = true
has_subkey _ _ = false
