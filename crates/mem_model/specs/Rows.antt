-- The entries of heaps, for the rows that show which heaps are well formed. Each has the location 3, or 3 and 4.
use Rattle.std.specs.Prelude.{ℤ, pos, negsuc, List, [], ◌∷◌, true, false, codes}
use Rattle.std.specs.FinMap.{from_entries}
use Rattle.gil_values.specs.Pure.{PureValue, integer, boolean, text, symbol, list, from_list}
use Rattle.mem_model.specs.declared.keys.Key.{Key}
use Rattle.mem_model.specs.declared.keys.Sub.{Sub}
use Rattle.mem_model.specs.declared.keys.Sub.TheVariants.{Name, At, Shape, Bound, Dom, Proto, Gone}
use Rattle.mem_model.specs.Keys.{key}
use Rattle.mem_model.specs.Heaps.{Heap}

abbrev pub Entries : Type 0
Entries = List (Key × PureValue)

-- the heap of these entries
abbrev pub heap_of : Entries → Heap
heap_of es = from_entries es

-- an entry at the location 3
abbrev pub at_three : Sub → PureValue → Key × PureValue
at_three s v = (key 3 s, v)

abbrev pub number : ℤ → PureValue
number = integer

-- ["a", "b"], and ["a", "a"]
abbrev pub a_and_b : PureValue
a_and_b = list (from_list (text (codes "a") ∷ text (codes "b") ∷ []))

abbrev pub a_twice : PureValue
a_twice = list (from_list (text (codes "a") ∷ text (codes "a") ∷ []))

-- ---- heaps that keep the rules

-- a record with the names a and b, of which a has a value
abbrev pub a_record : Entries
a_record = at_three Shape a_and_b ∷ at_three (Name (codes "a")) (number (pos 1)) ∷ []

-- a block of two cells
abbrev pub a_block : Entries
a_block = at_three Bound (number (pos 2)) ∷ at_three (At (pos 0)) (number (pos 7)) ∷ at_three (At (pos 1)) (number (pos 8)) ∷ []

-- an object with the names a and b, and a prototype
abbrev pub an_object : Entries
an_object = at_three Dom a_and_b ∷ at_three (Name (codes "b")) (number (pos 1)) ∷ at_three Proto (symbol 4) ∷ []

-- cells of which no bound is known
abbrev pub cells_alone : Entries
cells_alone = at_three (At (negsuc 0)) (number (pos 1)) ∷ at_three (At (pos 9)) (number (pos 1)) ∷ []

-- a location that is gone beside one that isn't
abbrev pub gone_beside_a_record : Entries
gone_beside_a_record = at_three Gone (boolean true) ∷ (key 4 Shape, a_and_b) ∷ (key 4 (Name (codes "a")), number (pos 1)) ∷ []

-- ---- heaps that break one rule each

abbrev pub gone_and_a_name : Entries
gone_and_a_name = at_three Gone (boolean true) ∷ at_three (Name (codes "a")) (number (pos 1)) ∷ []

abbrev pub gone_is_false : Entries
gone_is_false = at_three Gone (boolean false) ∷ []

abbrev pub shape_is_a_number : Entries
shape_is_a_number = at_three Shape (number (pos 2)) ∷ []

abbrev pub shape_of_numbers : Entries
shape_of_numbers = at_three Shape (list (from_list (number (pos 2) ∷ []))) ∷ []

abbrev pub names_twice : Entries
names_twice = at_three Dom a_twice ∷ []

abbrev pub name_outside_shape : Entries
name_outside_shape = at_three Shape a_and_b ∷ at_three (Name (codes "c")) (number (pos 1)) ∷ []

abbrev pub name_outside_dom : Entries
name_outside_dom = at_three Dom a_and_b ∷ at_three (Name (codes "c")) (number (pos 1)) ∷ []

abbrev pub bound_is_true : Entries
bound_is_true = at_three Bound (boolean true) ∷ []

abbrev pub cell_at_the_bound : Entries
cell_at_the_bound = at_three Bound (number (pos 2)) ∷ at_three (At (pos 2)) (number (pos 7)) ∷ []

abbrev pub cell_below_zero : Entries
cell_below_zero = at_three Bound (number (pos 2)) ∷ at_three (At (negsuc 0)) (number (pos 7)) ∷ []

abbrev pub record_and_block : Entries
record_and_block = at_three Shape a_and_b ∷ at_three Bound (number (pos 2)) ∷ []
