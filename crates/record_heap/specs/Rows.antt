-- The heaps of the rows that show what the actions do. The record stands at the location 3, the symbol 4 is another.
use Rattle.std.specs.Prelude.{◌≡◌, ℕ, pos, List, [], ◌∷◌, true, Option, codes}
use Rattle.gil_values.specs.Pure.{PureValue, boolean, text, symbol, kind}
use Rattle.gil_values.specs.declared.kinds.Kind.TheVariants.{Null}
use Rattle.mem_model.specs.declared.keys.Sub.TheVariants.{Name, Shape, Gone}
use Rattle.mem_model.specs.Keys.{key}
use Rattle.mem_model.specs.Pure.{PureOutcome}
use Rattle.mem_model.specs.Rows.{Entries, heap_of, at_three, a_and_b, number}
use Rattle.record_heap.specs.Table.{record_actions}

-- on the heap of these entries the action has this outcome, and leaves the heap of those entries
abbrev pub Gives : Entries → List ℕ → Option ℕ → List PureValue → PureOutcome → Entries → Type 0
Gives before action fresh args outcome after =
    record_actions.act action fresh args (heap_of before) ≡ record { outcome = outcome; heap = heap_of after }

abbrev pub loc : PureValue
loc = symbol 3

abbrev pub name : List ℕ → PureValue
name = text

abbrev pub null : PureValue
null = kind Null

-- the names a and b, and both values
abbrev pub whole : Entries
whole = at_three Shape a_and_b ∷ at_three (Name (codes "a")) (number (pos 1)) ∷ at_three (Name (codes "b")) (number (pos 2)) ∷ []

-- the same, where a is 5
abbrev pub with_five : Entries
with_five = at_three Shape a_and_b ∷ at_three (Name (codes "a")) (number (pos 5)) ∷ at_three (Name (codes "b")) (number (pos 2)) ∷ []

-- the names a and b, both of which hold Null
abbrev pub fresh_record : Entries
fresh_record = at_three Shape a_and_b ∷ at_three (Name (codes "a")) null ∷ at_three (Name (codes "b")) null ∷ []

-- b is missing
abbrev pub without_b : Entries
without_b = at_three Shape a_and_b ∷ at_three (Name (codes "a")) (number (pos 1)) ∷ []

-- a and b are missing
abbrev pub bare : Entries
bare = at_three Shape a_and_b ∷ []

-- a alone, of which no list of names is known
abbrev pub alone : Entries
alone = at_three (Name (codes "a")) (number (pos 1)) ∷ []

abbrev pub gone : Entries
gone = at_three Gone (boolean true) ∷ []

-- a record beside another one, and what is left after it was disposed of
abbrev pub two : Entries
two = at_three Shape a_and_b ∷ at_three (Name (codes "a")) (number (pos 1)) ∷ at_three (Name (codes "b")) (number (pos 2)) ∷
    (key 4 (Name (codes "a")), number (pos 7)) ∷ []

abbrev pub other_left : Entries
other_left = at_three Gone (boolean true) ∷ (key 4 (Name (codes "a")), number (pos 7)) ∷ []
