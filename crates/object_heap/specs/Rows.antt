-- The heaps of the rows that show what the actions do. The object stands at the location 3, the symbol 4 is another.
use Rattle.std.specs.Prelude.{◌≡◌, ℕ, pos, List, [], ◌∷◌, Option, codes}
use Rattle.gil_values.specs.Pure.{PureValue, text, symbol, kind, list, from_list, no_values}
use Rattle.gil_values.specs.declared.kinds.Kind.TheVariants.{Null, Undef}
use Rattle.mem_model.specs.declared.keys.Sub.TheVariants.{Name, Dom, Proto}
use Rattle.mem_model.specs.Pure.{PureOutcome}
use Rattle.mem_model.specs.Rows.{Entries, heap_of, at_three, a_and_b, number}
use Rattle.object_heap.specs.Table.{object_actions}

-- on the heap of these entries the action has this outcome, and leaves the heap of those entries
abbrev pub Gives : Entries → List ℕ → Option ℕ → List PureValue → PureOutcome → Entries → Type 0
Gives before action fresh args outcome after =
    object_actions.act action fresh args (heap_of before) ≡ record { outcome = outcome; heap = heap_of after }

abbrev pub loc : PureValue
loc = symbol 3

abbrev pub name : List ℕ → PureValue
name = text

abbrev pub null : PureValue
null = kind Null

abbrev pub undef : PureValue
undef = kind Undef

abbrev pub names : List PureValue → PureValue
names ps = list (from_list ps)

-- no names, and the prototype 4 or none
abbrev pub fresh_object : Entries
fresh_object = at_three Dom (list no_values) ∷ at_three Proto (symbol 4) ∷ []

abbrev pub rootless : Entries
rootless = at_three Dom (list no_values) ∷ at_three Proto null ∷ []

-- the name a, then a and b, then b alone, then b and a
abbrev pub with_a : Entries
with_a = at_three Dom (names (name (codes "a") ∷ [])) ∷ at_three (Name (codes "a")) (number (pos 1)) ∷ at_three Proto (symbol 4) ∷ []

abbrev pub with_both : Entries
with_both =
    at_three Dom a_and_b ∷ at_three (Name (codes "a")) (number (pos 1)) ∷ at_three (Name (codes "b")) (number (pos 2)) ∷ at_three
    Proto (symbol 4) ∷ []

abbrev pub with_b : Entries
with_b = at_three Dom (names (name (codes "b") ∷ [])) ∷ at_three (Name (codes "b")) (number (pos 2)) ∷ at_three Proto (symbol 4) ∷ []

abbrev pub b_then_a : Entries
b_then_a = at_three Dom (names (name (codes "b") ∷ name (codes "a") ∷ [])) ∷ at_three (Name (codes "a")) (number (pos 7)) ∷
    at_three (Name (codes "b")) (number (pos 2)) ∷ at_three Proto (symbol 4) ∷ []

-- a holds 5
abbrev pub with_five : Entries
with_five =
    at_three Dom a_and_b ∷ at_three (Name (codes "a")) (number (pos 5)) ∷ at_three (Name (codes "b")) (number (pos 2)) ∷ at_three
    Proto (symbol 4) ∷ []

-- b is missing
abbrev pub without_b : Entries
without_b = at_three Dom a_and_b ∷ at_three (Name (codes "a")) (number (pos 1)) ∷ []

-- a alone, of which no list of names is known
abbrev pub alone : Entries
alone = at_three (Name (codes "a")) (number (pos 1)) ∷ []
