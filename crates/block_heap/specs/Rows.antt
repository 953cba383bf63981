-- The heaps of the rows that show what the actions do. The block stands at the location 3, the symbol 4 is another.
use Rattle.std.specs.Prelude.{◌≡◌, ◌⊎◌, ℕ, ℤ, pos, ◌≤ℤ◌, ◌<ℤ◌, List, [], ◌∷◌, true, Option, Some, codes}
use Rattle.gil_values.specs.Pure.{PureValue, integer, boolean, text}
use Rattle.mem_model.specs.declared.keys.Sub.TheVariants.{At, Bound, Gone}
use Rattle.mem_model.specs.Keys.{key}
use Rattle.mem_model.specs.Pure.{PureOutcome, done, failed}
use Rattle.mem_model.specs.Heaps.{Heap}
use Rattle.mem_model.specs.Rows.{Entries, heap_of, at_three, number}
use Rattle.block_heap.specs.Table.{address, block_actions}

-- on the heap of these entries the action has this outcome, and leaves the heap of those entries
abbrev pub Gives : Entries → List ℕ → Option ℕ → List PureValue → PureOutcome → Entries → Type 0
Gives before action fresh args outcome after =
    block_actions.act action fresh args (heap_of before) ≡ record { outcome = outcome; heap = heap_of after }

-- the address of a cell
abbrev pub cell : ℤ → PureValue
cell i = address 3 i

-- two cells, and their values
abbrev pub whole : Entries
whole = at_three Bound (number (pos 2)) ∷ at_three (At (pos 0)) (number (pos 7)) ∷ at_three (At (pos 1)) (number (pos 8)) ∷ []

-- the same, where cell 1 is 5
abbrev pub with_five : Entries
with_five = at_three Bound (number (pos 2)) ∷ at_three (At (pos 0)) (number (pos 7)) ∷ at_three (At (pos 1)) (number (pos 5)) ∷ []

-- two cells, each 0
abbrev pub fresh_block : Entries
fresh_block = at_three Bound (number (pos 2)) ∷ at_three (At (pos 0)) (number (pos 0)) ∷ at_three (At (pos 1)) (number (pos 0)) ∷ []

-- no cells
abbrev pub none : Entries
none = at_three Bound (number (pos 0)) ∷ []

-- cell 1 is missing
abbrev pub without_one : Entries
without_one = at_three Bound (number (pos 2)) ∷ at_three (At (pos 0)) (number (pos 7)) ∷ []

-- both cells are missing
abbrev pub bare : Entries
bare = at_three Bound (number (pos 2)) ∷ []

-- a cell alone, of which no bound is known
abbrev pub alone : Entries
alone = at_three (At (pos 0)) (number (pos 7)) ∷ []

abbrev pub gone : Entries
gone = at_three Gone (boolean true) ∷ []

-- a block beside a cell of another one, and what is left after it was freed
abbrev pub two : Entries
two = at_three Bound (number (pos 2)) ∷ at_three (At (pos 0)) (number (pos 7)) ∷ at_three (At (pos 1)) (number (pos 8)) ∷
    (key 4 (At (pos 0)), number (pos 9)) ∷ []

abbrev pub other_left : Entries
other_left = at_three Gone (boolean true) ∷ (key 4 (At (pos 0)), number (pos 9)) ∷ []

-- a block of every size from 0 to 10,000 is given
abbrev pub SizesAreGiven : Type 0
SizesAreGiven =
    (l : ℕ) (n : ℤ) (h : Heap) → pos 0 ≤ℤ n → n ≤ℤ pos 10000
    → (block_actions.act (codes "alloc") (Some l) (integer n ∷ []) h).outcome ≡ done (address l (pos 0))

-- no other size is
abbrev pub OtherSizesFail : Type 0
OtherSizesFail =
    (fresh : Option ℕ) (n : ℤ) (h : Heap) → (n <ℤ pos 0) ⊎ (pos 10000 <ℤ n)
    → block_actions.act (codes "alloc") fresh (integer n ∷ []) h ≡ record { outcome = failed (text (codes "size")); heap = h }
