-- The actions of blocks. l is a location, i an offset, n the number at `Bound`; an address is a list of l and i. Cases are
-- tried in the order given.
use Rattle.std.specs.Prelude.{ℕ, zero, suc, ◌+◌, ℤ, pos, List, [], ◌∷◌, Bool, false, ◌&&◌, ◌||◌, Option, Some, None, Result, Ok, Err, if◌then◌else◌}
use Rattle.std.specs.Int.Signed.{le_z, lt_z}
use Rattle.std.specs.Ordering.{int_eq}
use Rattle.std.specs.FinMap.{insert}
use Rattle.gil_values.specs.Pure.{PureValue, integer, symbol, list, from_list, to_list}
use Rattle.mem_model.specs.declared.keys.Key.{Key}
use Rattle.mem_model.specs.declared.keys.Sub.TheVariants.{At, Bound, Gone}
use Rattle.mem_model.specs.declared.failures.Failure.{Failure}
use Rattle.mem_model.specs.Keys.{key}
use Rattle.mem_model.specs.Heaps.{Heap}
use Rattle.mem_model.specs.Actions.{Actions, ActionResult}
use Rattle.mem_model.specs.Arguments.{and_then, one_of, two_of, symbol_of}
use Rattle.mem_model.specs.Tables.{does, fails, misses, at, read_or_fail, created, dispose_whole}
use Rattle.block_heap.specs.declared.actions.BlockAction.{BlockAction}
use Rattle.block_heap.specs.declared.actions.BlockAction.TheVariants.{Alloc, Load, Store, Free}
use Rattle.block_heap.specs.Names.{action_of, takes_symbol_of}

-- ---- arguments

abbrev pub number_of : PureValue → Result ℤ Failure
number_of (integer n) = Ok n
number_of _ = Err Failure.Kind

abbrev pub address : ℕ → ℤ → PureValue
address l i = list (from_list (symbol l ∷ integer i ∷ []))

-- the location and the offset of an address
abbrev pub address_parts : List PureValue → Result (ℕ × ℤ) Failure
address_parts (a ∷ b ∷ []) = and_then (symbol_of a) (λ l. and_then (number_of b) (λ i. Ok (l, i)))
address_parts _ = Err Failure.Kind

abbrev pub address_of : PureValue → Result (ℕ × ℤ) Failure
address_of (list vs) = address_parts (to_list vs)
address_of _ = Err Failure.Kind

abbrev pub number_in : List PureValue → Result ℤ Failure
number_in args = and_then (one_of args) number_of

abbrev pub address_in : List PureValue → Result (ℕ × ℤ) Failure
address_in args = and_then (one_of args) address_of

abbrev pub address_and_value_in : List PureValue → Result (ℕ × ℤ × PureValue) Failure
address_and_value_in args = and_then (two_of args) (λ (a, v). and_then (address_of a) (λ (l, i). Ok (l, i, v)))

-- ---- cells

-- the keys of so many cells, from an offset on
abbrev pub cells_from : ℕ → ℕ → ℕ → List Key
cells_from l i zero = []
cells_from l i (suc n) = key l (At (pos i)) ∷ cells_from l (i + 1) n

abbrev pub cell_keys : ℕ → ℕ → List Key
cell_keys l n = cells_from l 0 n

-- how many cells a bound tells of
abbrev pub count_of : PureValue → ℕ
count_of (integer (pos n)) = n
count_of _ = 0

-- the sizes that a block may have
abbrev pub is_size : ℤ → Bool
is_size n = le_z (pos 0) n && le_z n (pos 10000)

-- whether an offset is outside a bound
abbrev pub is_outside : PureValue → ℤ → Bool
is_outside (integer n) i = lt_z i (pos 0) || le_z n i
is_outside _ i = false

-- ---- the table

-- `alloc(n)`, with the new symbol l: n outside 0 to 10,000 fails with "size"; else `Bound` is n, cells 0 to n-1 hold 0;
-- done with [l, 0]
abbrev pub allocated : Option ℕ → ℤ → Heap → ActionResult
allocated (Some l) n h =
    does (address l (pos 0)) (created (key l Bound) (integer n) (cell_keys l (count_of (integer n))) (integer (pos 0)) h)
allocated None n h = fails Failure.Action h

abbrev pub alloc_block : Option ℕ → ℤ → Heap → ActionResult
alloc_block fresh n h = if is_size n then allocated fresh n h else fails Failure.Size h

-- where l has a bound and i is outside of it: "bound"; and else the cases that follow
abbrev pub bounded : Heap → ℕ → ℤ → ActionResult → ActionResult
bounded h l i otherwise = at h (key l Bound) (λ n. if is_outside n i then fails Failure.Bound h else otherwise) otherwise

-- `load([l, i])`: `Gone` fails with "gone"; `Bound` with i < 0 or i >= n fails with "bound"; cell i is done with its value;
-- else a miss of (l, i)
abbrev pub load : ℕ → ℤ → Heap → ActionResult
load l i h =
    at h (key l Gone) (λ _. fails Failure.Gone h)
    (bounded h l i
    (at h (key l (At i)) (λ v. does v h)
    (misses (key l (At i)) h)))

-- `store([l, i], v)`: as `load`; the cell holds v then, done with v
abbrev pub store : ℕ → ℤ → PureValue → Heap → ActionResult
store l i v h =
    at h (key l Gone) (λ _. fails Failure.Gone h)
    (bounded h l i
    (at h (key l (At i)) (λ _. does v (insert h (key l (At i)) v))
    (misses (key l (At i)) h)))

-- `free([l, i])`: i that isn't 0 fails with "free"; `Gone` fails with "gone"; no `Bound` is a miss of it; some cell that is
-- missing is a miss at the least; else all keys go, `Gone` holds true, and it is done with true
abbrev pub free : ℕ → ℤ → Heap → ActionResult
free l i h =
    if int_eq i (pos 0)
    then at h (key l Gone) (λ _. fails Failure.Gone h)
    (at h (key l Bound) (λ n. dispose_whole l (cell_keys l (count_of n)) h)
    (misses (key l Bound) h))
    else fails Failure.Free h

-- each action by its arguments, which are read before the heap is looked at
abbrev pub act_of : Option BlockAction → Option ℕ → List PureValue → Heap → ActionResult
act_of (Some Alloc) fresh args h = read_or_fail (number_in args) (λ n. alloc_block fresh n h) h
act_of (Some Load) fresh args h = read_or_fail (address_in args) (λ (l, i). load l i h) h
act_of (Some Store) fresh args h = read_or_fail (address_and_value_in args) (λ (l, i, v). store l i v h) h
act_of (Some Free) fresh args h = read_or_fail (address_in args) (λ (l, i). free l i h) h
act_of None fresh args h = fails Failure.Action h

-- the memory of blocks
abbrev pub block_actions : Actions
block_actions = record { takes_symbol = λ name. takes_symbol_of (action_of name); act = λ name. act_of (action_of name) }
