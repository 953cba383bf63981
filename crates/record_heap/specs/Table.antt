-- The actions of records. l is a location, p a name, D the list of names at `Shape`. Cases are tried in the order given.
use Rattle.std.specs.Prelude.{ℕ, List, Option, Some, None, Result, Ok, Err, if◌then◌else◌}
use Rattle.std.specs.FinMap.{insert}
use Rattle.gil_values.specs.Pure.{PureValue, kind, symbol}
use Rattle.gil_values.specs.declared.kinds.Kind.TheVariants.{Null}
use Rattle.mem_model.specs.declared.keys.Sub.TheVariants.{Name, Shape, Gone}
use Rattle.mem_model.specs.declared.failures.Failure.{Failure}
use Rattle.mem_model.specs.Keys.{key}
use Rattle.mem_model.specs.Names.{is_name_list}
use Rattle.mem_model.specs.Heaps.{Heap}
use Rattle.mem_model.specs.Actions.{Actions, ActionResult}
use Rattle.mem_model.specs.Arguments.{and_then, one_of, location_in, property_in, property_and_value_in}
use Rattle.mem_model.specs.Tables.{does, fails, misses, at, unlisted_at, read_or_fail, names_of, name_keys, created, dispose_whole}
use Rattle.record_heap.specs.declared.actions.RecordAction.{RecordAction}
use Rattle.record_heap.specs.declared.actions.RecordAction.TheVariants.{New, Lookup, Mutate, Dispose}
use Rattle.record_heap.specs.Names.{action_of, takes_symbol_of}

-- a list of distinct texts
abbrev pub name_list_of : PureValue → Result PureValue Failure
name_list_of d = if is_name_list d then Ok d else Err Failure.Kind

abbrev pub name_list_in : List PureValue → Result PureValue Failure
name_list_in args = and_then (one_of args) name_list_of

-- `new(d)`, with the new symbol l: `Shape` is d, and each name holds Null; done with l
abbrev pub new : Option ℕ → PureValue → Heap → ActionResult
new (Some l) d h = does (symbol l) (created (key l Shape) d (name_keys l (names_of d)) (kind Null) h)
new None d h = fails Failure.Action h

-- the cases of `lookup` and `mutate` where l has no p: `Gone` fails with "gone"; `Shape` without p fails with "absent";
-- else a miss of (l, p)
abbrev pub no_property : ℕ → List ℕ → Heap → ActionResult
no_property l p h =
    at h (key l Gone) (λ _. fails Failure.Gone h)
    (unlisted_at h (key l Shape) p (λ _. fails Failure.Absent h)
    (misses (key l (Name p)) h))

-- `lookup(l, p)`: p in l is done with its value
abbrev pub lookup : ℕ → List ℕ → Heap → ActionResult
lookup l p h = at h (key l (Name p)) (λ v. does v h) (no_property l p h)

-- `mutate(l, p, v)`: p in l holds v then; done with v
abbrev pub mutate : ℕ → List ℕ → PureValue → Heap → ActionResult
mutate l p v h = at h (key l (Name p)) (λ _. does v (insert h (key l (Name p)) v)) (no_property l p h)

-- `dispose(l)`: `Gone` fails with "gone"; no `Shape` is a miss of it; some name of D that is missing is a miss at the
-- first; else all keys go, `Gone` holds true, and it is done with true
abbrev pub dispose : ℕ → Heap → ActionResult
dispose l h =
    at h (key l Gone) (λ _. fails Failure.Gone h)
    (at h (key l Shape) (λ d. dispose_whole l (name_keys l (names_of d)) h)
    (misses (key l Shape) h))

-- each action by its arguments, which are read before the heap is looked at
abbrev pub act_of : Option RecordAction → Option ℕ → List PureValue → Heap → ActionResult
act_of (Some New) fresh args h = read_or_fail (name_list_in args) (λ d. new fresh d h) h
act_of (Some Lookup) fresh args h = read_or_fail (property_in args) (λ (l, p). lookup l p h) h
act_of (Some Mutate) fresh args h = read_or_fail (property_and_value_in args) (λ (l, p, v). mutate l p v h) h
act_of (Some Dispose) fresh args h = read_or_fail (location_in args) (λ l. dispose l h) h
act_of None fresh args h = fails Failure.Action h

-- the memory of records
abbrev pub record_actions : Actions
record_actions = record { takes_symbol = λ name. takes_symbol_of (action_of name); act = λ name. act_of (action_of name) }
