-- The actions of objects. l is a location, p a name, D the list of names at `Dom`. Cases are tried in the order given.
use Rattle.std.specs.Prelude.{ℕ, List, [], ◌∷◌, ◌++◌, true, not, filter, Option, Some, None, Result, Ok, Err, if◌then◌else◌}
use Rattle.std.specs.FinMap.{insert, remove}
use Rattle.gil_values.specs.Pure.{PureValue, boolean, text, symbol, kind, list, no_values, from_list, to_list}
use Rattle.gil_values.specs.Equality.{same_value}
use Rattle.gil_values.specs.declared.kinds.Kind.TheVariants.{Undef, Null}
use Rattle.mem_model.specs.declared.keys.Sub.TheVariants.{Name, Dom, Proto}
use Rattle.mem_model.specs.declared.failures.Failure.{Failure}
use Rattle.mem_model.specs.Keys.{key}
use Rattle.mem_model.specs.Names.{lists_name}
use Rattle.mem_model.specs.Heaps.{Heap}
use Rattle.mem_model.specs.Actions.{Actions, ActionResult}
use Rattle.mem_model.specs.Arguments.{and_then, one_of, two_of, symbol_of, location_in, property_in, property_and_value_in}
use Rattle.mem_model.specs.Tables.{does, fails, misses, at, unlisted_at, read_or_fail, created}
use Rattle.object_heap.specs.declared.actions.ObjectAction.{ObjectAction}
use Rattle.object_heap.specs.declared.actions.ObjectAction.TheVariants.{New, Get, Set, Delete, Has, GetProto, SetProto}
use Rattle.object_heap.specs.Names.{action_of, takes_symbol_of}

-- a symbol or Null
abbrev pub prototype_of : PureValue → Result PureValue Failure
prototype_of (symbol l) = Ok (symbol l)
prototype_of (kind Null) = Ok (kind Null)
prototype_of _ = Err Failure.Kind

abbrev pub prototype_in : List PureValue → Result PureValue Failure
prototype_in args = and_then (one_of args) prototype_of

-- a location, and a symbol or Null
abbrev pub location_and_prototype_in : List PureValue → Result (ℕ × PureValue) Failure
location_and_prototype_in args = and_then (two_of args) (λ (a, b). and_then (symbol_of a) (λ l. and_then (prototype_of b) (λ v. Ok (l, v))))

-- the list of names with p at its end
abbrev pub appended : PureValue → List ℕ → PureValue
appended (list vs) p = list (from_list (to_list vs ++ text p ∷ []))
appended d p = d

-- the list of names without p
abbrev pub without_name : PureValue → List ℕ → PureValue
without_name (list vs) p = list (from_list (filter (λ v. not (same_value (text p) v)) (to_list vs)))
without_name d p = d

-- `new(v)`, with the new symbol l: `Dom` is [], `Proto` is v; done with l
abbrev pub new : Option ℕ → PureValue → Heap → ActionResult
new (Some l) v h = does (symbol l) (created (key l Dom) (list no_values) (key l Proto ∷ []) v h)
new None v h = fails Failure.Action h

-- `get(l, p)`: p in l is done with its value; `Dom` without p is done with Undef; else a miss of (l, p)
abbrev pub get_property : ℕ → List ℕ → Heap → ActionResult
get_property l p h =
    at h (key l (Name p)) (λ v. does v h)
    (unlisted_at h (key l Dom) p (λ _. does (kind Undef) h)
    (misses (key l (Name p)) h))

-- `set(l, p, v)`: p in l holds v then; `Dom` without p: p is appended to D and holds v. Both are done with v; else a miss
-- of (l, p)
abbrev pub set_property : ℕ → List ℕ → PureValue → Heap → ActionResult
set_property l p v h =
    at h (key l (Name p)) (λ _. does v (insert h (key l (Name p)) v))
    (unlisted_at h (key l Dom) p (λ d. does v (insert (insert h (key l (Name p)) v) (key l Dom) (appended d p)))
    (misses (key l (Name p)) h))

-- `delete(l, p)`: no `Dom` is a miss of it; p that is not in D is done with true; p that is in D and missing is a miss of
-- (l, p); else p leaves D and the heap; done with true
abbrev pub delete_property : ℕ → List ℕ → Heap → ActionResult
delete_property l p h =
    at h (key l Dom)
    (λ d. if lists_name d p
    then at h (key l (Name p)) (λ _. does (boolean true) (insert (remove h (key l (Name p))) (key l Dom) (without_name d p)))
    (misses (key l (Name p)) h)
    else does (boolean true) h)
    (misses (key l Dom) h)

-- `has(l, p)`: p in l is done with true; `Dom` is done with whether p is in D; else a miss of (l, p)
abbrev pub has_property : ℕ → List ℕ → Heap → ActionResult
has_property l p h =
    at h (key l (Name p)) (λ _. does (boolean true) h)
    (at h (key l Dom) (λ d. does (boolean (lists_name d p)) h)
    (misses (key l (Name p)) h))

-- `getproto(l)`: `Proto` is done with its value; else a miss of it
abbrev pub get_prototype : ℕ → Heap → ActionResult
get_prototype l h = at h (key l Proto) (λ v. does v h) (misses (key l Proto) h)

-- `setproto(l, v)`: `Proto` is v then, done with v; else a miss of it
abbrev pub set_prototype : ℕ → PureValue → Heap → ActionResult
set_prototype l v h = at h (key l Proto) (λ _. does v (insert h (key l Proto) v)) (misses (key l Proto) h)

-- each action by its arguments, which are read before the heap is looked at
abbrev pub act_of : Option ObjectAction → Option ℕ → List PureValue → Heap → ActionResult
act_of (Some New) fresh args h = read_or_fail (prototype_in args) (λ v. new fresh v h) h
act_of (Some Get) fresh args h = read_or_fail (property_in args) (λ (l, p). get_property l p h) h
act_of (Some Set) fresh args h = read_or_fail (property_and_value_in args) (λ (l, p, v). set_property l p v h) h
act_of (Some Delete) fresh args h = read_or_fail (property_in args) (λ (l, p). delete_property l p h) h
act_of (Some Has) fresh args h = read_or_fail (property_in args) (λ (l, p). has_property l p h) h
act_of (Some GetProto) fresh args h = read_or_fail (location_in args) (λ l. get_prototype l h) h
act_of (Some SetProto) fresh args h = read_or_fail (location_and_prototype_in args) (λ (l, v). set_prototype l v h) h
act_of None fresh args h = fails Failure.Action h

-- the memory of objects
abbrev pub object_actions : Actions
object_actions = record { takes_symbol = λ name. takes_symbol_of (action_of name); act = λ name. act_of (action_of name) }
