-- The names of the actions of records.
use Rattle.std.specs.Prelude.{ℕ, List, Bool, true, false, if◌then◌else◌, Option, Some, None, codes}
use Rattle.std.specs.Str.{bytes_eq}
use Rattle.record_heap.specs.declared.actions.RecordAction.{RecordAction}
use Rattle.record_heap.specs.declared.actions.RecordAction.TheVariants.{New, Lookup, Mutate, Dispose}

-- the action that has this name
abbrev pub action_of : List ℕ → Option RecordAction
action_of name =
    if bytes_eq name (codes "new") then Some New
    else if bytes_eq name (codes "lookup") then Some Lookup
    else if bytes_eq name (codes "mutate") then Some Mutate
    else if bytes_eq name (codes "dispose") then Some Dispose
    else None

-- `new` alone takes a new symbol
abbrev pub takes_symbol_of : Option RecordAction → Bool
takes_symbol_of (Some New) = true
takes_symbol_of (Some Lookup) = false
takes_symbol_of (Some Mutate) = false
takes_symbol_of (Some Dispose) = false
takes_symbol_of None = false
