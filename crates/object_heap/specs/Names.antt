-- The names of the actions of objects.
use Rattle.std.specs.Prelude.{ℕ, List, Bool, true, false, if◌then◌else◌, Option, Some, None, codes}
use Rattle.std.specs.Str.{bytes_eq}
use Rattle.object_heap.specs.declared.actions.ObjectAction.{ObjectAction}
use Rattle.object_heap.specs.declared.actions.ObjectAction.TheVariants.{New, Get, Set, Delete, Has, GetProto, SetProto}

-- the action that has this name
abbrev pub action_of : List ℕ → Option ObjectAction
action_of name =
    if bytes_eq name (codes "new") then Some New
    else if bytes_eq name (codes "get") then Some Get
    else if bytes_eq name (codes "set") then Some Set
    else if bytes_eq name (codes "delete") then Some Delete
    else if bytes_eq name (codes "has") then Some Has
    else if bytes_eq name (codes "getproto") then Some GetProto
    else if bytes_eq name (codes "setproto") then Some SetProto
    else None

-- `new` alone takes a new symbol
abbrev pub takes_symbol_of : Option ObjectAction → Bool
takes_symbol_of (Some New) = true
takes_symbol_of (Some Get) = false
takes_symbol_of (Some Set) = false
takes_symbol_of (Some Delete) = false
takes_symbol_of (Some Has) = false
takes_symbol_of (Some GetProto) = false
takes_symbol_of (Some SetProto) = false
takes_symbol_of None = false
