-- The names of the actions of blocks.
use Rattle.std.specs.Prelude.{ℕ, List, Bool, true, false, if◌then◌else◌, Option, Some, None, codes}
use Rattle.std.specs.Str.{bytes_eq}
use Rattle.block_heap.specs.declared.actions.BlockAction.{BlockAction}
use Rattle.block_heap.specs.declared.actions.BlockAction.TheVariants.{Alloc, Load, Store, Free}

-- the action that has this name
abbrev pub action_of : List ℕ → Option BlockAction
action_of name =
    if bytes_eq name (codes "alloc") then Some Alloc
    else if bytes_eq name (codes "load") then Some Load
    else if bytes_eq name (codes "store") then Some Store
    else if bytes_eq name (codes "free") then Some Free
    else None

-- `alloc` alone takes a new symbol
abbrev pub takes_symbol_of : Option BlockAction → Bool
takes_symbol_of (Some Alloc) = true
takes_symbol_of (Some Load) = false
takes_symbol_of (Some Store) = false
takes_symbol_of (Some Free) = false
takes_symbol_of None = false
