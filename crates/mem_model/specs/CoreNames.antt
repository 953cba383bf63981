-- The names of the core predicates, how many ins and outs each has, and the memories that have it. Core predicates are those of
-- Gillian, Part II (CAV 2021).
use Rattle.std.specs.Prelude.{ℕ, List, Bool, true, false, if◌then◌else◌, Option, Some, None, codes}
use Rattle.std.specs.Str.{bytes_eq}
use Rattle.mem_model.specs.declared.cores.Core.{Core}
use Rattle.mem_model.specs.declared.cores.Core.TheVariants.{Prop, Cell, Shape, Bound, Dom, Proto, Gone}
use Rattle.mem_model.specs.declared.keys.MemoryName.{MemoryName}
use Rattle.mem_model.specs.declared.keys.MemoryName.TheVariants.{Record, Block, Object}

-- the core predicate that has this name
abbrev pub core_of : List ℕ → Option Core
core_of name =
    if bytes_eq name (codes "prop") then Some Prop
    else if bytes_eq name (codes "cell") then Some Cell
    else if bytes_eq name (codes "shape") then Some Shape
    else if bytes_eq name (codes "bound") then Some Bound
    else if bytes_eq name (codes "dom") then Some Dom
    else if bytes_eq name (codes "proto") then Some Proto
    else if bytes_eq name (codes "gone") then Some Gone
    else None

abbrev pub core_name : Core → List ℕ
core_name Prop = codes "prop"
core_name Cell = codes "cell"
core_name Shape = codes "shape"
core_name Bound = codes "bound"
core_name Dom = codes "dom"
core_name Proto = codes "proto"
core_name Gone = codes "gone"

-- how many ins and outs a core predicate has: a location, with a name or an offset where there is one, and what the key holds
abbrev pub ins_of : Core → ℕ
ins_of Prop = 2
ins_of Cell = 2
ins_of _ = 1

abbrev pub outs_of : Core → ℕ
outs_of Gone = 0
outs_of _ = 1

-- whether the memory has the core predicate
abbrev pub has_core : MemoryName → Core → Bool
has_core Record Prop = true
has_core Record Shape = true
has_core Record Gone = true
has_core Block Cell = true
has_core Block Bound = true
has_core Block Gone = true
has_core Object Prop = true
has_core Object Dom = true
has_core Object Proto = true
has_core _ _ = false
