use Rattle.std.proofs.Common.{◌≡◌, ◌<◌, length, map, take}
use Rattle.std.specs.List.{All}
use Rattle.gil_machine.specs.SlotNames.{Grows, IsNames, Names, name_at, names_of}
use Rattle.gil_machine.proofs.resolving.resolve_params.Given as goal

abbrev pub invariant-loop-param : goal.invariant-loop-param
invariant-loop-param l = record {
  names : IsNames l.names;
  resolved : (ns : Names) → Grows (names_of l.names.names.items) ns → map (name_at ns) l.slots.items ≡ take l.param-index l.params;
  placed : All (λ slot. slot < length (names_of l.names.names.items)) l.slots.items;
}
