use Rattle.std.proofs.Common.{◌≡◌, map, take}
use Rattle.std.specs.List.{All}
use Rattle.gil_syntax.specs.View.{numbered_command_view}
use Rattle.gil_machine.specs.ResolvedView.{IsOverSlots, resolved_numbered_view}
use Rattle.gil_machine.specs.SlotNames.{Grows, IsNames, Names, names_of}
use Rattle.gil_machine.proofs.resolving.resolve_body.Given as goal

abbrev pub invariant-loop-numbered : goal.invariant-loop-numbered
invariant-loop-numbered l = record {
  names : IsNames l.names;
  grows : Grows (names_of l.fn.names.names.items) (names_of l.names.names.items);
  resolved : (ns : Names) → Grows (names_of l.names.names.items) ns → map (resolved_numbered_view ns) l.commands.items ≡ take l.numbered-index (map numbered_command_view l.body);
  placed : All (IsOverSlots (names_of l.names.names.items)) l.commands.items;
}
