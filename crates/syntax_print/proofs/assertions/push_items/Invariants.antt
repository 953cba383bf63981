use Rattle.std.proofs.Common.{◌≡◌, ◌++◌, map, take, string_bytes}
use Rattle.std.specs.Prelude.{codes}
use Rattle.std.specs.List.{join_by}
use Rattle.gil_syntax.specs.View.{item_view}
use Rattle.syntax_print.specs.Assertions.{printed_item}
use Rattle.syntax_print.proofs.assertions.push_items.Given as goal

abbrev pub invariant-loop-index : goal.invariant-loop-index
invariant-loop-index l = string_bytes l.out ≡ string_bytes l.fn.out ++ join_by printed_item (codes " * ") (take l.index (map item_view l.items))
