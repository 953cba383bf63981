use Rattle.std.proofs.Common.{◌≡◌, ◌++◌, map, take, string_bytes}
use Rattle.std.specs.Prelude.{codes}
use Rattle.std.specs.List.{join_by}
use Rattle.gil_syntax.specs.View.{assertion_view}
use Rattle.syntax_print.specs.Assertions.{printed_block}
use Rattle.syntax_print.proofs.assertions.push_blocks.Given as goal

abbrev pub invariant-loop-index : goal.invariant-loop-index
invariant-loop-index l = string_bytes l.out ≡ string_bytes l.fn.out ++ join_by printed_block (codes " ") (take l.index (map assertion_view l.assertions))
