use Rattle.std.proofs.Common.{◌≡◌, ◌++◌, map, take, string_bytes}
use Rattle.std.specs.List.{flat_map}
use Rattle.gil_syntax.specs.View.{assertion_view}
use Rattle.syntax_print.specs.Assertions.{printed_block}
use Rattle.gil_report.proofs.specifications.push_blocks.Given as goal

abbrev pub invariant-loop-assertion : goal.invariant-loop-assertion
invariant-loop-assertion l =
    string_bytes l.out ≡ string_bytes l.fn.out ++ flat_map (λ items. l.before ++ printed_block items) (map assertion_view (take l.assertion-index l.assertions))
