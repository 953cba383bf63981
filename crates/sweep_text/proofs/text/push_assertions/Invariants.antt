use Rattle.std.proofs.Common.{◌≡◌, ◌-◌, ◌++◌, string_bytes}
use Rattle.std.specs.List.{flat_map, range_with_len}
use Rattle.sweep_text.specs.Made.{assertion_lines}
use Rattle.sweep_text.proofs.text.push_assertions.Given as goal

abbrev pub invariant-loop-number : goal.invariant-loop-number
invariant-loop-number l =
    string_bytes l.out ≡ string_bytes l.fn.out ++ flat_map assertion_lines (range_with_len l.first (l.number - l.first))
