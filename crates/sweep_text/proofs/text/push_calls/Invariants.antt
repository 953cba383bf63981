use Rattle.std.proofs.Common.{◌≡◌, ◌++◌, string_bytes}
use Rattle.std.specs.List.{flat_map, range_with_len}
use Rattle.sweep_text.specs.Made.{call_line}
use Rattle.sweep_text.proofs.text.push_calls.Given as goal

abbrev pub invariant-loop-function : goal.invariant-loop-function
invariant-loop-function l = string_bytes l.out ≡ string_bytes l.fn.out ++ flat_map call_line (range_with_len 0 l.function)
