use Rattle.std.proofs.Common.{◌≡◌, ◌++◌, map, take, string_bytes}
use Rattle.std.specs.List.{flat_map}
use Rattle.gil_syntax.specs.View.{spec_view}
use Rattle.syntax_print.specs.Programs.{printed_spec}
use Rattle.gil_print.proofs.printing.push_specs.Given as goal

abbrev pub invariant-loop-spec : goal.invariant-loop-spec
invariant-loop-spec l = string_bytes l.out ≡ string_bytes l.fn.out ++ flat_map printed_spec (map spec_view (take l.spec-index l.specs))
