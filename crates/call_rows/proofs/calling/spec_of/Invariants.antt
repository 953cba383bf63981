use Rattle.std.proofs.Common.{◌≡◌, map, drop}
use Rattle.gil_syntax.specs.Programs.{find_spec}
use Rattle.gil_syntax.specs.View.{spec_view}
use Rattle.call_rows.proofs.calling.spec_of.Given as goal

abbrev pub invariant-loop-spec : goal.invariant-loop-spec
invariant-loop-spec l = find_spec (map spec_view l.spec-items) l.name ≡ find_spec (map spec_view (drop l.spec-index l.spec-items)) l.name
